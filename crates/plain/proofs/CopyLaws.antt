-- Parts copied one behind another: what stands in the copy stays there, whatever comes behind it.
use Prim.Native.Nat.{ℕ, ◌+◌, ◌-◌, ◌≤◌, ◌<◌}
use mathlib.Core.Path.{◌≡◌, refl, sym, ap, ap₂, ◌∙◌}
use mathlib.Core.Option.{Option, none, some}
use mathlib.Core.List.{List, [], ◌∷◌, ◌++◌, append_assoc, append-nil}
use native.Mathlib.Numerals.{add-one}
use native.Mathlib.Omega.{arith}
use lib.Dec.{eqb}
use lib.ListN.{length, get_or, set, take, drop, length-append, length-drop, length-set, take-append-drop, drop_of_length-le}
use lib.Seq.{length-take-le, take_all, take_at, drop_at, drop-drop, take-append_seam, take-suc, take-suc-set}
use borrow.Author.Tests.{le-leb, eq-eqb, ne_eqb}
use Rattle.std.specs.Prelude.{Option as Maybe, None}
use Rattle.definition.specs.declared.codes.Key.{Key}
use Rattle.definition.specs.declared.codes.Kind.{Kind}
use Rattle.definition.specs.declared.codes.Tag.{Tag}
use Rattle.definition.specs.Codes.{kind_number, tag_number, key_code}
use Rattle.definition.specs.Event.{legible}
use Rattle.definition.specs.Look.{Load}
use Rattle.lines.specs.Escapes.{placed, fitting, length_of}
use Rattle.lines.specs.Parts.{part, or_nothing}
use Rattle.parts.specs.declared.Part.{Part}
use Rattle.parts.specs.Walked.{Pair}
use Rattle.parts.specs.Parts.{part_at, no_pair, at_most16}
use Rattle.parts.proofs.MostLaws.{take_most, next_most}
use Rattle.event.specs.Description.{Described}
use Rattle.event.specs.Described.{read}
use Rattle.plain.specs.declared.Slot.{Slot}
use Rattle.plain.specs.Plain.{text_if, text_part, slot_bytes, loads_in, parsed_in, read_loads, parsed_raw, length_read, Space}
use Rattle.words.proofs.Laws.{by}
use Rattle.plain.proofs.PlainLaw.{parsed_eq}

-- ---- one part

-- A text laid into a copy at pos.
abbrev pub laid : List ℕ → ℕ → List ℕ → List ℕ
laid out pos v = take pos out ++ (v ++ drop (pos + length v) out)

module _ (out : List ℕ) (pos : ℕ) (o : Option (List ℕ)) (fits : pos + length (or_nothing o) ≤ length out) where
  abbrev mid : List ℕ
  mid = take (length out - pos) (drop pos out)

  mid_is : mid ≡ drop pos out
  mid_is = take_all (length out - pos) (drop pos out) (omega (arith, length-drop pos out))

  fits_all : fitting o (length mid) ≡ o
  unfolding fitting or_nothing
  fits_all = go o fits
    where
      go : (x : Option (List ℕ)) → pos + length (or_nothing x) ≤ length out → fitting x (length mid) ≡ x
      go none h = refl
      go (some v) h = let k : length v ≤ length mid = omega (arith, ap length mid_is, length-drop pos out) in rw (le-leb (length v) (length mid) k, fitting)

  length_of_lem : (x : Option (List ℕ)) → length_of x ≡ length (or_nothing x)
  unfolding length_of or_nothing
  length_of_lem none = refl
  length_of_lem (some v) = refl

  placed_is : (x : Option (List ℕ)) (l : List ℕ) → placed 0 x l ≡ or_nothing x ++ drop (length (or_nothing x)) l
  unfolding placed or_nothing
  placed_is none l = refl
  placed_is (some v) l = let e : 0 + length v ≡ length v = omega arith in rw e

  pub copied_length : (n : ℕ) → n ≡ length_of (fitting o (length mid)) → n ≡ length (or_nothing o)
  copied_length n e = e ∙ ap length_of fits_all ∙ length_of_lem o

  pub copied : (l : List ℕ) → l ≡ placed 0 (fitting o (length mid)) mid → take pos out ++ (l ++ drop (pos + (length out - pos)) out) ≡ laid out pos (or_nothing o)
  copied l e =
      let v : List ℕ = or_nothing o in
      let a : l ≡ v ++ drop (pos + length v) out = e ∙ ap₂ (placed 0) fits_all mid_is ∙ placed_is o (drop pos out) ∙ ap (λ (r : List ℕ). v ++ r) (drop-drop (length v) pos out) in
      let h : length out ≤ pos + (length out - pos) = omega arith in
      let z : drop (pos + (length out - pos)) out ≡ [] = drop_of_length-le out h in
      ap₂ (λ (x y : List ℕ). take pos out ++ (x ++ y)) a z ∙ ap (λ (x : List ℕ). take pos out ++ x) (append-nil (v ++ drop (pos + length v) out))

  pub copied_post : (l : List ℕ) → l ≡ placed 0 (fitting o (length mid)) mid → take pos out ++ (l ++ drop (length out - pos) (drop pos out)) ≡ laid out pos (or_nothing o)
  copied_post l e = ap (λ (r : List ℕ). take pos out ++ (l ++ r)) (drop-drop (length out - pos) pos out) ∙ copied l e

-- The same of a part, as code cuts it out.
module _ (out : List ℕ) (pos : ℕ) (raw : List ℕ) (p : Part) (x : List ℕ) (at len : ℕ) (ex : x ≡ part raw at len) (ea : at ≡ p.at) (el : len ≡ p.len) (fits : pos + length (read raw p) ≤ length out) where
  reads : or_nothing (legible x) ≡ read raw p
  unfolding read
  reads = ap (λ (y : List ℕ). or_nothing (legible y)) (ex ∙ ap₂ (part raw) ea el)

  room : pos + length (or_nothing (legible x)) ≤ length out
  room = omega (arith, ap length reads, fits)

  pub part_length : (n : ℕ) → n ≡ length_of (fitting (legible x) (length (take (length out - pos) (drop pos out)))) → n ≡ length (read raw p)
  part_length n e = copied_length out pos (legible x) room n e ∙ ap length reads

  pub part_copied : (l : List ℕ) → l ≡ placed 0 (fitting (legible x) (length (take (length out - pos) (drop pos out)))) (take (length out - pos) (drop pos out))
      → take pos out ++ (l ++ drop (length out - pos) (drop pos out)) ≡ laid out pos (read raw p)
  part_copied l e = copied_post out pos (legible x) room l e ∙ ap (laid out pos) reads

-- ---- parts one behind another

module _ (out : List ℕ) (pos : ℕ) (v : List ℕ) (fits : pos + length v ≤ length out) where
  front : length (take pos out) ≡ pos
  front = length-take-le pos out (omega arith)

  pub laid_length : length (laid out pos v) ≡ length out
  laid_length =
      omega (arith, length-append (take pos out) (v ++ drop (pos + length v) out), length-append v (drop (pos + length v) out), length-drop (pos + length v) out, front)

  -- what was copied so far, with anything behind it
  pub laid_front : (q : List ℕ) → take (pos + length v) (laid out pos v) ++ q ≡ take pos out ++ (v ++ q)
  laid_front q =
      let a : laid out pos v ≡ (take pos out ++ v) ++ drop (pos + length v) out = sym (append_assoc (take pos out) v (drop (pos + length v) out)) in
      let n : length (take pos out ++ v) ≡ pos + length v = length-append (take pos out) v ∙ ap (λ (k : ℕ). k + length v) front in
      ap (λ (l : List ℕ). take (pos + length v) l ++ q) a ∙ ap (λ (l : List ℕ). l ++ q) (take_at (take pos out ++ v) (drop (pos + length v) out) (pos + length v) n)
      ∙ append_assoc (take pos out) v q

  -- the part itself
  pub laid_here : (k : Maybe Key) (q : List ℕ) → slot_bytes (take pos out ++ (v ++ q)) (record { code = k; at = pos; len = pos + length v - pos }) ≡ v
  unfolding part
  laid_here k q =
      let e : pos + length v - pos ≡ length v = omega arith in
      ap₂ take e (drop_at (take pos out) (v ++ q) pos front) ∙ take-append_seam v q

-- A part stands in the first pos bytes.
abbrev pub Stands : List ℕ → ℕ → Slot → List ℕ → Type 0
Stands out pos s x = (q : List ℕ) → slot_bytes (take pos out ++ q) s ≡ x

-- One part more, as the code makes it: v is laid at pos, ends at `end` and has the slot s.
pub record Laid (out : List ℕ) (pos : ℕ) (v out' : List ℕ) (end : ℕ) : Type 0 where
  pub fits : pos + length v ≤ length out
  pub all : out' ≡ laid out pos v
  pub ends : end ≡ pos + length v

module _ (out : List ℕ) (pos : ℕ) (v out' : List ℕ) (end : ℕ) (l : Laid out pos v out' end) where
  pub now_front : (q : List ℕ) → take end out' ++ q ≡ take pos out ++ (v ++ q)
  now_front q = ap₂ (λ (n : ℕ) (o : List ℕ). take n o ++ q) l.ends l.all ∙ laid_front out pos v l.fits q

  pub now_length : length out' ≡ length out
  now_length = ap length l.all ∙ laid_length out pos v l.fits

  pub stays : (s : Slot) (x : List ℕ) → Stands out pos s x → Stands out' end s x
  stays s x h q = ap (λ (o : List ℕ). slot_bytes o s) (now_front q) ∙ h (v ++ q)

  pub stands : (k : Maybe Key) (s : Slot) → s ≡ record { code = k; at = pos; len = end - pos } → Stands out' end s v
  stands k s e q =
      ap₂ slot_bytes (now_front q) (e ∙ ap (λ (n : ℕ). record { code = k; at = pos; len = n - pos }) l.ends) ∙ laid_here out pos v l.fits k q

pub loads_append : (src : List ℕ) (xs ys : List Slot) → loads_in src (xs ++ ys) ≡ loads_in src xs ++ loads_in src ys
unfolding loads_in
loads_append src [] ys = refl
loads_append src (x ∷ xs) ys = ap (λ (is : List Load). record { key = key_code x.code; bytes = slot_bytes src x } ∷ is) (loads_append src xs ys)

read_append : (raw : List ℕ) (ps qs : List Pair) → read_loads raw (ps ++ qs) ≡ read_loads raw ps ++ read_loads raw qs
unfolding read_loads
read_append raw [] qs = refl
read_append raw (p ∷ ps) qs = ap (λ (is : List Load). record { key = p.code; bytes = read raw p.value } ∷ is) (read_append raw ps qs)

-- ---- the loop

-- The slots a and b, with the texts x and y, were there before; ps are the pairs, of which c are the event's.
pub record Copying (raw : List ℕ) (ps : List Pair) (c size : ℕ) (a b : Slot) (x y : List ℕ) (out : List ℕ) (slots : List Slot) (pos i : ℕ) : Type 0 where
  pub short : size < 65536
  pub long : length out ≡ size
  pub within : i ≤ at_most16 c
  pub full : length slots ≡ 16
  pub room : pos + length_read raw (drop i (take c ps)) ≤ size
  pub one : Stands out pos a x
  pub two : Stands out pos b y
  pub values : (q : List ℕ) → loads_in (take pos out ++ q) (take i slots) ≡ read_loads raw (take i ps)

-- A part that stands is the one that is there.
pub stands_now : (out : List ℕ) (pos : ℕ) (s : Slot) (x : List ℕ) → Stands out pos s x → slot_bytes out s ≡ x
stands_now out pos s x h = ap (λ (o : List ℕ). slot_bytes o s) (sym (take-append-drop pos out)) ∙ h (drop pos out)

module _ (raw : List ℕ) (ps : List Pair) (c : ℕ) (many : length ps ≡ 16) (size : ℕ) (a b : Slot) (x y : List ℕ) where
  module _ (out : List ℕ) (slots : List Slot) (pos i : ℕ) (K : Copying raw ps c size a b x y out slots pos i) where
    -- the values are all there
    pub copied_all : at_most16 c ≤ i → loads_in out (take c slots) ≡ read_loads raw (take c ps)
    copied_all h =
        ap₂ loads_in (sym (take-append-drop pos out)) (sym (take_most slots c K.full i K.within h)) ∙ K.values (drop pos out) ∙ ap (read_loads raw) (take_most ps c many i K.within h)

    module _ (p : Pair) (ep : p ≡ get_or ps i no_pair) (h : i < at_most16 c) where
      abbrev v : List ℕ
      v = read raw p.value

      left : length_read raw (drop i (take c ps)) ≡ length v + length_read raw (drop (i + 1) (take c ps))
      unfolding length_read
      left = ap (length_read raw) (next_most ps c many i no_pair h ∙ ap (λ (z : Pair). z ∷ drop (i + 1) (take c ps)) (sym ep))

      pub copy_fits : pos + length v ≤ length out
      copy_fits = omega (arith, left, K.room, K.long)

      pub copy_small : (end : ℕ) → end ≡ pos + length v → (pos ≤ end) × (end < 65536)
      copy_small end e = (omega (arith, e), omega (arith, e, copy_fits, K.long, K.short))

      pub copying_more : (out' : List ℕ) (end : ℕ) (s : Slot) (k : Maybe Key) → key_code k ≡ p.code → out' ≡ laid out pos v → end ≡ pos + length v → s ≡ record { code = k; at = pos; len = end - pos }
          → Copying raw ps c size a b x y out' (set slots i s) end (i + 1)
      copying_more out' end s k ek eo ee es =
          let l : Laid out pos v out' end = record { fits = copy_fits; all = eo; ends = ee } in
          record {
            short = K.short;
            long = now_length out pos v out' end l ∙ K.long;
            within = omega arith;
            full = length-set slots i s ∙ K.full;
            room = omega (arith, left, K.room, ee);
            one = stays out pos v out' end l a x K.one;
            two = stays out pos v out' end l b y K.two;
            values = λ q.
                let w : List ℕ = take end out' ++ q in
                ap (loads_in w) (ap (λ (n : ℕ). take n (set slots i s)) (add-one i) ∙ take-suc-set slots i s (omega (arith, K.full)))
                ∙ loads_append w (take i slots) (s ∷ [])
                ∙ ap₂ ◌++◌ (ap (λ (o : List ℕ). loads_in o (take i slots)) (now_front out pos v out' end l q) ∙ K.values (v ++ q)) (last q l)
                ∙ sym (ap (read_loads raw) (ap (λ (n : ℕ). take n ps) (add-one i) ∙ take-suc ps i no_pair (omega (arith, many)) ∙ ap (λ (z : Pair). take i ps ++ (z ∷ [])) (sym ep))
                ∙ read_append raw (take i ps) (p ∷ []));
          }
        where
          last : (q : List ℕ) → Laid out pos v out' end → loads_in (take end out' ++ q) (s ∷ []) ≡ read_loads raw (p ∷ [])
          last q l =
              unfold loads_in read_loads in
              λ j. record { key = (ap (λ (z : Slot). key_code z.code) es ∙ ek) j; bytes = stands out pos v out' end l k s es q j } ∷ []

-- ---- a text only where there is one

pub part_some : (k : ℕ) (p : Part) → k ≡ 2 → p ≡ text_part k p
unfolding text_part
part_some k p e = rw (eq-eqb k 2 e, text_part)

pub part_none : (k : ℕ) (p : Part) → (k ≡ 2 → ⊥) → part_at 0 0 0 ≡ text_part k p
unfolding text_part
part_none k p e = rw (ne_eqb k 2 e, text_part)

text_part_lem : (raw : List ℕ) (k : ℕ) (p : Part) → text_if k (read raw (text_part k p)) ≡ text_if k (read raw p)
unfolding text_if text_part
text_part_lem raw k p = by (eqb k 2) (λ e. rw (e, text_if, e, text_part)) (λ e. rw (e, text_if))

-- ---- the name and the text, before the loop

module _ (raw : List ℕ) (d : Described) (out : List ℕ) (sp : Space raw d (length out)) (tp : Part) (et : tp ≡ text_part d.kind d.text) (out₁ : List ℕ) (first : ℕ) (o₁ : out₁ ≡ laid out 0 (read raw d.name)) (f₁ : first ≡ 0 + length (read raw d.name)) where
  fits_now : length (read raw d.name) + (length (read raw tp) + length_read raw (take d.count d.pairs)) ≤ length out
  fits_now = omega (arith, sp.fits, ap (λ (p : Part). length (read raw p)) et)

  pub name_fits_lem : 0 + length (read raw d.name) ≤ length out
  name_fits_lem = omega (arith, fits_now)

  one : Laid out 0 (read raw d.name) out₁ first
  one = record { fits = name_fits_lem; all = o₁; ends = f₁ }

  pub name_small : (0 ≤ first) × (first < 65536)
  name_small = (omega arith, omega (arith, f₁, fits_now, sp.short))

  pub text_fits_lem : first + length (read raw tp) ≤ length out₁
  text_fits_lem = omega (arith, f₁, fits_now, now_length out 0 (read raw d.name) out₁ first one)

  module _ (a : Slot) (ea : a ≡ record { code = None; at = 0; len = first - 0 }) (out₂ : List ℕ) (second : ℕ) (o₂ : out₂ ≡ laid out₁ first (read raw tp)) (f₂ : second ≡ first + length (read raw tp)) where
    two : Laid out₁ first (read raw tp) out₂ second
    two = record { fits = text_fits_lem; all = o₂; ends = f₂ }

    pub text_small : (first ≤ second) × (second < 65536)
    text_small = (omega (arith, f₂), omega (arith, f₁, f₂, fits_now, sp.short))

    same_size : length out₂ ≡ length out
    same_size = now_length out₁ first (read raw tp) out₂ second two ∙ now_length out 0 (read raw d.name) out₁ first one

    module _ (b : Slot) (eb : b ≡ record { code = None; at = first; len = second - first }) where
      name_there : Stands out₂ second a (read raw d.name)
      name_there = stays out₁ first (read raw tp) out₂ second two a (read raw d.name) (stands out 0 (read raw d.name) out₁ first one None a ea)

      text_there : Stands out₂ second b (read raw tp)
      text_there = stands out₁ first (read raw tp) out₂ second two None b eb

      pub copying_start : (slots : List Slot) → length slots ≡ 16
          → Copying raw d.pairs d.count (length out₂) a b (slot_bytes out₂ a) (slot_bytes out₂ b) out₂ slots second 0
      unfolding loads_in read_loads
      copying_start slots full =
          record {
            short = omega (arith, same_size, sp.short);
            long = refl;
            within = omega arith;
            full = full;
            room = omega (arith, f₁, f₂, fits_now, same_size);
            one = λ q. name_there q ∙ sym (stands_now out₂ second a (read raw d.name) name_there);
            two = λ q. text_there q ∙ sym (stands_now out₂ second b (read raw tp) text_there);
            values = λ q. refl;
          }

      -- all of it, after the loop
      pub parsed_all : (out₃ : List ℕ) (slots : List Slot) (pos i : ℕ) → Copying raw d.pairs d.count (length out₂) a b (slot_bytes out₂ a) (slot_bytes out₂ b) out₃ slots pos i
          → loads_in out₃ (take d.count slots) ≡ read_loads raw (take d.count d.pairs)
          → (k : Kind) → kind_number k ≡ d.kind → (g : Tag) → tag_number g ≡ d.tag
          → parsed_in out₃ (record { kind = k; tag = g; count = d.count; name = a; text = b; slots = slots }) ≡ parsed_raw raw d
      unfolding parsed_in parsed_raw
      parsed_all out₃ slots pos i K e k ek g eg =
          parsed_eq ek eg (stands_now out₃ pos a (slot_bytes out₂ a) K.one ∙ stands_now out₂ second a (read raw d.name) name_there) e
          (ap (λ (n : ℕ). text_if n (slot_bytes out₃ b)) ek ∙ ap (text_if d.kind) (stands_now out₃ pos b (slot_bytes out₂ b) K.two ∙ stands_now out₂ second b (read raw tp) text_there ∙ ap (read raw) et) ∙ text_part_lem raw d.kind d.text)

      pub size_end : (out₃ : List ℕ) (slots : List Slot) (pos i : ℕ) → Copying raw d.pairs d.count (length out₂) a b (slot_bytes out₂ a) (slot_bytes out₂ b) out₃ slots pos i → length out₃ ≡ length out
      size_end out₃ slots pos i K = K.long ∙ same_size
