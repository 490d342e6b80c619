-- What the functions that take a line need: the line in form, out of form, not ended.
use Prim.Native.Nat.{ℕ, ◌+◌, ◌-◌, ◌≤◌, ◌<◌}
use mathlib.Core.Path.{◌≡◌, refl, sym, ap, ◌∙◌, subst}
use mathlib.Core.Bool.{Bool, true, false, ◌&&◌, and-eq-true_iff}
use mathlib.Core.List.{List}
use native.Mathlib.Omega.{arith}
use lib.Dec.{ltb}
use lib.ListN.{length, take, drop, length-drop}
use lib.Seq.{length-take-le}
use borrow.Author.Tests.{ltb-true, lt-ltb}
use Rattle.definition.specs.Text.{str, place_in}
use Rattle.definition.specs.Elements.{tag_of, key_of}
use Rattle.definition.specs.Event.{Line, line_of, kind_names}
use Rattle.definition.proofs.Base.{true_is_false}
use Rattle.lines.specs.Lines.{line_length, has_head}
use Rattle.lines.specs.Blocks.{all, is_within_line, is_plain}
use Rattle.lines.specs.Parts.{part}
use Rattle.lines.specs.declared.Tail.{Tail}
use Rattle.parts.specs.Walked.{Walked}
use Rattle.parts.specs.Parts.{broken, with_kind, with_name, with_key, with_text, added_value}
use Rattle.walk.specs.Views.{Found}
use Rattle.walk.specs.Views.{Lined}
use Rattle.walk.specs.Walk.{found, on_event, on_name, on_key, on_value}
use Rattle.walk.specs.Stream.{Takes, InForm, end_of, line_in}
use Rattle.walk.proofs.CodeLaws as C
use Rattle.walk.proofs.LineIn.{line_head, behind_end, behind_rest, other_head}

-- A line as the code found it.
abbrev pub lined_as : Found → ℕ → ℕ → Lined
lined_as m code end = record { ok = m.ok; code = code; part = m.part; next = end + 1 }

abbrev pub is_ended : List ℕ → ℕ → Bool
is_ended s end = ltb end (length s) && ltb end 49152

pub ended_bounds : (s : List ℕ) (end : ℕ) → is_ended s end ≡ true → (end < length s) × (end < 49152)
ended_bounds s end t = let k = (and-eq-true_iff (ltb end (length s)) (ltb end 49152)).0 t in (ltb-true end (length s) k.0, ltb-true end 49152 k.1)

pub part_small : (s : List ℕ) (from end : ℕ) → from ≤ end → is_ended s end ≡ true → from + length (take (end - from) (drop from s)) < 65536
part_small s from end h t =
    let k = ended_bounds s end t in
    omega (arith, k.1, length-take-le (end - from) (drop from s) (omega (arith, k.0, length-drop from s)))

-- What follows a head, where it is known to be plain.
pub tail_all : (s : List ℕ) (from : ℕ) (r : Tail) → r.end ≡ from + line_length (drop from s) → (r.plain ≡ true → all is_plain (part s from (line_length (drop from s))) ≡ true)
    → r.plain ≡ true → all is_plain (take (r.end - from) (drop from s)) ≡ true
unfolding part
tail_all s from r e f t = let z : r.end - from ≡ line_length (drop from s) = omega (arith, e) in ap (λ (n : ℕ). all is_plain (take n (drop from s))) z ∙ f t

module _ (s : List ℕ) (at : ℕ) (f : Line → Walked → Walked) where
  takes_none : (g : Walked → Walked) (r : Lined) → r.ok ≡ false → (end_of s at < length s → end_of s at < 49152 → (d : Walked) → f (line_of (line_in s at)) d ≡ broken d) → Takes s at f g r
  takes_none g r e b = record { good = λ t. true_is_false (sym t ∙ e); bad = λ t. b }

  takes_open : (g : Walked → Walked) (r : Lined) → r.ok ≡ false → (end : ℕ) → end ≡ end_of s at → is_ended s end ≡ false → Takes s at f g r
  takes_open g r e end ee t =
      takes_none g r e
      (λ p q d.
      let z : is_ended s end ≡ true = (and-eq-true_iff (ltb end (length s)) (ltb end 49152)).1 (lt-ltb end (length s) (omega (arith, ee, p)), lt-ltb end 49152 (omega (arith, ee, q))) in
      true_is_false (sym z ∙ t))

  takes_found : (g : Lined → Walked → Walked) (m : Found) (code end : ℕ) (r : Lined) → r.ok ≡ m.ok → (m.ok ≡ true → r ≡ lined_as m code end) → end ≡ end_of s at → is_ended s end ≡ true
      → (0 < at → has_head (str "event=") (drop at s) ≡ false) → (m.ok ≡ true → (d : Walked) → f (line_of (line_in s at)) d ≡ g (lined_as m code end) d)
      → (m.ok ≡ false → (d : Walked) → f (line_of (line_in s at)) d ≡ broken d) → Takes s at f (g r) r
  takes_found g m code end r ok er ee t own y n =
      let k = ended_bounds s end t in
      record {
        good = λ o.
            let q : m.ok ≡ true = sym ok ∙ o in
            subst (λ (x : Lined). InForm s at f (g x) x.next) (sym (er q))
            (record {
              next = ap (λ (i : ℕ). i + 1) ee;
              ended = omega (arith, ee, k.0);
              short = omega (arith, ee, k.1);
              own = own;
              does = y q;
            });
        bad = λ o p q. n (sym ok ∙ o);
      }

module _ (s : List ℕ) where
  module _ (r : Lined) (o : r.ok ≡ false) where
    pub event_none : has_head (str "event=") (drop 0 s) ≡ false → (g : Walked → Walked) → Takes s 0 on_event g r
    unfolding str all is_within_line
    event_none e g = takes_none s 0 on_event g r o (λ p q d. sym (C.not_event (line_in s 0) 0 d (line_head (str "event=") refl s 0 e)))

    module _ (at : ℕ) where
      pub name_none : has_head (str "name=") (drop at s) ≡ false → (g : Walked → Walked) → Takes s at (on_name at) g r
      unfolding str all is_within_line
      name_none e g = takes_none s at (on_name at) g r o (λ p q d. sym (C.not_name (line_in s at) at d (line_head (str "name=") refl s at e)))

      pub value_none : has_head (str "value=") (drop at s) ≡ false → (g : Walked → Walked) → Takes s at (on_value at) g r
      unfolding str all is_within_line
      value_none e g = takes_none s at (on_value at) g r o (λ p q d. sym (C.not_value (line_in s at) at d (line_head (str "value=") refl s at e)))

      -- The line is not ended.
      pub head_open : (f : Line → Walked → Walked) (g : Walked → Walked) (h : List ℕ) → all is_within_line h ≡ true → has_head h (drop at s) ≡ true
          → (end : ℕ) → end ≡ at + length h + line_length (drop (at + length h) s) → is_ended s end ≡ false → Takes s at f g r
      head_open f g h w e end ee t = takes_open s at f g r o end (behind_end h w s at e end ee) t

  pub event_takes : (x : List ℕ) (m : Found) (k end : ℕ) (r : Lined) → has_head (str "event=") (drop 0 s) ≡ true → end ≡ 0 + 6 + line_length (drop (0 + 6) s) → is_ended s end ≡ true
      → x ≡ take (end - (0 + 6)) (drop (0 + 6) s) → m.ok ≡ true → k ≡ place_in kind_names x → r.ok ≡ m.ok → (m.ok ≡ true → r ≡ lined_as m k end) → Takes s 0 on_event (with_kind r.code) r
  unfolding str all is_within_line
  event_takes x m k end r e ee t ex em ek ok er =
      takes_found s 0 on_event (λ (y : Lined). with_kind y.code) m k end r ok er (behind_end (str "event=") refl s 0 e end ee) t (λ z. absurd (omega arith))
      (λ o d. sym (C.event_good (line_in s 0) d x k (line_head (str "event=") refl s 0 e) (behind_rest (str "event=") refl s 0 e end ee x ex) ek))
      (λ o. true_is_false (sym em ∙ o))

  module _ (at : ℕ) (x : List ℕ) (m : Found) (c end : ℕ) (r : Lined) (t : is_ended s end ≡ true) (ok : r.ok ≡ m.ok) (er : m.ok ≡ true → r ≡ lined_as m c end) where
    pub name_takes : has_head (str "name=") (drop at s) ≡ true → end ≡ at + 5 + line_length (drop (at + 5) s)
        → x ≡ take (end - (at + 5)) (drop (at + 5) s) → c ≡ tag_of x → m ≡ found 1 64 (at + 5) x → Takes s at (on_name at) (with_name r.code r.part) r
    unfolding str all is_within_line
    name_takes e ee ex ec em =
        let l = line_head (str "name=") refl s at e in
        let z = behind_rest (str "name=") refl s at e end ee x ex in
        takes_found s at (on_name at) (λ (y : Lined). with_name y.code y.part) m c end r ok er (behind_end (str "name=") refl s at e end ee) t
        (λ p. other_head 110 101 _ _ (drop at s) refl e)
        (λ o d. sym (C.name_good (line_in s at) at d x m l z em c ec o))
        (λ o d. sym (C.name_bad (line_in s at) at d x m l z em o))

    pub key_takes : has_head (str "key=") (drop at s) ≡ true → end ≡ at + 4 + line_length (drop (at + 4) s)
        → x ≡ take (end - (at + 4)) (drop (at + 4) s) → c ≡ key_of x → m ≡ found 1 64 (at + 4) x → Takes s at (on_key at) (with_key r.code r.part) r
    unfolding str all is_within_line
    key_takes e ee ex ec em =
        let l = line_head (str "key=") refl s at e in
        let z = behind_rest (str "key=") refl s at e end ee x ex in
        takes_found s at (on_key at) (λ (y : Lined). with_key y.code y.part) m c end r ok er (behind_end (str "key=") refl s at e end ee) t
        (λ p. other_head 107 101 _ _ (drop at s) refl e)
        (λ o d. sym (C.key_good (line_in s at) at d x m l z em c ec o))
        (λ o d. sym (C.key_bad (line_in s at) at d x m l z em o))

    pub value_takes : has_head (str "value=") (drop at s) ≡ true → end ≡ at + 6 + line_length (drop (at + 6) s)
        → x ≡ take (end - (at + 6)) (drop (at + 6) s) → m ≡ found 0 1024 (at + 6) x → Takes s at (on_value at) (added_value r.part) r
    unfolding str all is_within_line
    value_takes e ee ex em =
        let l = line_head (str "value=") refl s at e in
        let z = behind_rest (str "value=") refl s at e end ee x ex in
        takes_found s at (on_value at) (λ (y : Lined). added_value y.part) m c end r ok er (behind_end (str "value=") refl s at e end ee) t
        (λ p. other_head 118 101 _ _ (drop at s) refl e)
        (λ o d. sym (C.value_good (line_in s at) at d x m l z em o))
        (λ o d. sym (C.value_bad (line_in s at) at d x m l z em o))

    pub text_takes : has_head (str "text=") (drop at s) ≡ true → end ≡ at + 5 + line_length (drop (at + 5) s)
        → x ≡ take (end - (at + 5)) (drop (at + 5) s) → m ≡ found 0 4096 (at + 5) x → Takes s at (on_key at) (with_text r.part) r
    unfolding str all is_within_line
    text_takes e ee ex em =
        let l = line_head (str "text=") refl s at e in
        let z = behind_rest (str "text=") refl s at e end ee x ex in
        takes_found s at (on_key at) (λ (y : Lined). with_text y.part) m c end r ok er (behind_end (str "text=") refl s at e end ee) t
        (λ p. other_head 116 101 _ _ (drop at s) refl e)
        (λ o d. sym (C.text_good (line_in s at) at d x m l z em o))
        (λ o d. sym (C.text_bad (line_in s at) at d x m l z em o))
