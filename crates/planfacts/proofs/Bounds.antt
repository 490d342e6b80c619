-- All numbers are small: what the code of a decision and of question 15 requires, for every store that keeps the rules and every event in form.
use Prim.Native.Nat.{ℕ, zero, suc, ◌+◌, ◌≤◌}
use mathlib.Core.Path.{◌≡◌, refl}
use mathlib.Core.Bool.{Bool, true, false, ◌&&◌}
use mathlib.Core.List.{List, [], ◌∷◌, ◌++◌, map}
use native.Mathlib.Omega.{arith}
use lib.Dec.{eqb, ltb}
use lib.ListN.{length, get_or, drop, length-append, length-drop, length-map}
use Rattle.std.specs.Prelude.{Option}
use Rattle.definition.specs.Limits.{limits01}
use Rattle.definition.specs.Text.{same, Span, Piece, emit, pieces, words_by, is_space, is_separator, stripped_piece, event_words, state_words, state_words_at, wildcard, is_true, lowered, place_in, str, trim}
use Rattle.definition.specs.Elements.{key, tag_of, Role, name, names, masked, plain, role_of, codings, words_taken}
use Rattle.definition.specs.Event.{Event, in_form}
use Rattle.definition.specs.Rows.{Cell, shallow, Numbers, table_of, Store}
use Rattle.definition.specs.Look.{Load, loads_of, payload, span_of, is_namelist, is_events, word_spans, one_if, code_of, shift, words_by_role, code_by_role, field_by, fields_from, own_name, word_names, names_from, names_brought, find_name, enter, piece_cell, resolve, name_cells, Look, look}
use Rattle.definition.specs.Change.{field_in, field_words, code_for, words_of}
use Rattle.definition.specs.States.{own_state}
use Rattle.definition.specs.Rules.{keeps_rules}
use Rattle.definition.specs.Reader.{rows_in, position_of}
use Rattle.definition.proofs.Finds.{find_le, refs_length, cells_length}
use Rattle.definition.proofs.Charges.{charge_covers}
use Rattle.kept.proofs.Codes.{field_code_lem}
use Rattle.plan.specs.declared.Plan.{Plan}
use Rattle.plan.specs.declared.MemberPlan.{MemberPlan}
use Rattle.plan.specs.Plan.{planned}
use Rattle.plan.specs.Plans.{plan_by, plan_of}
use Rattle.plan.specs.Decided.{words_added}
use Rattle.plan.specs.Seen.{seen}
use Rattle.plan.specs.Heard.{heard}
use Rattle.plan.specs.Small.{Small, Counted, words_on, Brought}
use Rattle.planfacts.proofs.Given.{Few, few}
use Rattle.planfacts.proofs.Charge.{modest, charge_le, loads_few}
use Rattle.planfacts.proofs.UseOf.{state_le}
use Rattle.planfacts.proofs.Listed.{Words, no_words, events, names_of_send, names_of_invoke, listed, unlisted}

-- ---- words

emit_le : (s : ℕ) (w : List ℕ) → length (emit s w) ≤ length w
unfolding emit
emit_le s [] = omega arith
emit_le s (b ∷ w) = omega arith

-- No word is empty.
pieces_le : (parts : ℕ → Bool) (s : ℕ) (w v : List ℕ) → length (pieces parts s w v) ≤ length w + length v
unfolding pieces
pieces_le parts s w [] = omega (arith, emit_le s w)
pieces_le parts s w (b ∷ bs) = go (parts b) (pieces_le parts (suc (s + length w)) [] bs) (pieces_le parts s (w ++ b ∷ []) bs)
  where
    go : (c : Bool) → length (pieces parts (suc (s + length w)) [] bs) ≤ 0 + length bs → length (pieces parts s (w ++ b ∷ []) bs) ≤ length (w ++ b ∷ []) + length bs
        → length {A = Piece} (elim c [ true ↦ emit s w ++ pieces parts (suc (s + length w)) [] bs | false ↦ pieces parts s (w ++ b ∷ []) bs ]) ≤ length w + suc (length bs)
    go true h k = omega (arith, h, emit_le s w, length-append (emit s w) (pieces parts (suc (s + length w)) [] bs))
    go false h k = omega (arith, k, length-append w (b ∷ []))

spans_le : (g k : ℕ) (v : List ℕ) → length (word_spans g k v) ≤ suc (length v)
unfolding word_spans event_words state_words words_by
spans_le g k v = go (is_events g k) (is_namelist g k) (eqb k key.text)
  where
    go : (a b c : Bool) → length {A = Span} (elim a [ true ↦ map span_of (map stripped_piece (pieces is_space 0 [] v)) | false ↦ elim b [ true ↦ map span_of (pieces is_separator 0 [] v) | false ↦ elim c [ true ↦ trim v ∷ [] | false ↦ [] ] ] ]) ≤ suc (length v)
    go true b c = omega (arith, pieces_le is_space 0 [] v, length-map (map stripped_piece (pieces is_space 0 [] v)) span_of, length-map (pieces is_space 0 [] v) stripped_piece)
    go false true c = omega (arith, pieces_le is_separator 0 [] v, length-map (pieces is_separator 0 [] v) span_of)
    go false false true = omega arith
    go false false false = omega arith

role_words_le : (r : Role) (g o k : ℕ) (v : List ℕ) → length (words_by_role r g o k v) ≤ suc (length v)
unfolding words_by_role
role_words_le name g o k v = omega arith
role_words_le names g o k v = omega arith
role_words_le masked g o k v = omega arith
role_words_le plain g o k v = omega (arith, spans_le g k v, length-map (word_spans g k v) (shift o))

-- The words of a key are fewer than the payload's bytes, and one.
words_le : (g o k : ℕ) (is : List Load) → length (field_words (field_in (fields_from g o is) k)) ≤ suc (length (payload is))
unfolding fields_from field_in field_words field_by payload
words_le g o k [] = omega arith
words_le g o k (i ∷ is) = go (eqb i.key k) refl (words_le g (o + length i.bytes) k is)
  where
    go : (b : Bool) → eqb i.key k ≡ b → length (field_words (field_in (fields_from g (o + length i.bytes) is) k)) ≤ suc (length (payload is))
        → length (field_words (field_in (fields_from g o (i ∷ is)) k)) ≤ suc (length (payload (i ∷ is)))
    go true e h = rw (e, field_in) (omega (arith, role_words_le (role_of g i.key) g o i.key i.bytes, length-append i.bytes (payload is)))
    go false e h = rw (e, field_in) (omega (arith, h, length-append i.bytes (payload is)))

-- ---- codes

place_le : (ws : List (List ℕ)) (w : List ℕ) → place_in ws w ≤ length ws
unfolding place_in
place_le [] w = omega arith
place_le (x ∷ xs) w = go (same x w) (place_le xs w)
  where
    go : (b : Bool) → place_in xs w ≤ length xs → elim b [ true ↦ 0 | false ↦ suc (place_in xs w) ] ≤ suc (length xs)
    go true h = omega arith
    go false h = omega (arith, h)

one_le : (b : Bool) → one_if b ≤ 1
unfolding one_if
one_le true = omega arith
one_le false = omega arith

taken_le : (g k : ℕ) → length (words_taken codings g k) ≤ 3
unfolding words_taken codings str
taken_le g k = go (eqb 1 g && eqb 5 k) (eqb 6 g && eqb 7 k) (eqb 16 g && eqb 7 k)
  where
    go : (a b c : Bool) → length {A = List ℕ} (elim a [ true ↦ str "early" ∷ str "late" ∷ [] | false ↦ elim b [ true ↦ str "" ∷ str "shallow" ∷ str "deep" ∷ [] | false ↦ elim c [ true ↦ str "external" ∷ str "internal" ∷ str "" ∷ [] | false ↦ [] ] ] ]) ≤ 3
    go true b c = omega arith
    go false true c = omega arith
    go false false true = omega arith
    go false false false = omega arith

code_le : (g k : ℕ) (v : List ℕ) → code_of g k v ≤ 3
unfolding code_of
code_le g k v = go (is_events g k) (eqb k key.autoforward) (one_le (wildcard (event_words v))) (one_le (is_true v)) (place_le (words_taken codings g k) (lowered v)) (taken_le g k)
  where
    go : (a b : Bool) → one_if (wildcard (event_words v)) ≤ 1 → one_if (is_true v) ≤ 1 → place_in (words_taken codings g k) (lowered v) ≤ length (words_taken codings g k) → length (words_taken codings g k) ≤ 3
        → elim a [ true ↦ one_if (wildcard (event_words v)) | false ↦ elim b [ true ↦ one_if (is_true v) | false ↦ place_in (words_taken codings g k) (lowered v) ] ] ≤ 3
    go true b x y z w = omega (arith, x)
    go false true x y z w = omega (arith, y)
    go false false x y z w = omega (arith, z, w)

role_code_le : (r : Role) (g k : ℕ) (v : List ℕ) → code_by_role r g k v ≤ 3
unfolding code_by_role
role_code_le name g k v = omega arith
role_code_le names g k v = omega arith
role_code_le masked g k v = omega arith
role_code_le plain g k v = code_le g k v

-- ---- names

own_le : (t : List ℕ) (cs : List Cell) (ps : List Piece) → get_or (resolve t cs ps).refs 0 0 ≤ suc (length cs)
unfolding resolve
own_le t cs [] = omega arith
own_le t cs (p ∷ ps) = omega (arith, find_le t cs p.word)

enter_le : (cs : List Cell) (k : ℕ) (c : Cell) → length (enter cs k c) ≤ suc (length cs)
unfolding enter
enter_le cs k c = go (ltb k (length cs))
  where
    go : (b : Bool) → length {A = Cell} (elim b [ true ↦ cs | false ↦ cs ++ c ∷ [] ]) ≤ suc (length cs)
    go true = omega arith
    go false = omega (arith, length-append cs (c ∷ []))

known_le : (t : List ℕ) (cs : List Cell) (ps : List Piece) → length (resolve t cs ps).known ≤ length cs + length ps
unfolding resolve
known_le t cs [] = omega arith
known_le t cs (p ∷ ps) =
    let ds : List Cell = enter cs (find_name t cs p.word) (piece_cell p) in
    omega (arith, known_le t ds ps, enter_le cs (find_name t cs p.word) (piece_cell p))

own_names_le : (r : Role) (o : ℕ) (v : List ℕ) → length (own_name r o v) ≤ 1
unfolding own_name
own_names_le name o v = omega arith
own_names_le names o v = omega arith
own_names_le masked o v = omega arith
own_names_le plain o v = omega arith

word_names_le : (r : Role) (o : ℕ) (v : List ℕ) → length (word_names r o v) ≤ length v
unfolding word_names state_words_at
word_names_le name o v = omega arith
word_names_le names o v = omega (arith, pieces_le is_separator o [] v)
word_names_le masked o v = omega arith
word_names_le plain o v = omega arith

all_own_le : (g o : ℕ) (is : List Load) → length (names_from own_name g o is) ≤ length is
unfolding names_from
all_own_le g o [] = omega arith
all_own_le g o (i ∷ is) =
    omega (arith, own_names_le (role_of g i.key) o i.bytes, all_own_le g (o + length i.bytes) is, length-append (own_name (role_of g i.key) o i.bytes) (names_from own_name g (o + length i.bytes) is))

all_words_le : (g o : ℕ) (is : List Load) → length (names_from word_names g o is) ≤ length (payload is)
unfolding names_from payload
all_words_le g o [] = omega arith
all_words_le g o (i ∷ is) =
    omega (arith, word_names_le (role_of g i.key) o i.bytes, all_words_le g (o + length i.bytes) is, length-append (word_names (role_of g i.key) o i.bytes) (names_from word_names g (o + length i.bytes) is), length-append i.bytes (payload is))

brought_le : (g o : ℕ) (is : List Load) → length (names_brought g o is) ≤ length is + length (payload is)
unfolding names_brought
brought_le g o is = omega (arith, all_own_le g o is, all_words_le g o is, length-append (names_from own_name g o is) (names_from word_names g o is))

-- ---- a store that keeps the rules, and an event in form

module _ (s : Store) (e : Event) (rules : keeps_rules limits01 s ≡ true) (form : in_form limits01 e ≡ true) where
  abbrev n : Numbers
  n = s.numbers

  abbrev l : Look
  l = look s e

  abbrev F : Few limits01 s
  F = few limits01 s rules

  abbrev g : ℕ
  g = tag_of e.name

  abbrev is : List Load
  is = loads_of g n.names e

  abbrev cs : List Cell
  cs = name_cells (table_of n 1)

  abbrev ps : List Piece
  ps = names_brought g (length s.text) is

  payload_le : length (payload is) ≤ 24602
  payload_le = omega (arith, charge_covers g n.names e, charge_le e g n.names (modest e form))

  pub look_charge : l.charge ≤ 24602
  unfolding look
  look_charge = charge_le e g n.names (modest e form)

  names_le : length ps ≤ 24620
  names_le = omega (arith, brought_le g (length s.text) is, payload_le, loads_few e g n.names (modest e form))

  pub look_refs_few : length l.refs ≤ 24620
  unfolding look
  look_refs_few = omega (arith, refs_length (s.text ++ payload is) cs ps, names_le)

  pub look_new_few : length (drop (length (table_of n 1)) l.known) ≤ 24620
  unfolding look
  look_new_few =
      omega (arith, known_le (s.text ++ payload is) cs ps, cells_length (table_of n 1), length-drop (length (table_of n 1)) l.known, names_le)

  look_own : own_state l ≤ 257
  unfolding look own_state
  look_own = omega (arith, own_le (s.text ++ payload is) cs ps, cells_length (table_of n 1), F.states)

  look_code : (k d : ℕ) → d ≤ 3 → code_for l k d ≤ 3
  unfolding look code_for
  look_code k d h = field_code_lem (λ (x : ℕ). x ≤ 3) d g k (length s.text) is (λ v. role_code_le (role_of g k) g k v) h

  look_words : (k : ℕ) → length (words_of l k) ≤ 24603
  unfolding look words_of
  look_words k = omega (arith, words_le g (length s.text) k is, payload_le)

  -- WHAT `decide` REQUIRES.
  pub small : Small (seen n l) (heard l)
  unfolding seen heard
  small = (
    omega (arith, F.ids),
    omega (arith, F.docs),
    omega (arith, F.current),
    omega (arith, state_le limits01 s e rules, F.states),
    omega (arith, F.entries),
    omega (arith, F.invokes),
    omega (arith, F.datums),
    omega (arith, F.parameters),
    omega (arith, look_own),
    omega (arith, look_code key.binding 0 (omega arith)),
    omega (arith, look_code key.type shallow (omega arith)),
  )

  -- WHAT QUESTION 15 REQUIRES, of the position ..
  pub position_small : Counted (position_of s)
  unfolding position_of rows_in
  position_small = (
    omega (arith, F.states),
    omega (arith, F.transitions),
    omega (arith, F.regions),
    omega (arith, F.entries),
    omega (arith, F.invokes),
    omega (arith, F.datums),
    omega (arith, F.parameters),
    omega (arith, F.members),
    omega (arith, F.names),
    omega (arith, F.charge),
  )

  words_few : (h : ℕ) (m : Option MemberPlan) → Words h (heard l) m → words_added m ≤ 24603
  unfolding heard words_added
  words_few h m (no_words a) = rw a (omega arith)
  words_few h m (events x z a b) = rw a (omega (arith, b, look_words key.event))
  words_few h m (names_of_send x z a b) = rw a (omega (arith, b, look_words key.namelist))
  words_few h m (names_of_invoke x z a b) = rw a (omega (arith, b, look_words key.namelist))

  plan_words : (k : ℕ) (p : Plan) → plan_by k l.tag (seen n l) (heard l) ≡ planned p → words_on p ≤ 24603
  unfolding words_on words_added
  plan_words zero p q = words_few l.tag p.members.words (listed (seen n l) (heard l) 0 l.tag (omega arith) p q).words
  plan_words (suc zero) p q = words_few l.tag p.members.words (listed (seen n l) (heard l) 1 l.tag (omega arith) p q).words
  plan_words (suc (suc zero)) p q = words_few l.tag p.members.words (listed (seen n l) (heard l) 2 l.tag (omega arith) p q).words
  plan_words (suc (suc (suc k))) p q = rw (unlisted (seen n l) (heard l) k l.tag p q).words (omega arith)

  -- .. and of what the event brings.
  pub brought_small : (p : Plan) → plan_of n l ≡ planned p → Brought (length l.refs) (length (drop (length (table_of n 1)) l.known)) l.charge p
  unfolding plan_of
  brought_small p q = (
    omega (arith, look_refs_few),
    omega (arith, look_new_few),
    omega (arith, look_charge),
    omega (arith, plan_words l.kind p q),
  )
