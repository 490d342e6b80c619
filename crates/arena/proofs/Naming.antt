-- What is written of names and words is what the definition enters and lists.
use Prim.Native.Nat.{ℕ, zero, suc, ◌+◌, ◌<◌}
use mathlib.Core.Path.{◌≡◌, refl, sym, ap, ap₂, ◌∙◌, subst}
use mathlib.Core.Bool.{Bool, true, false}
use mathlib.Core.Option as P
use Rattle.std.specs.Prelude.{Option, Some, None}
use mathlib.Core.List.{List, [], ◌∷◌, ◌++◌, map, append-nil}
use native.Mathlib.Omega.{arith}
use lib.Dec.{eqb}
use lib.ListN.{length, drop}
use lib.Seq.{get_or-set_same}
use borrow.Author.Tests.{eq-eqb, ne_eqb, eqb-true, eqb-false}
use Rattle.definition.specs.Limits.{limits01}
use Rattle.definition.specs.Text.{Piece}
use Rattle.definition.specs.Elements.{tag_of, names_state, among}
use Rattle.definition.specs.Event.{Event, keys_differ, in_form}
use Rattle.definition.specs.Rows.{Row, Table, Cell, no_cell, cell_at, table_of, Numbers, Store}
use Rattle.definition.specs.Look.{Load, Look, Field, look, loads_of, payload, fields_from, names_brought, names_from, resolve, name_cells}
use Rattle.definition.specs.Change.{field_in, field_cell, field_words, words_of, entered, on_table, state_row, has, present}
use Rattle.words.proofs.Laws.{by}
use Rattle.names.specs.Names.{Inside}
use Rattle.definition.proofs.Base as D
use Rattle.plain.specs.Keyed.{value_in, offset_in}
use Rattle.names.proofs.BroughtLaw.{state_stands, transition_stands, others_bring, has_own}
use Rattle.names.proofs.NamesLaw.{no_loads}
use Rattle.definition.specs.Codes.{list_number}
use Rattle.plan.specs.declared.MemberPlan.{MemberPlan}
use Rattle.plan.specs.declared.TargetPlan.{TargetPlan}
use Rattle.plan.specs.declared.Plan.{Plan}
use Rattle.plan.specs.Heard.{heard}
use Rattle.arena.specs.Storing.{owner_of}
use Rattle.plan.specs.After.{word_rows, words_after, targets_after, member_row}
use Rattle.fill.specs.Fill.{texts_of, cell_on}
use Rattle.wordlists.specs.Words.{word_members, list_cells}
use Rattle.wordlists.proofs.Clean.{event_rows, send_rows, invoke_rows, targets_rows}
use Rattle.arena.proofs.WordLaw.{event_words_lem, send_words, invoke_words}
use Rattle.planfacts.proofs.Listed.{Words, no_words, events, names_of_send, names_of_invoke, Targets, no_targets, of_transition, of_initial, of_none, Listed, Unlisted}
use Rattle.targets.specs.Enter.{enter_all}
use Rattle.targets.specs.Enter as E
use Rattle.targets.proofs.Laws.{entered_rows}
use Rattle.wordlists.specs.Words.{word_cells, word_rows_of}
use Rattle.targets.specs.Names.{pieces_at, own_piece, pieces_in, skip_of, OwnIn, TargetsIn}
use Rattle.arena.proofs.Arena.{cell_inside, cells_there, pieces_there, own_there, own_inside}
use Rattle.targets.proofs.NameLaws as N

module _ (s : Store) (e : Event) (fit : in_form limits01 e ≡ true) (differ : keys_differ e.attributes ≡ true) (inside : D.All (Inside s.text) (name_cells (table_of s.numbers 1))) where
  abbrev n : Numbers
  n = s.numbers

  abbrev g : ℕ
  g = tag_of e.name

  abbrev o : ℕ
  o = length s.text

  abbrev is : List Load
  is = loads_of g n.names e

  abbrev text : List ℕ
  text = s.text ++ payload is

  abbrev t : List ℕ
  t = texts_of o (fields_from g o is)

  -- ---- the names

  pieces_are : pieces_in e.kind g text t ≡ names_brought g o is
  unfolding texts_of cell_on cell_at
  pieces_are =
      by (eqb e.kind 3)
      (λ q.
      let k : e.kind ≡ 3 = eqb-true e.kind 3 q in
      N.ends_bring e.kind g text t k ∙ sym (ap (names_brought g o) (no_loads s e fit differ inside k) ∙ nothing))
      (λ q.
      let k : e.kind ≡ 3 → ⊥ = eqb-false e.kind 3 q in
      by (names_state g)
      (λ m.
      N.state_brings e.kind g text t k m
      ∙ ap₂ (λ (x : Piece) (xs : List Piece). x ∷ xs) (own_there g s.text is 1 (has_own e g n.names differ m q)) (pieces_there g s.text is 2)
      ∙ sym (state_stands e g n.names differ m q o))
      (λ m.
      by (eqb g 16) (λ z. N.transition_brings e.kind g text t k m (eqb-true g 16 z) ∙ pieces_there g s.text is 17 ∙ sym (transition_stands e g n.names differ (eqb-true g 16 z) o))
      (λ z. N.others_bring e.kind g text t k m (eqb-false g 16 z) ∙ sym (others_bring e g n.names differ m z o))))
    where
      nothing : names_brought g o [] ≡ []
      nothing = unfold names_brought names_from in refl

  pub own_given : OwnIn e.kind g text t
  unfolding texts_of cell_on cell_at
  own_given q m = own_inside g s.text is 1 (has_own e g n.names differ m q)

  pub targets_given : TargetsIn text t
  unfolding texts_of cell_on cell_at
  targets_given = (cell_inside g s.text is 2, cell_inside g s.text is 17)

  refs_are : (resolve text (name_cells (table_of n 1)) (pieces_in e.kind g text t)).refs ≡ (look s e).refs
  unfolding look
  refs_are = ap (λ (ps : List Piece). (resolve text (name_cells (table_of n 1)) ps).refs) pieces_are

  known_are : (resolve text (name_cells (table_of n 1)) (pieces_in e.kind g text t)).known ≡ (look s e).known
  unfolding look
  known_are = ap (λ (ps : List Piece). (resolve text (name_cells (table_of n 1)) ps).known) pieces_are

  -- THE STATES WITH THE EVENT'S NAMES.
  pub states_entered : 1 < length n.tables → enter_all text (table_of n 1) (pieces_in e.kind g text t) ≡ table_of (entered (look s e) n) 1
  unfolding entered on_table
  states_entered h =
      entered_rows text (table_of n 1) (pieces_in e.kind g text t) ∙ ap (λ (cs : List Cell). table_of n 1 ++ map state_row (drop (length (table_of n 1)) cs)) known_are
      ∙ sym (get_or-set_same n.tables 1 (table_of n 1 ++ map state_row (drop (length (table_of n 1)) (look s e).known)) [] h)

  -- ---- the words

  abbrev l : Look
  l = look s e

  abbrev w : Option MemberPlan → List Row
  w p = word_rows_of g text t p

  none_listed : (p : Option MemberPlan) (u : Table) → p ≡ None → words_after l p u ≡ u ++ w p
  unfolding words_after word_rows_of
  none_listed p u e = ap (λ (z : Option MemberPlan). words_after l z u) e ∙ sym (append-nil u) ∙ ap (λ (z : Option MemberPlan). u ++ w z) (sym e)

  -- The rows of words by their cells.
  rows_listed : (p : Option MemberPlan) (x : MemberPlan) (u : Table) → p ≡ Some x
      → word_rows l (list_number x.list) x.owner 0 x.value ≡ word_members (list_number x.list) x.owner (word_cells g text t) → words_after l p u ≡ u ++ w p
  unfolding words_after word_rows_of
  rows_listed p x u e h = ap (λ (z : Option MemberPlan). words_after l z u) e ∙ ap (λ (r : Table). u ++ r) h ∙ ap (λ (z : Option MemberPlan). u ++ w z) (sym e)

  cells_events : g ≡ 16 → word_cells g text t ≡ field_words (field_in (fields_from g o is) 14)
  unfolding word_cells texts_of cell_on cell_at
  cells_events q =
      rw (eq-eqb g 16 q, word_cells) (cells_there g s.text is 14 true) ∙ sym (ap (λ (x : ℕ). field_words (field_in (fields_from x o is) 14)) q ∙ event_words_lem o is)

  cells_names : (g ≡ 16 → ⊥) → field_words (field_in (fields_from g o is) 12) ≡ list_cells false (o + offset_in 12 is) (value_in 12 is) → word_cells g text t ≡ field_words (field_in (fields_from g o is) 12)
  unfolding word_cells texts_of cell_on cell_at
  cells_names q h = rw (ne_eqb g 16 q, word_cells) (cells_there g s.text is 12 false) ∙ sym h

  words_written : (p : Option MemberPlan) (u : Table) → Words g (heard l) p → words_after l p u ≡ u ++ w p
  unfolding heard words_of look
  words_written p u (no_words z) = none_listed p u z
  words_written p u (events x q e z) =
      let k : ℕ = list_number x.list in
      rows_listed p x u e (ap (word_rows l k x.owner 0) z ∙ event_rows l k x.owner q ∙ ap (word_members k x.owner) (sym (cells_events q)))
  words_written p u (names_of_send x q e z) =
      let k : ℕ = list_number x.list in
      rows_listed p x u e (
      ap (word_rows l k x.owner 0) z ∙ send_rows l k x.owner q
      ∙ ap (word_members k x.owner) (sym (cells_names (λ y. omega (arith, y, q)) (ap (λ (y : ℕ). field_words (field_in (fields_from y o is) 12)) q ∙ send_words o is))))
  words_written p u (names_of_invoke x q e z) =
      let k : ℕ = list_number x.list in
      rows_listed p x u e (
      ap (word_rows l k x.owner 0) z ∙ invoke_rows l k x.owner q
      ∙ ap (word_members k x.owner) (sym (cells_names (λ y. omega (arith, y, q)) (ap (λ (y : ℕ). field_words (field_in (fields_from y o is) 12)) q ∙ invoke_words o is))))

  -- ---- the targets

  abbrev refs : List ℕ
  refs = (resolve text (name_cells (table_of n 1)) (pieces_in e.kind g text t)).refs

  abbrev target : ℕ → ℕ → Row
  target owner v = E.member_row 6 owner v

  drop_nil : (k : ℕ) → ◌≡◌ {A = List ℕ} (drop k []) []
  drop_nil zero = refl
  drop_nil (suc k) = refl

  -- Without names no target.
  none_named : (q : Option TargetPlan) (u : Table) → pieces_in e.kind g text t ≡ [] → q ≡ None → targets_after l q u ≡ u ++ map (target (owner_of q)) (drop (skip_of e.kind g) refs)
  unfolding targets_after resolve
  none_named q u z w₀ =
      let r : drop (skip_of e.kind g) refs ≡ [] = ap (λ (ps : List Piece). drop (skip_of e.kind g) (resolve text (name_cells (table_of n 1)) ps).refs) z ∙ drop_nil (skip_of e.kind g) in
      ap (λ (x : Option TargetPlan). targets_after l x u) w₀ ∙ sym (append-nil u) ∙ ap (λ (x : List ℕ). u ++ map (target (owner_of q)) x) (sym r)

  all_named : (q : Option TargetPlan) (x : TargetPlan) (u : Table) → q ≡ Some x → x.skip ≡ skip_of e.kind g → targets_after l q u ≡ u ++ map (target (owner_of q)) (drop (skip_of e.kind g) refs)
  unfolding E.member_row member_row owner_of
  all_named q x u eo es =
      ap (λ (z : Option TargetPlan). targets_after l z u) eo ∙ sym (targets_rows l x (target x.owner) (λ v. refl) u)
      ∙ ap₂ (λ (k : ℕ) (rs : List ℕ). u ++ map (target x.owner) (drop k rs)) es (sym refs_are)
      ∙ ap (λ (z : Option TargetPlan). u ++ map (target (owner_of z)) (drop (skip_of e.kind g) refs)) (sym eo)

  -- No `initial` attribute: the own name alone.
  absent : has l 2 ≡ false → pieces_at text (cell_at t 4) ≡ []
  unfolding has present look texts_of cell_on cell_at pieces_at
  absent h = go (field_in (fields_from g o is) 2) h
    where
      go : (f : P.Option Field) → present f ≡ false → pieces_at text (field_cell f) ≡ []
      go P.none z = unfold field_cell no_cell pieces_at in refl
      go (P.some f) z = absurd (truth z)
        where
          truth : ◌≡◌ {A = Bool} true false → ⊥
          truth y = subst (λ (b : Bool). elim b as (λ c. Type 0) [ true ↦ Unit {0} | false ↦ ⊥ ]) y tt

  one_alone : drop 1 (resolve text (name_cells (table_of n 1)) (own_piece text (cell_at t 2) ∷ [])).refs ≡ []
  unfolding resolve
  one_alone = refl

  own_alone : (q : Option TargetPlan) (u : Table) → (e.kind ≡ 3 → ⊥) → names_state g ≡ true → has l 2 ≡ false → q ≡ None → targets_after l q u ≡ u ++ map (target (owner_of q)) (drop (skip_of e.kind g) refs)
  unfolding targets_after
  own_alone q u k m h w₀ =
      let z : pieces_in e.kind g text t ≡ own_piece text (cell_at t 2) ∷ [] = N.state_brings e.kind g text t k m ∙ ap (λ (ps : List Piece). own_piece text (cell_at t 2) ∷ ps) (absent h) in
      let r : drop (skip_of e.kind g) refs ≡ [] =
      ap₂ (λ (i : ℕ) (ps : List Piece). drop i (resolve text (name_cells (table_of n 1)) ps).refs) (N.state_skips e.kind g text t k m) z ∙ one_alone in
      ap (λ (x : Option TargetPlan). targets_after l x u) w₀ ∙ sym (append-nil u) ∙ ap (λ (x : List ℕ). u ++ map (target (owner_of q)) x) (sym r)

  transition_not : g ≡ 16 → names_state g ≡ false
  unfolding names_state among
  transition_not q = ap names_state q

  targets_written : (q : Option TargetPlan) (u : Table) → (e.kind ≡ 3 → ⊥) → Targets g (heard l) q → targets_after l q u ≡ u ++ map (target (owner_of q)) (drop (skip_of e.kind g) refs)
  unfolding heard
  targets_written q u k (no_targets m z w₀) = none_named q u (N.others_bring e.kind g text t k m (eqb-false g 16 z)) w₀
  targets_written q u k (of_transition x h eo es) = all_named q x u eo (es ∙ sym (N.other_skips e.kind g text t k (transition_not h)))
  targets_written q u k (of_initial x m i eo es) = all_named q x u eo (es ∙ sym (N.state_skips e.kind g text t k m))
  targets_written q u k (of_none m i w₀) = own_alone q u k m i w₀

  -- THE MEMBERS WITH THE EVENT'S WORDS AND TARGETS.
  pub members_listed : (p : Plan) (u : Table) → ((e.kind ≡ 3 → ⊥) → Listed g (heard l) p) → (e.kind ≡ 3 → Unlisted p)
      → targets_after l p.members.targets (words_after l p.members.words u) ≡ (u ++ w p.members.words) ++ map (target (owner_of p.members.targets)) (drop (skip_of e.kind g) refs)
  members_listed p u begins ends =
      by (eqb e.kind 3)
      (λ q.
      let k : e.kind ≡ 3 = eqb-true e.kind 3 q in
      ap (targets_after l p.members.targets) (none_listed p.members.words u (ends k).words) ∙ none_named p.members.targets (u ++ w p.members.words) (N.ends_bring e.kind g text t k) (ends k).targets)
      (λ q.
      let k : e.kind ≡ 3 → ⊥ = eqb-false e.kind 3 q in
      ap (targets_after l p.members.targets) (words_written p.members.words u (begins k).words) ∙ targets_written p.members.targets (u ++ w p.members.words) k (begins k).targets)
