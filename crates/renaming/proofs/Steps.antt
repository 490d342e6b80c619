-- An accepted event leaves every text column of every row related, in whatever way its handler goes.
use Prim.Native.Nat.{ℕ, zero, suc, ◌≤◌}
use mathlib.Core.Path.{◌≡◌, refl}
use mathlib.Core.Bool.{Bool, true, false, ◌&&◌}
use mathlib.Core.Option.{some}
use mathlib.Core.List.{List, [], ◌∷◌, ◌++◌, map, reverse}
use lib.ListN.{length, get_or, drop}
use lib.Dec.{eqb}
use borrow.Author.Tests.{eqb-true}
use native.Mathlib.Omega.{arith}
use Rattle.definition.specs.declared.Limits.{Limits}
use Rattle.definition.specs.Elements.{name}
use Rattle.definition.specs.Rows.{Row, Table, table, state, schema, Class, free, text_role, columns_of, blank, Cell, Numbers, role_at}
use Rattle.definition.specs.Look.{Look}
use Rattle.definition.specs.Change.{Change, Outcome, done, refuse, on_table, state_row, entered, made, with_tables, opened_row, pushed, without_last, popped, edited_by}
use Rattle.definition.specs.Rules.{within_limits}
use Rattle.definition.specs.Reader.{Verdict, accept, reject, start_of, end_of, on_done, started, finished, handled, limited, questions, first_no, decided}
use Rattle.definition.proofs.Base.{and_left, and_right, All, All-append, get_d_set}
use Rattle.renaming.proofs.Words.{Total}
use Rattle.renaming.proofs.Names.{Held}
use Rattle.renaming.proofs.Fields.{FieldHeld}
use Rattle.definition.proofs.Tables.{sort, text_at_lem}
use Rattle.renaming.proofs.Edits.{RowOk, TablesOk, blank_ok, with_cell_lem, edits_ok}

-- ---- tables without texts: the open elements

unfoldable no_texts : List Class → Bool
unfolding sort
no_texts [] = true
no_texts (c ∷ cs) = eqb (sort c) 0 && no_texts cs

no_text : (cs : List Class) → no_texts cs ≡ true → (c : ℕ) → sort (get_or cs c free) ≡ 0
unfolding no_texts sort
no_text [] e c = refl
no_text (a ∷ cs) e zero = eqb-true (sort a) 0 (and_left (eqb (sort a) 0) (no_texts cs) e)
no_text (a ∷ cs) e (suc c) = no_text cs (and_right (eqb (sort a) 0) (no_texts cs) e) c

open_plain : no_texts (columns_of table.opened) ≡ true
unfolding no_texts columns_of schema
open_plain = refl

names_plain : no_texts (columns_of table.open_names) ≡ true
unfolding no_texts columns_of schema
names_plain = refl

regions_plain : no_texts (columns_of table.open_regions) ≡ true
unfolding no_texts columns_of schema
regions_plain = refl

name_role : role_at table.states state.name ≡ some name
unfolding role_at text_role columns_of schema
name_role = refl

module _ (ρ : List ℕ → List ℕ) (R : Total ρ) (t u : List ℕ) (size : length u ≡ length t) where
  any_row : (k : ℕ) → no_texts (columns_of k) ≡ true → (r : Row) → RowOk ρ R t u size k r
  any_row k e r c q f = absurd (omega (arith, no_text (columns_of k) e c, text_at_lem k c q f))

  any_rows : (k : ℕ) → no_texts (columns_of k) ≡ true → (rs : Table) → All (RowOk ρ R t u size k) rs
  any_rows k e [] = tt
  any_rows k e (r ∷ rs) = (any_row k e r, any_rows k e rs)

  -- A table without texts may become anything.
  plain_table : (k : ℕ) → no_texts (columns_of k) ≡ true → (f : Table → Table) (ts : List Table) → TablesOk ρ R t u size ts → TablesOk ρ R t u size (on_table k f ts)
  unfolding on_table
  plain_table k e f ts h = get_d_set (λ j rs. All (RowOk ρ R t u size j) rs) ts [] k _ h (any_rows k e (f (get_or ts k [])))

  -- ---- names that the event brings

  name_rows : (cs : List Cell) → All (Held ρ R t u name) cs → All (RowOk ρ R t u size table.states) (map state_row cs)
  unfolding state_row
  name_rows [] a = tt
  name_rows (c ∷ cs) a = (
    with_cell_lem ρ R t u size table.states state.name name name_role c a.0 (blank table.states) (blank_ok ρ R t u size table.states),
    name_rows cs a.1,
  )

  held_drop : (n : ℕ) (cs : List Cell) → All (Held ρ R t u name) cs → All (Held ρ R t u name) (drop n cs)
  held_drop zero cs a = a
  held_drop (suc n) [] a = tt
  held_drop (suc n) (c ∷ cs) a = held_drop n cs a.1

  abbrev pub VerdictOk : Verdict → Type 0
  VerdictOk (accept n) = TablesOk ρ R t u size n.tables
  VerdictOk (reject k) = Unit {0}

  module _ (l : Look) (a : All (FieldHeld ρ R t u size l.tag) l.fields) (b : l.base ≤ length t) (w : All (Held ρ R t u name) l.known) where
    abbrev Ok : Numbers → Type 0
    Ok n = TablesOk ρ R t u size n.tables

    entered_ok : (n : Numbers) → Ok n → Ok (entered l n)
    unfolding entered on_table
    entered_ok n h =
        let rs : Table = get_or n.tables table.states [] in
        get_d_set (λ j xs. All (RowOk ρ R t u size j) xs) n.tables [] table.states _ h
        (All-append (RowOk ρ R t u size table.states) rs _ (h table.states) (name_rows (drop (length rs) l.known) (held_drop (length rs) l.known w)))

    made_ok : (c : Change) (n : Numbers) → Ok n → Ok (made l c n)
    unfolding made
    made_ok c n h =
        plain_table table.open_regions regions_plain (λ rs. reverse c.regions) (edited_by l c.edits n.tables)
        (edits_ok ρ R t u size l.tag l a b c.edits refl n.tables h)

    pushed_ok : (c : Change) (n : Numbers) → Ok n → Ok (pushed l c n)
    unfolding pushed with_tables
    pushed_ok c n h =
        plain_table table.opened open_plain (λ rs. rs ++ opened_row l c ∷ []) (on_table table.open_names (λ rs. rs ++ l.name ∷ []) n.tables)
        (plain_table table.open_names names_plain (λ rs. rs ++ l.name ∷ []) n.tables h)

    popped_ok : (n : Numbers) → Ok n → Ok (popped n)
    unfolding popped with_tables
    popped_ok n h = plain_table table.opened open_plain without_last (on_table table.open_names without_last n.tables) (plain_table table.open_names names_plain without_last n.tables h)

    -- ---- a verdict

    on_done_lem : (o : Outcome) (next : Change → Verdict) → ((c : Change) → VerdictOk (next c)) → VerdictOk (on_done o next)
    unfolding on_done
    on_done_lem (refuse k) next h = tt
    on_done_lem (done c) next h = h c

    started_ok : (n : Numbers) → Ok n → (next : Numbers → Verdict) → ((m : Numbers) → Ok m → VerdictOk (next m)) → VerdictOk (started l n next)
    unfolding started
    started_ok n h next k = on_done_lem (start_of l.tag n l) _ (λ c. k (pushed l c (made l c n)) (pushed_ok c (made l c n) (made_ok c n h)))

    finished_ok : (n : Numbers) → Ok n → VerdictOk (finished l n)
    unfolding finished
    finished_ok n h = on_done_lem (end_of l.tag n) _ (λ c. popped_ok (made l c n) (made_ok c n h))

    handled_ok : (k : ℕ) (n : Numbers) → Ok n → VerdictOk (handled k l n)
    unfolding handled
    handled_ok zero n h = started_ok n h accept (λ m x. x)
    handled_ok (suc zero) n h = started_ok n h (finished l) finished_ok
    handled_ok (suc (suc zero)) n h = started_ok n h (finished l) finished_ok
    handled_ok (suc (suc (suc k))) n h = finished_ok n h

    limited_ok : (L : Limits) (v : Verdict) → VerdictOk v → VerdictOk (limited L v)
    unfolding limited
    limited_ok L (reject k) h = tt
    limited_ok L (accept n) h = go (within_limits L n) refl
      where
        go : (c : Bool) → within_limits L n ≡ c → VerdictOk (limited L (accept n))
        go true e = rw (e, limited) h
        go false e = rw (e, limited) tt

    -- WHAT IS DECIDED KEEPS THE RELATION
    pub decided_ok : (L : Limits) (n : Numbers) → Ok n → VerdictOk (decided L n l)
    unfolding decided
    decided_ok L n h = go (first_no (questions L n l)) refl
      where
        go : (k : ℕ) → first_no (questions L n l) ≡ k → VerdictOk (decided L n l)
        go zero e = rw (e, decided) (limited_ok L (handled l.kind l (entered l n)) (handled_ok l.kind (entered l n) (entered_ok n h)))
        go (suc k) e = rw (e, decided) tt
