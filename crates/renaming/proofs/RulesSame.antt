-- Question 2 gets the same answer in two stores that are related: of texts it looks at lengths, and at names only for which are equal.
use Prim.Native.Nat.{ℕ, suc}
use mathlib.Core.Path.{◌≡◌, refl, sym, ap, ap₂, ◌∙◌}
use mathlib.Core.Bool.{Bool, true, false, ◌&&◌, cond}
use mathlib.Core.List.{List, [], ◌∷◌}
use lib.ListN.{length}
use lib.Dec.{eqb, leb}
use Rattle.definition.specs.declared.Limits.{Limits}
use Rattle.definition.specs.Elements.{name}
use Rattle.definition.specs.Rows.{Row, Table, table, schema, Class, free, own, doc_id, above, mark, len, code, row, existing, text, by, Cell, text_at, Numbers, table_of, Store}
use Rattle.definition.specs.Look.{find_name, name_cells}
use Rattle.definition.specs.Rules.{chosen, keeps, columns_keep, rows_keep, tables_keep, names_lead, names_distinct, numbers_fit, open_names_fit, open_regions_fit, is_row_or_zero, all_within, table_limits, counters_within, keeps_rules}
use Rattle.definition.proofs.Base.{All, elim_cond}
use Rattle.renaming.proofs.Words.{Total}
use Rattle.renaming.proofs.Names.{Held, find-ρ}
use Rattle.renaming.proofs.Looks.{names_held}
use Rattle.renaming.proofs.Edits.{TablesOk}

module _ (n : Numbers) (t u : List ℕ) (size : length u ≡ length t) where
  abbrev s : Store
  s = record { numbers = n; text = t }

  abbrev r : Store
  r = record { numbers = n; text = u }

  keeps_same : (x : Row) (c : Class) (v : ℕ) (vs : Row) → keeps r x c v vs ≡ keeps s x c v vs
  unfolding keeps
  keeps_same x free v vs = refl
  keeps_same x own v vs = refl
  keeps_same x doc_id v vs = refl
  keeps_same x above v vs = refl
  keeps_same x mark v vs = refl
  keeps_same x len v vs = refl
  keeps_same x (code a b) v vs = refl
  keeps_same x (row k) v vs = refl
  keeps_same x (existing k) v vs = refl
  keeps_same x (text q) v vs = rw size
  keeps_same x (by c k) v vs = refl

  columns_same : (x : Row) (cs : List Class) (vs : Row) → columns_keep r x cs vs ≡ columns_keep s x cs vs
  unfolding columns_keep
  columns_same x [] [] = refl
  columns_same x [] (v ∷ vs) = refl
  columns_same x (c ∷ cs) [] = refl
  columns_same x (c ∷ cs) (v ∷ vs) = go (keeps s x (chosen x c) v vs) refl (columns_same x cs vs)
    where
      go : (b : Bool) → keeps s x (chosen x c) v vs ≡ b → columns_keep r x cs vs ≡ columns_keep s x cs vs
          → columns_keep r x (c ∷ cs) (v ∷ vs) ≡ columns_keep s x (c ∷ cs) (v ∷ vs)
      go true e ih = rw (keeps_same x (chosen x c) v vs ∙ e, columns_keep, e, columns_keep) ih
      go false e ih = rw (keeps_same x (chosen x c) v vs ∙ e, columns_keep, e, columns_keep)

  rows_same : (cs : List Class) (xs : Table) → rows_keep r cs xs ≡ rows_keep s cs xs
  unfolding rows_keep
  rows_same cs [] = refl
  rows_same cs (x ∷ xs) = go (columns_keep s x cs x) refl (rows_same cs xs)
    where
      go : (b : Bool) → columns_keep s x cs x ≡ b → rows_keep r cs xs ≡ rows_keep s cs xs → rows_keep r cs (x ∷ xs) ≡ rows_keep s cs (x ∷ xs)
      go true e ih = rw (columns_same x cs x ∙ e, rows_keep, e, rows_keep) ih
      go false e ih = rw (columns_same x cs x ∙ e, rows_keep, e, rows_keep)

  tables_same : (css : List (List Class)) (ts : List Table) → tables_keep r css ts ≡ tables_keep s css ts
  unfolding tables_keep
  tables_same [] [] = refl
  tables_same [] (x ∷ ts) = refl
  tables_same (cs ∷ css) [] = refl
  tables_same (cs ∷ css) (x ∷ ts) = go (rows_keep s cs x) refl (tables_same css ts)
    where
      go : (b : Bool) → rows_keep s cs x ≡ b → tables_keep r css ts ≡ tables_keep s css ts → tables_keep r (cs ∷ css) (x ∷ ts) ≡ tables_keep s (cs ∷ css) (x ∷ ts)
      go true e ih = rw (rows_same cs x ∙ e, tables_keep, e, tables_keep) ih
      go false e ih = rw (rows_same cs x ∙ e, tables_keep, e, tables_keep)

  module _ (ρ : List ℕ → List ℕ) (R : Total ρ) (ok : TablesOk ρ R t u size n.tables) where
    lead_cond : (v : List ℕ) (all : List Cell) (i : ℕ) (c : Cell) (cs : List Cell)
        → names_lead v all i (c ∷ cs) ≡ cond (eqb (find_name v all (text_at v c)) i) (names_lead v all (suc i) cs) false
    unfolding names_lead
    lead_cond v all i c cs = elim_cond (eqb (find_name v all (text_at v c)) i) (names_lead v all (suc i) cs) false

    lead_same : (all : List Cell) → All (Held ρ R t u name) all → (i : ℕ) (cs : List Cell) → All (Held ρ R t u name) cs
        → names_lead u all i cs ≡ names_lead t all i cs
    unfolding names_lead
    lead_same all a i [] h = refl
    lead_same all a i (c ∷ cs) h =
        lead_cond u all i c cs
        ∙ ap₂ (λ (k : ℕ) (b : Bool). cond (eqb k i) b false) (ap (find_name u all) h.0.moved ∙ find-ρ ρ R t u all (text_at t c) a) (lead_same all a (suc i) cs h.1)
        ∙ sym (lead_cond t all i c cs)

    names_same : names_distinct r ≡ names_distinct s
    unfolding names_distinct
    names_same =
        let cs : List Cell = name_cells (table_of n table.states) in
        let a : All (Held ρ R t u name) cs = names_held ρ R t u size (table_of n table.states) (ok table.states) in
        lead_same cs a 0 cs a

    abbrev within : Limits → ℕ → Bool
    within L k = all_within (table_limits L) n.tables && counters_within L n && leb k n.charge

    abbrev rest : Limits → Bool → Bool → Bool
    rest L x y =
        x && y && numbers_fit n && open_names_fit L (table_of n table.opened) (table_of n table.open_names) && open_regions_fit n
        && is_row_or_zero n table.regions n.current

    rules_cond : (L : Limits) (v : List ℕ) → keeps_rules L (record { numbers = n; text = v })
        ≡ cond (within L (length v)) (rest L (tables_keep (record { numbers = n; text = v }) schema n.tables) (names_distinct (record { numbers = n; text = v }))) false
    unfolding keeps_rules
    rules_cond L v = go (within L (length v)) refl
      where
        z : Store
        z = record { numbers = n; text = v }

        go : (b : Bool) → within L (length v) ≡ b → keeps_rules L z ≡ cond (within L (length v)) (rest L (tables_keep z schema n.tables) (names_distinct z)) false
        go true e = rw (e, keeps_rules)
        go false e = rw (e, keeps_rules)

    -- QUESTION 2 IS ANSWERED ALIKE
    pub rules_same : (L : Limits) → keeps_rules L r ≡ keeps_rules L s
    rules_same L =
        rules_cond L u
        ∙ ap₂ (λ (k : ℕ) (b : Bool). cond (within L k) b false) size (ap₂ (rest L) (tables_same schema n.tables) names_same)
        ∙ sym (rules_cond L t)
