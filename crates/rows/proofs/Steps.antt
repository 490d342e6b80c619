-- What the position's methods do is what the definition's steps do to the position of their store.
use mathlib.Core.Path.{◌≡◌, refl}
use mathlib.Core.Bool.{true}
use mathlib.Core.List.{List, [], ◌∷◌}
use Prim.Native.Nat.{ℕ, suc, ◌-◌}
use native.Mathlib.Numerals.{add-one}
use native.Mathlib.Omega.{arith}
use lib.Dec.{ltb}
use lib.ListN.{length, length-append}
use Rattle.definition.specs.declared.Limits.{Limits}
use Rattle.definition.specs.Look.{Look}
use Rattle.definition.specs.Rows.{Table, Store}
use Rattle.definition.specs.Change.{Change, nothing, next_id, next_doc, opened_row, pushed, popped, on_table, with_tables, without_last}
use Rattle.definition.specs.Position.{one_more, counting, pushed_at, popped_at, id_drawn, doc_drawn}
use Rattle.definition.specs.Reader.{rows_in, position_of}

shorter : (t : Table) → length (without_last t) ≡ length t - 1
unfolding without_last
shorter [] = refl
shorter (r ∷ []) = refl
shorter (r ∷ x ∷ t) = omega (arith, shorter (x ∷ t))

more : (limit n : ℕ) → ltb n limit ≡ true → one_more limit n ≡ suc n
unfolding one_more
more limit n h = rw (h, one_more)

module _ (ch st tr re en iv da pa me op on or : Table) (current ids docs names charge : ℕ) (text : List ℕ) (L : Limits) where
  abbrev store : Store
  store =
      record {
        numbers =
            record {
              tables = ch ∷ st ∷ tr ∷ re ∷ en ∷ iv ∷ da ∷ pa ∷ me ∷ op ∷ on ∷ or ∷ [];
              current = current;
              ids = ids;
              docs = docs;
              names = names;
              charge = charge;
            };
        text = text;
      }

  pub push_is : (l : Look) (c : Change) → ltb (length op) L.opened ≡ true → position_of (record { numbers = pushed l c store.numbers; text = text }) ≡ pushed_at L (position_of store)
  unfolding position_of rows_in pushed on_table with_tables pushed_at counting
  push_is l c h = rw (more L.opened (length op) h, length-append op (opened_row l c ∷ []), add-one)

  pub pop_is : position_of (record { numbers = popped store.numbers; text = text }) ≡ popped_at (position_of store)
  unfolding position_of rows_in popped on_table with_tables popped_at counting
  pop_is = rw (shorter op)

  pub draw_id_is : ltb ids L.drawn ≡ true → next_id (nothing store.numbers) ≡ (id_drawn L (position_of store)).ids
  unfolding position_of nothing next_id id_drawn counting
  draw_id_is h = rw (more L.drawn ids h)

  pub draw_doc_is : ltb docs L.drawn ≡ true → next_doc (nothing store.numbers) ≡ (doc_drawn L (position_of store)).docs
  unfolding position_of nothing next_doc doc_drawn counting
  draw_doc_is h = rw (more L.drawn docs h)
