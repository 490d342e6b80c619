-- The state names that an event brings, entered: the rules are kept.
use Prim.Native.Nat.{ℕ, ◌≤◌}
use mathlib.Core.Path.{◌≡◌, refl, sym, ap, ◌∙◌, subst}
use mathlib.Core.List.{List, [], ◌∷◌, ◌++◌, map}
use lib.ListN.{length, get_or, set, drop, length-set}
use lib.Seq.{get_or-set_other, get_or-set_same, drop-append_seam}
use native.Mathlib.Omega.{arith}
use Rattle.definition.specs.declared.Limits.{Limits}
use Rattle.definition.specs.Rows.{Table, columns_of, blank, Cell, cell_at, with_cell, Numbers, table_of}
use Rattle.definition.specs.Look.{Look, name_cells}
use Rattle.definition.specs.Change.{on_table, state_row, entered}
use Rattle.definition.specs.Rules.{is_inside, following, chosen, has_own_number}
use Rattle.definition.proofs.Finds.{cells_length}
use Rattle.kept.proofs.Base.{All, All-append, get_d_set}
use Rattle.kept.proofs.Classes.{View, HasRow, Fits, Nums, Texts, Laid}
use Rattle.kept.proofs.Grow.{ExtAll, ext_refl, ext_append, ext_on, zero_grow, nth_to, Grows}
use Rattle.kept.proofs.RowCells.{CellIn, texts_old}
use Rattle.kept.proofs.Tables.{RowOk, rows_ok_grow}
use Rattle.kept.proofs.Sound.{at, Sound}
use Rattle.kept.proofs.Okay.{Ok, OkOf}
use Rattle.kept.proofs.Resolved.{Known, leads_from, leads_to}

-- ---- names in the states' rows

cells_append : (rs us : Table) → name_cells (rs ++ us) ≡ name_cells rs ++ name_cells us
unfolding name_cells
cells_append [] us = refl
cells_append (r ∷ rs) us = ap (λ (cs : List Cell). cell_at r 0 ∷ cs) (cells_append rs us)

cells_rows : (cs : List Cell) → name_cells (map state_row cs) ≡ cs
unfolding name_cells state_row with_cell blank cell_at columns_of
cells_rows [] = refl
cells_rows (c ∷ cs) = ap (λ (ds : List Cell). c ∷ ds) (cells_rows cs)

cells_in : (u : ℕ) (T : List Table) (i d : ℕ) (rs : Table) → All (RowOk (at u T i d) 1) rs → All (CellIn u) (name_cells rs)
unfolding name_cells columns_of Rattle.kept.proofs.RowChange.is_texty
cells_in u T i d [] a = tt
cells_in u T i d (r ∷ rs) a = (texts_old u (columns_of 1) r 0 refl a.0.texts, cells_in u T i d rs a.1)

pub known_of : (L : Limits) (t : List ℕ) (n : Numbers) → OkOf L t n → Known t (name_cells (table_of n 1))
known_of L t n K =
    record {
      inside = cells_in (length t) n.tables n.ids n.docs (table_of n 1) (K.sound.rows 1);
      leads = leads_from t (name_cells (table_of n 1)) 0 (name_cells (table_of n 1)) K.names;
    }

-- ---- a state's new row

state_row_ok : (W : View) (c : Cell) → CellIn W.used c → RowOk W 1 (state_row c)
unfolding state_row with_cell blank columns_of Nums Fits chosen Texts Laid following is_inside
state_row_ok W c h =
    record {
      nums =
          (tt, (tt, (omega arith, ((λ z. absurd (z refl)), ((λ z. absurd (z refl)), (refl, (refl, (refl, (omega arith, (refl, (tt, (tt, (tt, (tt, (refl, (refl, (refl, (refl, (refl, (refl, (refl, (refl, (refl, (refl, tt))))))))))))))))))))))));
      texts = (h, (tt, (tt, (tt, (tt, (tt, (tt, (tt, (tt, (tt, (refl, (tt, (refl, (tt, (tt, (tt, (tt, (tt, (tt, (tt, (tt, (tt, (tt, (tt, tt))))))))))))))))))))))));
    }

state_rows_ok : (W : View) (cs : List Cell) → All (CellIn W.used) cs → All (RowOk W 1) (map state_row cs)
state_rows_ok W [] a = tt
state_rows_ok W (c ∷ cs) a = (state_row_ok W c a.0, state_rows_ok W cs a.1)

all_right : (P : Cell → Type 0) (xs ys : List Cell) → All P (xs ++ ys) → All P ys
all_right P [] ys a = a
all_right P (x ∷ xs) ys a = all_right P xs ys a.1

module _ (L : Limits) (s t : List ℕ) (n : Numbers) (K : OkOf L s n) (grows : length s ≤ length t) (l : Look) (known : Known t l.known) (more : List Cell) (all : l.known ≡ name_cells (table_of n 1) ++ more) where
  abbrev u : ℕ
  u = length t

  abbrev T : List Table
  T = n.tables

  abbrev states : Table
  states = get_or T 1 [] ++ map state_row more

  abbrev U : List Table
  U = set T 1 states

  new_cells : drop (length (table_of n 1)) l.known ≡ more
  new_cells =
      ap (drop (length (table_of n 1))) all ∙ ap (λ (k : ℕ). drop k (name_cells (table_of n 1) ++ more)) (sym (cells_length (table_of n 1))) ∙ drop-append_seam (name_cells (table_of n 1)) more

  entered_tables : (entered l n).tables ≡ U
  unfolding entered on_table
  entered_tables = ap (λ (cs : List Cell). set T 1 (get_or T 1 [] ++ map state_row cs)) new_cells

  ext : ExtAll T U
  ext = ext_on 1 T states (ext_append 1 (get_or T 1 []) (map state_row more))

  viewed : Grows (at (length s) T n.ids n.docs) (at u U n.ids n.docs)
  viewed = record { rows = ext; ids = omega arith; docs = omega arith; used = grows }

  at_other : (k : ℕ) → ¬ (k ≡ 1) → get_or U k [] ≡ get_or T k []
  at_other k h = get_or-set_other T 1 k states [] h

  at_one : get_or U 1 [] ≡ states
  at_one = get_or-set_same T 1 states [] (omega (arith, K.sound.twelve))

  known_cells : name_cells (get_or U 1 []) ≡ l.known
  known_cells = ap name_cells at_one ∙ cells_append (get_or T 1 []) (map state_row more) ∙ ap (λ (cs : List Cell). name_cells (get_or T 1 []) ++ cs) (cells_rows more) ∙ sym all

  sound_entered : Sound u U U n.ids n.docs
  sound_entered =
      record {
        twelve = length-set T 1 states ∙ K.sound.twelve;
        rows =
            get_d_set (λ k rs. All (RowOk (at u U n.ids n.docs) k) rs) T [] 1 states
            (λ k. rows_ok_grow (at (length s) T n.ids n.docs) (at u U n.ids n.docs) viewed k (get_or T k []) (K.sound.rows k))
            (All-append (RowOk (at u U n.ids n.docs) 1) (get_or T 1 []) (map state_row more)
            (rows_ok_grow (at (length s) T n.ids n.docs) (at u U n.ids n.docs) viewed 1 (get_or T 1 []) (K.sound.rows 1))
            (state_rows_ok (at u U n.ids n.docs) more (all_right (CellIn u) (name_cells (table_of n 1)) more (subst (All (CellIn u)) all known.inside))));
        fit =
            record {
              transitions = rw (at_other 2 (omega arith)) K.sound.fit.transitions;
              regions = rw (at_other 3 (omega arith)) K.sound.fit.regions;
              apart = rw (at_other 2 (omega arith), at_other 3 (omega arith)) K.sound.fit.apart;
            };
        names = refl;
        opened = refl;
        open_names = refl;
        grown = λ k. ext_refl k (get_or U k []);
      }

  in-U : Ok L t U n.ids n.docs n.current
  in-U =
      record {
        sound = sound_entered;
        names = rw known_cells (leads_to t l.known 0 l.known known.leads);
        opens = rw (at_other 9 (omega arith), at_other 10 (omega arith)) K.opens;
        even = rw (at_other 9 (omega arith), at_other 10 (omega arith)) K.even;
        tags = rw (at_other 11 (omega arith)) K.tags;
        blocks = rw (at_other 11 (omega arith), at_other 9 (omega arith)) K.blocks;
        current = zero_grow T U ext 3 n.current K.current;
      }

  pub entered_ok : OkOf L t (entered l n)
  entered_ok = unfold entered in subst (λ (X : List Table). Ok L t X n.ids n.docs n.current) (sym entered_tables) in-U

  -- What is resolved is a state.
  pub entered_has : (v : ℕ) → 1 ≤ v → v ≤ length l.known → HasRow (entered l n).tables 1 v
  unfolding has_own_number
  entered_has v a b =
      subst (λ (X : List Table). HasRow X 1 v) (sym entered_tables) (nth_to U 1 v refl a (omega (arith, b, ap length known_cells, cells_length (get_or U 1 []))))

  pub entered_opened : table_of (entered l n) 9 ≡ table_of n 9
  entered_opened = ap (λ (X : List Table). get_or X 9 []) entered_tables ∙ at_other 9 (omega arith)

  pub entered_chart : table_of (entered l n) 0 ≡ table_of n 0
  entered_chart = ap (λ (X : List Table). get_or X 0 []) entered_tables ∙ at_other 0 (omega arith)
