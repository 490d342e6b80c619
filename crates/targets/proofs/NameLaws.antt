-- For the proofs of the functions on names.
use Prim.Native.Nat.{ℕ, zero, suc, ◌+◌, ◌-◌, ◌≤◌}
use mathlib.Core.Path.{◌≡◌, refl, sym, ap, ap₂, ◌∙◌, subst}
use mathlib.Core.Bool.{true, false}
use mathlib.Core.List.{List, [], ◌∷◌, ◌++◌, map, append-nil}
use native.Mathlib.Omega.{arith}
use lib.ListN.{length, take, drop, length-drop, length-take}
use lib.Seq.{length-take-le}
use borrow.Author.Tests.{eq-eqb, ne_eqb}
use Rattle.definition.specs.Text.{Piece, bytes_at}
use Rattle.definition.specs.Elements.{names_state}
use Rattle.definition.specs.Rows.{Table, Cell, cell_at, text_at, text_from}
use Rattle.definition.specs.Look.{name_cells, find_name, piece_cell, enter, resolve}
use Rattle.definition.specs.Rules.{names_lead}
use Rattle.definition.specs.Reader.{over}
use Rattle.plan.proofs.Over.{over_start}
use Rattle.fill.specs.Fill.{cell}
use Rattle.tables.proofs.Clean.{over_over}
use Rattle.targets.specs.Enter.{enter_row, enter_all, names_at, member_row, placed_row, count_after, Room, Entered}
use Rattle.targets.proofs.Laws.{Partly, partly_start, partly_end, enter_partly, enter_size, cells_enter, all_grows}
use Rattle.targets.proofs.ApartLaws.{apart_entered}
use Rattle.fill.specs.declared.TextCell.{TextCell}
use Rattle.fill.specs.Fill.{as_cell}
use Rattle.targets.specs.Names.{pieces_at, own_piece, target_pieces, pieces_in, skip_of, NameRoom, NamesWritten, InText}

pred : (x : ℕ) → (x ≡ 0 → ⊥) → x ≡ suc (x - 1)
pred zero h = absurd (h refl)
pred (suc x) h = omega arith

-- ---- no name

module _ (st ms : Table) (text : List ℕ) (count used owner skip : ℕ) where
  skip_none : (n : ℕ) → drop n (resolve text (name_cells (take count st)) []).refs ≡ []
  unfolding resolve
  skip_none zero = refl
  skip_none (suc n) = refl

  no_pieces : (n : ℕ) → ◌≡◌ {A = List Piece} (drop n []) []
  no_pieces zero = refl
  no_pieces (suc n) = refl

  pub none_written : (ps : List Piece) → ps ≡ [] → NameRoom st ms text count used skip ps → NamesWritten st ms text count used owner skip ps st ms count used
  unfolding enter_all
  none_written ps e R =
      let c : count ≤ length st = omega (arith, R.fits, R.long) in
      let u : used ≤ length ms = omega (arith, R.members) in
      let x : enter_all text (take count st) ps ≡ take count st = ap (enter_all text (take count st)) e in
      let y : map (member_row 6 owner) (drop skip (resolve text (name_cells (take count st)) ps).refs) ≡ [] =
      ap (λ (z : List Piece). map (member_row 6 owner) (drop skip (resolve text (name_cells (take count st)) z).refs)) e ∙ ap (map (member_row 6 owner)) (skip_none skip) in
      record {
        states = sym (ap (λ (z : Table). over z st) x ∙ over_start count st c);
        members = sym (ap (λ (z : Table). over (take used ms ++ z) ms) y ∙ ap (λ (z : Table). over z ms) (append-nil (take used ms)) ∙ over_start used ms u);
        counted = omega (arith, ap length x, length-take-le count st c);
        filled = omega (arith, ap (λ (z : List Piece). length (drop skip z)) e, ap length (no_pieces skip));
      }

-- ---- targets

module _ (st ms : Table) (text : List ℕ) (count used owner : ℕ) (c : TextCell) where
  pub no_targets : c.at ≡ 0 → pieces_at text (as_cell c) ≡ []
  unfolding pieces_at as_cell cell
  no_targets z = ap (λ (a : ℕ). elim a as (λ b. List Piece) [ zero ↦ [] | suc i ↦ names_at text i c.len ]) z

  pieces_some : (a : ℕ) → c.at ≡ suc a → pieces_at text (as_cell c) ≡ names_at text a c.len
  unfolding pieces_at as_cell cell
  pieces_some a z = ap (λ (x : ℕ). elim x as (λ b. List Piece) [ zero ↦ [] | suc i ↦ names_at text i c.len ]) z

  module _ (off len : ℕ) (h : c.at ≡ 0 → ⊥) (eo : off ≡ c.at - 1) (el : len ≡ c.len) where
    pieces_are : pieces_at text (as_cell c) ≡ names_at text off len
    pieces_are = pieces_some (c.at - 1) (pred c.at h) ∙ ap₂ (names_at text) (sym eo) (sym el)

    pub targets_room : NameRoom st ms text count used 0 (pieces_at text (as_cell c)) → InText text (as_cell c) → Room st ms text count used off len
    unfolding as_cell cell
    targets_room R I =
        record {
          short = R.short;
          inside = omega (arith, I (c.at - 1) (pred c.at h), eo, el);
          long = R.long;
          fits = R.fits;
          states = omega (arith, R.states, ap (λ (ps : List Piece). length (enter_all text (take count st) ps)) pieces_are);
          members = omega (arith, R.members, ap length pieces_are);
          apart = R.apart;
        }

    pub targets_written : (st' ms' : Table) (n m : ℕ) → Entered st ms text count used off len owner st' ms' n m → NamesWritten st ms text count used owner 0 (pieces_at text (as_cell c)) st' ms' n m
    targets_written st' ms' n m E =
        let q : names_at text off len ≡ pieces_at text (as_cell c) = sym pieces_are in
        record {
          states = E.states ∙ ap (λ (ps : List Piece). over (enter_all text (take count st) ps) st) q;
          members = E.members ∙ ap (λ (ps : List Piece). over (take used ms ++ map (member_row 6 owner) (resolve text (name_cells (take count st)) ps).refs) ms) q;
          counted = E.counted ∙ ap (λ (ps : List Piece). length (enter_all text (take count st) ps)) q;
          filled = E.filled ∙ ap (λ (ps : List Piece). used + length ps) q;
        }

-- ---- an own name, then targets

module _ (st ms : Table) (text : List ℕ) (count used owner : ℕ) (own : Cell) (ps : List Piece) (there : 1 ≤ own.at) (inside : own.at + own.len ≤ suc (length text)) (R : NameRoom st ms text count used 1 (own_piece text own ∷ ps)) where
  abbrev p : Piece
  p = own_piece text own

  abbrev rows : Table
  rows = take count st

  module _ (off len : ℕ) (eo : off ≡ own.at - 1) (el : len ≡ own.len) where
    own_word : bytes_at text (record { off = off; len = len }) ≡ p.word
    unfolding own_piece text_at text_from
    own_word =
        let a : own.at ≡ suc off = omega (arith, eo, there) in
        sym (ap₂ (text_from text) a (sym el))

    word_length : length p.word ≡ len
    unfolding bytes_at
    word_length = sym (ap length own_word) ∙ omega (arith, length-take len (drop off text), length-drop off text, inside, eo, el, there)

    own_spelled : bytes_at text (record { off = p.off; len = length p.word }) ≡ p.word
    unfolding own_piece
    own_spelled = ap₂ (λ (i j : ℕ). bytes_at text (record { off = i; len = j })) (sym eo) word_length ∙ own_word

    cell_is : record { at = off + 1; len = len } ≡ piece_cell p
    unfolding piece_cell own_piece
    cell_is = let a : off + 1 ≡ suc (own.at - 1) = omega (arith, eo) in λ j. record { at = a j; len = sym word_length j }

    abbrev k : ℕ
    k = find_name text (name_cells rows) p.word

    abbrev row' : Table
    row' = enter_row rows k (piece_cell p)

    pub name_inside : off + len ≤ length text
    name_inside = omega (arith, eo, el, there, inside)

    count_in : count ≤ length st
    count_in = omega (arith, R.fits, R.long)

    size_is : count_after count k ≡ length row'
    size_is = enter_size st st count (partly_start st count count_in) k (piece_cell p)

    all_is : enter_all text rows (p ∷ ps) ≡ enter_all text row' ps
    unfolding enter_all
    all_is = refl

    grown : length row' ≤ length (enter_all text row' ps)
    grown = all_grows text row' ps

    room_for : count_after count k ≤ length st
    room_for = omega (arith, size_is, grown, ap length all_is, R.states, R.long)

    pub name_room : (count ≤ length st) × (count_after count (find_name text (name_cells rows) (bytes_at text (record { off = off; len = len }))) ≤ length st)
    name_room = (count_in, subst (λ (w : List ℕ). count_after count (find_name text (name_cells rows) w) ≤ length st) (sym own_word) room_for)

    module _ (r : ℕ) (st₁ : Table) (er : r ≡ find_name text (name_cells rows) (bytes_at text (record { off = off; len = len }))) (es : st₁ ≡ placed_row st count r (record { at = off + 1; len = len }))
        (n : ℕ) (en : n ≡ count_after count r) where
      r_is : r ≡ k
      r_is = er ∙ ap (find_name text (name_cells rows)) own_word

      n_is : n ≡ count_after count k
      n_is = en ∙ ap (count_after count) r_is

      placed : st₁ ≡ placed_row st count k (piece_cell p)
      placed = es ∙ ap₂ (placed_row st count) r_is cell_is

      after : Partly st st₁ (count_after count k) × (take (count_after count k) st₁ ≡ row')
      after = enter_partly st st count (partly_start st count count_in) k (piece_cell p) room_for st₁ placed

      rows_are : take n st₁ ≡ row'
      rows_are = ap (λ (i : ℕ). take i st₁) n_is ∙ after.1

      table_is : st₁ ≡ over row' st
      table_is = partly_end st st₁ (count_after count k) after.0 row' after.1

      same_size : length st₁ ≡ length st
      same_size = after.0.size

      pub then_room : NameRoom st₁ ms text n used 0 ps
      then_room =
          record {
            short = R.short;
            long = omega (arith, R.long, same_size);
            fits = omega (arith, n_is, size_is, grown, ap length all_is, R.states);
            states = omega (arith, ap (λ (z : Table). length (enter_all text z ps)) rows_are, ap length all_is, R.states);
            members = R.members;
            apart = subst (λ (z : Table). names_lead text (name_cells z) 0 (name_cells z) ≡ true) (sym rows_are) (apart_entered text rows p own_spelled R.apart);
          }

      pub then_written : (st' ms' : Table) (i m : ℕ) → NamesWritten st₁ ms text n used owner 0 ps st' ms' i m → NamesWritten st ms text count used owner 1 (p ∷ ps) st' ms' i m
      unfolding enter_all resolve
      then_written st' ms' i m W =
          let x : enter_all text (take n st₁) ps ≡ enter_all text row' ps = ap (λ (z : Table). enter_all text z ps) rows_are in
          let c : name_cells (take n st₁) ≡ enter (name_cells rows) k (piece_cell p) = ap name_cells rows_are ∙ cells_enter rows k (piece_cell p) in
          record {
            states = W.states ∙ ap₂ over x table_is ∙ over_over (enter_all text row' ps) row' st grown;
            members = W.members ∙ ap (λ (cs : List Cell). over (take used ms ++ map (member_row 6 owner) (resolve text cs ps).refs) ms) c;
            counted = W.counted ∙ ap length x;
            filled = W.filled;
          }

-- ---- cells

pub cell_at_lem : (c : TextCell) (x : Cell) → as_cell c ≡ x → c.at ≡ x.at
unfolding as_cell cell
cell_at_lem c x e = ap (λ (y : Cell). y.at) e

pub cell_len : (c : TextCell) (x : Cell) → as_cell c ≡ x → c.len ≡ x.len
unfolding as_cell cell
cell_len c x e = ap (λ (y : Cell). y.len) e

pub off_at : (c : TextCell) (x : Cell) → as_cell c ≡ x → (a off : ℕ) → off ≡ c.at - 1 → off ≡ x.at - 1
off_at c x e a off h = h ∙ ap (λ (y : ℕ). y - 1) (cell_at_lem c x e)

pub as_room : (st ms : Table) (text : List ℕ) (count used : ℕ) (c : TextCell) (x : Cell) → as_cell c ≡ x → NameRoom st ms text count used 0 (pieces_at text x) → InText text x
    → NameRoom st ms text count used 0 (pieces_at text (as_cell c)) × InText text (as_cell c)
as_room st ms text count used c x e R I = (subst (λ (y : Cell). NameRoom st ms text count used 0 (pieces_at text y)) (sym e) R, subst (InText text) (sym e) I)

pub as_written : (st ms : Table) (text : List ℕ) (count used owner : ℕ) (c : TextCell) (x : Cell) → as_cell c ≡ x → (st' ms' : Table) (n m : ℕ)
    → NamesWritten st ms text count used owner 0 (pieces_at text (as_cell c)) st' ms' n m → NamesWritten st ms text count used owner 0 (pieces_at text x) st' ms' n m
as_written st ms text count used owner c x e st' ms' n m W = subst (λ (y : Cell). NamesWritten st ms text count used owner 0 (pieces_at text y) st' ms' n m) e W

-- ---- by the element

module _ (kind g : ℕ) (text t : List ℕ) where
  pub ends_bring : kind ≡ 3 → pieces_in kind g text t ≡ []
  unfolding pieces_in
  ends_bring e = rw (eq-eqb kind 3 e, pieces_in)

  module _ (begins : kind ≡ 3 → ⊥) where
    pub state_brings : names_state g ≡ true → pieces_in kind g text t ≡ own_piece text (cell_at t 2) ∷ pieces_at text (cell_at t 4)
    unfolding pieces_in target_pieces
    state_brings n = rw (ne_eqb kind 3 begins, pieces_in, n, pieces_in, ne_eqb kind 3 begins, target_pieces, n, target_pieces)

    pub state_skips : names_state g ≡ true → skip_of kind g ≡ 1
    unfolding skip_of
    state_skips n = rw (ne_eqb kind 3 begins, skip_of, n, skip_of)

    pub other_skips : names_state g ≡ false → skip_of kind g ≡ 0
    unfolding skip_of
    other_skips n = rw (ne_eqb kind 3 begins, skip_of, n, skip_of)

    pub transition_brings : names_state g ≡ false → g ≡ 16 → pieces_in kind g text t ≡ pieces_at text (cell_at t 34)
    unfolding pieces_in target_pieces
    transition_brings n e = rw (ne_eqb kind 3 begins, pieces_in, n, pieces_in, ne_eqb kind 3 begins, target_pieces, n, target_pieces, eq-eqb g 16 e, target_pieces)

    pub others_bring : names_state g ≡ false → (g ≡ 16 → ⊥) → pieces_in kind g text t ≡ []
    unfolding pieces_in target_pieces
    others_bring n e = rw (ne_eqb kind 3 begins, pieces_in, n, pieces_in, ne_eqb kind 3 begins, target_pieces, n, target_pieces, ne_eqb g 16 e, target_pieces)

module _ (st ms : Table) (text : List ℕ) (count used : ℕ) where
  pub room_as : (s i : ℕ) (ps qs : List Piece) → s ≡ i → ps ≡ qs → NameRoom st ms text count used s ps → NameRoom st ms text count used i qs
  room_as s i ps qs e f R = subst (λ (x : ℕ). NameRoom st ms text count used x qs) e (subst (NameRoom st ms text count used s) f R)

  pub written_as : (owner s i : ℕ) (ps qs : List Piece) → s ≡ i → ps ≡ qs → (st' ms' : Table) (n m : ℕ) → NamesWritten st ms text count used owner i qs st' ms' n m → NamesWritten st ms text count used owner s ps st' ms' n m
  written_as owner s i ps qs e f st' ms' n m W =
      subst (λ (x : ℕ). NamesWritten st ms text count used owner x ps st' ms' n m) (sym e) (subst (λ (x : List Piece). NamesWritten st ms text count used owner i x st' ms' n m) (sym f) W)
