-- The loop over the words of a value: what is written and what is left.
use Prim.Native.Nat.{ℕ, zero, suc, ◌+◌, ◌-◌, ◌≤◌, ◌<◌}
use mathlib.Core.Path.{◌≡◌, sym, ap, ap₂, ◌∙◌, subst}
use mathlib.Core.Bool.{true}
use mathlib.Core.List.{List, [], ◌∷◌, ◌++◌, map, append_assoc, append-nil}
use native.Mathlib.Omega.{arith}
use native.Mathlib.Nat.{add-zero}
use native.Mathlib.Numerals.{add-one}
use lib.ListN.{length, set, take, drop, length-drop}
use lib.Seq.{length-take-le, drop-drop, take-take, take-nil}
use Rattle.definition.specs.Text.{bytes_at, Piece, pieces, is_separator, state_words_at}
use Rattle.definition.specs.Rows.{Table, Cell}
use Rattle.definition.specs.Look.{find_name, name_cells, piece_cell, enter, resolve}
use Rattle.definition.specs.Rules.{names_lead}
use Rattle.definition.proofs.Finds.{find_le, cells_length}
use Rattle.words.specs.declared.Word.{Word}
use Rattle.words.specs.Next.{next_word, moved}
use Rattle.words.specs.Left.{words_left}
use Rattle.words.proofs.Laws.{Step, step, pieces_moved}
use Rattle.text.proofs.Laws.{part_at}
use Rattle.names.specs.Names.{words_from}
use Rattle.names.proofs.Laws.{words_next, word_lies}
use Rattle.targets.specs.Enter.{placed_row, count_after, enter_row, enter_all, member_row, names_at, Room, Entered}
use Rattle.targets.proofs.Laws.{Partly, partly_start, partly_put, partly_took, partly_end, partly_length, cells_enter, all_grows, enter_size, enter_partly}
use Rattle.targets.proofs.ApartLaws.{apart_entered}

-- ---- the value's words in the text

drop_take : (s l : ℕ) (xs : List ℕ) → drop s (take l xs) ≡ take (l - s) (drop s xs)
drop_take zero l xs = let e : l ≡ l - 0 = omega arith in ap (λ (n : ℕ). take n xs) e
drop_take (suc s) zero xs = let e : 0 ≡ 0 - suc s = omega arith in ap (λ (n : ℕ). take n (drop (suc s) xs)) e
drop_take (suc s) (suc l) [] = sym (take-nil (suc l - suc s))
drop_take (suc s) (suc l) (x ∷ xs) = let e : l - s ≡ suc l - suc s = omega arith in drop_take s l xs ∙ ap (λ (n : ℕ). take n (drop s xs)) e

module _ (t : List ℕ) (off len s e : ℕ) (order : s ≤ e) (fits : e ≤ len) where
  pub word_bytes : bytes_at t (record { off = off + s; len = e - s }) ≡ take (e - s) (drop s (bytes_at t (record { off = off; len = len })))
  unfolding bytes_at
  word_bytes =
      sym (ap (take (e - s)) (drop_take s len (drop off t) ∙ ap (take (len - s)) (drop-drop s off t)) ∙ take-take (e - s) (len - s) (drop (off + s) t) (omega arith))

pub value_length : (t : List ℕ) (off len : ℕ) → off + len ≤ length t → length (bytes_at t (record { off = off; len = len })) ≡ len
unfolding bytes_at
value_length t off len h = length-take-le len (drop off t) (omega (arith, length-drop off t))

-- The words from a place on, in the text.
abbrev pub rest : ℕ → List ℕ → ℕ → List Piece
rest off v at = map (moved off) (words_from v at)

pub all_words : (t : List ℕ) (off len : ℕ) → rest off (bytes_at t (record { off = off; len = len })) 0 ≡ names_at t off len
unfolding names_at state_words_at
all_words t off len =
    let v : List ℕ = bytes_at t (record { off = off; len = len }) in
    sym (pieces_moved is_separator off 0 [] v) ∙ ap (λ (n : ℕ). pieces is_separator n [] v) (add-zero off)

-- ---- the loop

pub record Entering (st ms : Table) (t v : List ℕ) (off owner : ℕ) (rows members : Table) (total : ℕ) (st' ms' : Table) (n m at : ℕ) : Type 0 where
  pub inside : at ≤ length v
  pub states : Partly st st' n
  pub partly : Partly ms ms' m
  pub names : enter_all t (take n st') (rest off v at) ≡ rows
  pub refs : take m ms' ++ map (member_row 6 owner) (resolve t (name_cells (take n st')) (rest off v at)).refs ≡ members
  pub left : m + length (rest off v at) ≡ total
  pub apart : names_lead t (name_cells (take n st')) 0 (name_cells (take n st')) ≡ true

module _ (st ms : Table) (t : List ℕ) (count used off len owner : ℕ) (room₁ : Room st ms t count used off len) where
  abbrev v : List ℕ
  v = bytes_at t (record { off = off; len = len })

  abbrev rows : Table
  rows = enter_all t (take count st) (names_at t off len)

  abbrev members : Table
  members = take used ms ++ map (member_row 6 owner) (resolve t (name_cells (take count st)) (names_at t off len)).refs

  abbrev total : ℕ
  total = used + length (names_at t off len)

  -- what the code calls v
  pub value : take (off + len - off) (drop off t) ≡ v
  value = part_at t off len

  abbrev pub State : Table → Table → ℕ → ℕ → ℕ → Type 0
  State st' ms' n m at = Entering st ms t v off owner rows members total st' ms' n m at

  pub entering_start : State st ms count used 0
  entering_start =
      record {
        inside = omega arith;
        states = partly_start st count (omega (arith, room₁.fits, room₁.long));
        partly = partly_start ms used (omega (arith, room₁.members));
        names = ap (enter_all t (take count st)) (all_words t off len);
        refs = ap (λ (ps : List Piece). take used ms ++ map (member_row 6 owner) (resolve t (name_cells (take count st)) ps).refs) (all_words t off len);
        left = ap (λ (ps : List Piece). used + length ps) (all_words t off len);
        apart = room₁.apart;
      }

  module _ (st' ms' : Table) (n m at : ℕ) (E : State st' ms' n m at) where
    pub entering_end : words_from v at ≡ [] → Entered st ms t count used off len owner st' ms' n m
    unfolding enter_all resolve
    entering_end e =
        let z : rest off v at ≡ [] = ap (map (moved off)) e in
        let a : take n st' ≡ rows = sym (ap (enter_all t (take n st')) z) ∙ E.names in
        let b : take m ms' ≡ members =
        sym (append-nil (take m ms')) ∙ sym (ap (λ (ps : List Piece). take m ms' ++ map (member_row 6 owner) (resolve t (name_cells (take n st')) ps).refs) z) ∙ E.refs in
        record {
          states = partly_end st st' n E.states rows a;
          members = partly_end ms ms' m E.partly members b;
          counted = sym (partly_length st st' n E.states) ∙ ap length a;
          filled = omega (arith, E.left, ap length z);
        }

    module _ (x : Word) (ex : x ≡ next_word is_separator v at) (some : x.start ≡ x.end → ⊥) (l : at < length v) where
      abbrev word : List ℕ
      word = take (x.end - x.start) (drop x.start v)

      abbrev here : List ℕ
      here = bytes_at t (record { off = off + x.start; len = x.end - x.start })

      abbrev piece : Piece
      piece = record { off = off + x.start; word = word }

      abbrev k : ℕ
      k = find_name t (name_cells (take n st')) word

      lies : (x.start ≤ x.end) × (x.end ≤ length v) × (at < x.end)
      lies = word_lies v at x ex l

      pub name_fits_lem : (x.start ≤ x.end) × (off + x.start + (x.end - x.start) ≤ length t) × (at < x.end) × (x.end ≤ length v)
      name_fits_lem = (lies.0, omega (arith, lies.0, lies.1, room₁.inside, value_length t off len room₁.inside), lies.2, lies.1)

      next : rest off v at ≡ piece ∷ rest off v x.end
      unfolding moved
      next = ap (map (moved off)) (words_next v at x ex some l)

      bytes : here ≡ word
      bytes = word_bytes t off len x.start x.end lies.0 (omega (arith, lies.1, value_length t off len room₁.inside))

      found : find_name t (name_cells (take n st')) here ≡ k
      found = ap (find_name t (name_cells (take n st'))) bytes

      size : length word ≡ x.end - x.start
      size = length-take-le (x.end - x.start) (drop x.start v) (omega (arith, length-drop x.start v, lies.1))

      cell : record { at = off + x.start + 1; len = x.end - x.start } ≡ piece_cell piece
      unfolding piece_cell
      cell = let a : off + x.start + 1 ≡ suc (off + x.start) = omega arith in rw (a, size)

      spelled : bytes_at t (record { off = off + x.start; len = length word }) ≡ word
      spelled = ap (λ (j : ℕ). bytes_at t (record { off = off + x.start; len = j })) size ∙ bytes

      all : enter_all t (enter_row (take n st') k (piece_cell piece)) (rest off v x.end) ≡ rows
      unfolding enter_all
      all = sym (ap (enter_all t (take n st')) next) ∙ E.names

      few : count_after n k ≤ 256
      few =
          omega (
            arith,
            enter_size st st' n E.states k (piece_cell piece),
            all_grows t (enter_row (take n st') k (piece_cell piece)) (rest off v x.end),
            ap length all,
            room₁.states,
          )

      -- there is a row for the name, and one for the member
      pub name_room : (n ≤ length st') × (count_after n (find_name t (name_cells (take n st')) here) ≤ length st')
      name_room =
          (omega (arith, E.states.fits, E.states.size), omega (arith, ap (count_after n) found, few, room₁.long, E.states.size))

      pub member_room : m < length ms'
      member_room = omega (arith, E.left, ap length next, room₁.members, E.partly.size)

      pub name_small : (i : ℕ) → i ≡ find_name t (name_cells (take n st')) here → (n ≤ 256) × (i ≤ n)
      name_small i e =
          let s : length (take n st') ≡ n = partly_length st st' n E.states in (
            omega (arith, s, all_grows t (take n st') (rest off v at), ap length E.names, room₁.states),
            omega (arith, e, find_le t (name_cells (take n st')) here, cells_length (take n st'), s),
          )

      pub entering_more : (i : ℕ) (st'' ms'' : Table) (n' : ℕ) → i ≡ find_name t (name_cells (take n st')) here
          → st'' ≡ placed_row st' n i (record { at = off + x.start + 1; len = x.end - x.start }) → ms'' ≡ set ms' m (member_row 6 owner (i + 1)) → n' ≡ count_after n i
          → State st'' ms'' n' (m + 1) x.end
      entering_more i st'' ms'' n' ei es em en =
          let c : Cell = piece_cell piece in
          let ik : i ≡ k = ei ∙ found in
          let z : n' ≡ count_after n k = en ∙ ap (count_after n) ik in
          let P = enter_partly st st' n E.states k c (omega (arith, few, room₁.long)) st'' (es ∙ ap₂ (placed_row st' n) ik cell) in
          let took : take n' st'' ≡ enter_row (take n st') k c = ap (λ (j : ℕ). take j st'') z ∙ P.1 in
          let mr : m < length ms = omega (arith, member_room, E.partly.size) in
          let row : member_row 6 owner (i + 1) ≡ member_row 6 owner (suc k) = ap (member_row 6 owner) (add-one i ∙ ap suc ik) in
          let put : ms'' ≡ set ms' m (member_row 6 owner (suc k)) = em ∙ ap (set ms' m) row in
          record {
            inside = lies.1;
            states = subst (Partly st st'') (sym z) P.0;
            partly = subst (λ (y : Table). Partly ms y (m + 1)) (sym put) (subst (Partly ms (set ms' m (member_row 6 owner (suc k)))) (sym (add-one m)) (partly_put ms ms' m E.partly mr (member_row 6 owner (suc k))));
            names = ap (λ (rs : Table). enter_all t rs (rest off v x.end)) took ∙ all;
            refs =
                ap₂ ◌++◌ (ap₂ take (add-one m) put ∙ partly_took ms ms' m E.partly mr (member_row 6 owner (suc k)))
                (ap (λ (cs : List Cell). map (member_row 6 owner) (resolve t cs (rest off v x.end)).refs) (ap name_cells took ∙ cells_enter (take n st') k c))
                ∙ append_assoc (take m ms') (member_row 6 owner (suc k) ∷ []) (map (member_row 6 owner) (resolve t (enter (name_cells (take n st')) k c) (rest off v x.end)).refs)
                ∙ again;
            left = omega (arith, E.left, ap length next);
            apart = subst (λ (rs : Table). names_lead t (name_cells rs) 0 (name_cells rs) ≡ true) (sym took) (apart_entered t (take n st') piece spelled E.apart);
          }
        where
          again : take m ms' ++ (member_row 6 owner (suc k) ∷ map (member_row 6 owner) (resolve t (enter (name_cells (take n st')) k (piece_cell piece)) (rest off v x.end)).refs) ≡ members
          again = unfold resolve in sym (ap (λ (ps : List Piece). take m ms' ++ map (member_row 6 owner) (resolve t (name_cells (take n st')) ps).refs) next) ∙ E.refs

-- ---- the loop over the words, as the iterator gives them: where those that are left begin is not known

module _ (st ms : Table) (t : List ℕ) (count used off len owner : ℕ) (room₁ : Room st ms t count used off len) where
  abbrev v₁ : List ℕ
  v₁ = bytes_at t (record { off = off; len = len })

  pub record EnteringTo (st' ms' : Table) (n m : ℕ) (ps : List Piece) : Type 0 where
    pub at : ℕ
    pub left : ps ≡ words_left is_separator v₁ at
    pub entering : State st ms t count used off len owner room₁ st' ms' n m at

  pub entering_first : (w : List ℕ) → w ≡ v₁ → EnteringTo st ms count used (words_left is_separator w 0)
  entering_first w e = record { at = 0; left = ap (λ (y : List ℕ). words_left is_separator y 0) e; entering = entering_start st ms t count used off len owner room₁ }

  module _ (st' ms' : Table) (n m : ℕ) (ps : List Piece) (K : EnteringTo st' ms' n m ps) where
    pub entering_last : ps ≡ [] → Entered st ms t count used off len owner st' ms' n m
    unfolding words_left
    entering_last e = entering_end st ms t count used off len owner room₁ st' ms' n m K.at K.entering (sym K.left ∙ e)

    module _ (p : Piece) (qs : List Piece) (e : ps ≡ p ∷ qs) where
      abbrev S : Step is_separator v₁ K.at p qs
      S = step is_separator v₁ K.at p qs (sym K.left ∙ e)

      begins : p.off ≡ S.word.start
      begins = ap (λ (q : Piece). q.off) S.piece

      long : length p.word ≡ S.word.end - S.word.start
      long = omega (arith, S.ends, begins)

      abbrev given : List ℕ
      given = bytes_at t (record { off = off + p.off; len = length p.word })

      same_bytes : given ≡ bytes_at t (record { off = off + S.word.start; len = S.word.end - S.word.start })
      same_bytes = ap₂ (λ (a b : ℕ). bytes_at t (record { off = off + a; len = b })) begins long

      pub given_fits : off + p.off + length p.word ≤ length t
      given_fits = omega (arith, (name_fits_lem st ms t count used off len owner room₁ st' ms' n m K.at K.entering S.word S.is S.some S.there).1, begins, long)

      pub given_room : (n ≤ length st') × (count_after n (find_name t (name_cells (take n st')) given) ≤ length st')
      given_room =
          subst (λ (x : List ℕ). (n ≤ length st') × (count_after n (find_name t (name_cells (take n st')) x) ≤ length st')) (sym same_bytes)
          (name_room st ms t count used off len owner room₁ st' ms' n m K.at K.entering S.word S.is S.some S.there)

      pub given_member : m < length ms'
      given_member = member_room st ms t count used off len owner room₁ st' ms' n m K.at K.entering S.word S.is S.some S.there

      pub given_small : (i : ℕ) → i ≡ find_name t (name_cells (take n st')) given → (n ≤ 256) × (i ≤ n)
      given_small i ei =
          name_small st ms t count used off len owner room₁ st' ms' n m K.at K.entering S.word S.is S.some S.there i (ei ∙ ap (find_name t (name_cells (take n st'))) same_bytes)

      pub entering_goes : (i : ℕ) (st'' ms'' : Table) (n' : ℕ) → i ≡ find_name t (name_cells (take n st')) given
          → st'' ≡ placed_row st' n i (record { at = off + p.off + 1; len = length p.word }) → ms'' ≡ set ms' m (member_row 6 owner (i + 1)) → n' ≡ count_after n i
          → EnteringTo st'' ms'' n' (m + 1) qs
      entering_goes i st'' ms'' n' ei es em en =
          record {
            at = S.word.end;
            left = S.rest;
            entering =
                entering_more st ms t count used off len owner room₁ st' ms' n m K.at K.entering S.word S.is S.some S.there i st'' ms'' n'
                (ei ∙ ap (find_name t (name_cells (take n st'))) same_bytes)
                (es ∙ ap₂ (λ (a b : ℕ). placed_row st' n i (record { at = off + a + 1; len = b })) begins long) em en;
          }
