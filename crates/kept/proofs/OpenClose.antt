-- A change made, and an element opened or closed with it.
use Prim.Native.Nat.{ℕ, ◌+◌, ◌-◌, ◌≤◌}
use mathlib.Core.Path.{◌≡◌, refl, sym, ap, ◌∙◌, subst}
use mathlib.Core.Bool.{true, ◌&&◌}
use mathlib.Core.List.{List, [], ◌∷◌, ◌++◌, reverse}
use lib.ListN.{length, get_or, set, length-append}
use lib.Dec.{leb}
use lib.Seq.{get_or-set_other}
use native.Mathlib.Omega.{arith}
use Rattle.definition.specs.declared.Limits.{Limits}
use Rattle.definition.specs.Rows.{Table, num, columns_of, Numbers, table_of, last_of}
use Rattle.definition.specs.Look.{Look, name_cells}
use Rattle.definition.specs.Change.{Change, made, pushed, popped, with_tables, on_table, opened_row, without_last}
use Rattle.definition.specs.Rules.{blocks_in, chosen}
use Rattle.kept.proofs.Base.{All-append}
use Rattle.kept.proofs.Classes.{Fits, Nums, Texts, Laid}
use Rattle.kept.proofs.Tables.{RowOk}
use Rattle.kept.proofs.Sound.{at, Sound}
use Rattle.kept.proofs.Steps.{now, Good}
use Rattle.kept.proofs.Regions.{Tags, blocks_append, blocks_reverse}
use Rattle.kept.proofs.Dispatch.{room}
use Rattle.kept.proofs.Entries.{free_alone, alone_nums, textless, plain_texts}
use Rattle.kept.proofs.Low.{has_same}
use Rattle.kept.proofs.Reopened.{reopened, low_same, at_nine, at_ten, at_eleven, sound_reopened}
use Rattle.kept.proofs.Okay.{Ok, OkOf, NamedSo, All-reverse, names_append, names_drop, All-drop, length_drop_last, blocks_last}

-- What the open elements keep of the event.
pub record Named (L : Limits) (l : Look) : Type 0 where
  pub tag : (leb 0 l.tag && leb l.tag 27) ≡ true
  pub width : length l.name ≡ 64
  pub so : (c : Change) → NamedSo L (opened_row l c) l.name

module _ (L : Limits) (t : List ℕ) (n : Numbers) (K : OkOf L t n) (l : Look) (c : Change) (G : Good (length t) l n c) (tg : Tags c.regions) where
  abbrev u : ℕ
  u = length t

  abbrev T : List Table
  T = now l n c

  abbrev pushed_to : List Table
  pushed_to = reopened T (get_or T 9 [] ++ opened_row l c ∷ []) (get_or T 10 [] ++ l.name ∷ []) (reverse c.regions)

  pushed_tables : (pushed l c (made l c n)).tables ≡ pushed_to
  unfolding pushed made with_tables on_table
  pushed_tables =
      let Y : List Table = set T 11 (reverse c.regions) in
      let e₁₀ : get_or Y 10 [] ≡ get_or T 10 [] = get_or-set_other T 11 10 (reverse c.regions) [] (omega arith) in
      let X : List Table = set Y 10 (get_or Y 10 [] ++ l.name ∷ []) in
      let e₉ : get_or X 9 [] ≡ get_or T 9 [] = get_or-set_other Y 10 9 (get_or Y 10 [] ++ l.name ∷ []) [] (omega arith) ∙ get_or-set_other T 11 9 (reverse c.regions) [] (omega arith) in
      ap (λ (rs : Table). set X 9 (rs ++ opened_row l c ∷ [])) e₉ ∙ ap (λ (rs : Table). set (set Y 10 (rs ++ l.name ∷ [])) 9 (get_or T 9 [] ++ opened_row l c ∷ [])) e₁₀

  row_nine : Named L l → RowOk (at u T c.ids c.docs) 9 (opened_row l c)
  unfolding opened_row Nums Fits Texts Laid columns_of chosen
  row_nine N =
      record { nums = (N.tag, (G.state, (G.transition, (tt, (refl, (refl, (refl, (refl, tt)))))))); texts = (tt, (tt, (tt, (tt, (tt, (tt, (tt, (tt, tt)))))))) }

  row_ten : Named L l → RowOk (at u T c.ids c.docs) 10 l.name
  row_ten N = record { nums = ten_nums; texts = ten_texts }
    where
      ten_nums : Nums (at u T c.ids c.docs) l.name (columns_of 10) l.name
      ten_nums = unfold columns_of in alone_nums (at u T c.ids c.docs) l.name (columns_of 10) l.name (free_alone 64 l.name N.width)

      ten_texts : Texts u (columns_of 10) l.name
      ten_texts = unfold columns_of in plain_texts u (columns_of 10) l.name (unfold columns_of textless in refl) N.width

  pub push_ok : Named L l → blocks_in 1 c.regions ≤ blocks_in 0 (table_of n 9) + room l.tag → OkOf L t (pushed l c (made l c n))
  push_ok N b = unfold pushed made with_tables in subst (λ (X : List Table). Ok L t X c.ids c.docs c.current) (sym pushed_tables) pushed_ok
    where
      S : Sound u n.tables T c.ids c.docs
      S = G.sound

      nine : Table
      nine = get_or T 9 [] ++ opened_row l c ∷ []

      ten : Table
      ten = get_or T 10 [] ++ l.name ∷ []

      e₉ : get_or pushed_to 9 [] ≡ nine
      e₉ = at_nine u n.tables T c.ids c.docs S nine ten (reverse c.regions)

      e₁₀ : get_or pushed_to 10 [] ≡ ten
      e₁₀ = at_ten u n.tables T c.ids c.docs S nine ten (reverse c.regions)

      e₁₁ : get_or pushed_to 11 [] ≡ reverse c.regions
      e₁₁ = at_eleven u n.tables T c.ids c.docs S nine ten (reverse c.regions)

      e₁ : name_cells (get_or pushed_to 1 []) ≡ name_cells (table_of n 1)
      e₁ = ap name_cells (low_same u n.tables T c.ids c.docs S nine ten (reverse c.regions) 1 refl) ∙ S.names

      tagged : blocks_in 0 (opened_row l c ∷ []) ≡ room l.tag
      tagged = unfold opened_row blocks_in in refl

      pushed_ok : Ok L t pushed_to c.ids c.docs c.current
      pushed_ok =
          record {
            sound =
                sound_reopened u n.tables T c.ids c.docs S nine ten (reverse c.regions) (All-append (RowOk (at u T c.ids c.docs) 9) (get_or T 9 []) (opened_row l c ∷ []) (S.rows 9) (row_nine N, tt))
                (All-append (RowOk (at u T c.ids c.docs) 10) (get_or T 10 []) (l.name ∷ []) (S.rows 10) (row_ten N, tt)) (All-reverse (RowOk (at u T c.ids c.docs) 11) c.regions G.regions);
            names = rw e₁ K.names;
            opens = rw (e₉, e₁₀, S.opened, S.open_names) (names_append L (table_of n 9) (table_of n 10) (opened_row l c) l.name K.opens K.even (N.so c));
            even = rw (e₉, e₁₀, S.opened, S.open_names) (omega (arith, length-append (table_of n 9) (opened_row l c ∷ []), length-append (table_of n 10) (l.name ∷ []), K.even));
            tags = rw e₁₁ tg;
            blocks =
                rw (e₁₁, e₉, S.opened) (omega (arith, blocks_reverse 1 c.regions, blocks_append 0 (table_of n 9) (opened_row l c ∷ []), tagged, b));
            current = λ z. has_same T pushed_to 3 c.current (low_same u n.tables T c.ids c.docs S nine ten (reverse c.regions) 3 refl) (G.current z);
          }

  pub push_opened : get_or (pushed l c (made l c n)).tables 9 [] ≡ table_of n 9 ++ opened_row l c ∷ []
  push_opened =
      ap (λ (X : List Table). get_or X 9 []) pushed_tables
      ∙ at_nine u n.tables T c.ids c.docs G.sound (get_or T 9 [] ++ opened_row l c ∷ []) (get_or T 10 [] ++ l.name ∷ []) (reverse c.regions)
      ∙ ap (λ (rs : Table). rs ++ opened_row l c ∷ []) G.sound.opened

  -- The chart's own row stays.
  pub push_chart : length (table_of n 0) ≤ length (get_or (pushed l c (made l c n)).tables 0 [])
  push_chart =
      let e : get_or (pushed l c (made l c n)).tables 0 [] ≡ get_or T 0 [] =
      ap (λ (X : List Table). get_or X 0 []) pushed_tables
      ∙ low_same u n.tables T c.ids c.docs G.sound (get_or T 9 [] ++ opened_row l c ∷ []) (get_or T 10 [] ++ l.name ∷ []) (reverse c.regions) 0 refl in
      omega (arith, ap length e, (G.sound.grown 0).longer)

  -- ---- closed

  abbrev popped_to : List Table
  popped_to = reopened T (without_last (get_or T 9 [])) (without_last (get_or T 10 [])) (reverse c.regions)

  popped_tables : (popped (made l c n)).tables ≡ popped_to
  unfolding popped made with_tables on_table
  popped_tables =
      let Y : List Table = set T 11 (reverse c.regions) in
      let e₁₀ : get_or Y 10 [] ≡ get_or T 10 [] = get_or-set_other T 11 10 (reverse c.regions) [] (omega arith) in
      let X : List Table = set Y 10 (without_last (get_or Y 10 [])) in
      let e₉ : get_or X 9 [] ≡ get_or T 9 [] = get_or-set_other Y 10 9 (without_last (get_or Y 10 [])) [] (omega arith) ∙ get_or-set_other T 11 9 (reverse c.regions) [] (omega arith) in
      ap (λ (rs : Table). set X 9 (without_last rs)) e₉ ∙ ap (λ (rs : Table). set (set Y 10 (without_last rs)) 9 (without_last (get_or T 9 []))) e₁₀

  pub pop_ok : num (last_of [] (table_of n 9)) 0 ≡ l.tag → blocks_in 1 c.regions ≤ blocks_in 0 (table_of n 9) - room l.tag → OkOf L t (popped (made l c n))
  pop_ok g b = unfold popped made with_tables in subst (λ (X : List Table). Ok L t X c.ids c.docs c.current) (sym popped_tables) popped_ok
    where
      S : Sound u n.tables T c.ids c.docs
      S = G.sound

      nine : Table
      nine = without_last (get_or T 9 [])

      ten : Table
      ten = without_last (get_or T 10 [])

      e₉ : get_or popped_to 9 [] ≡ nine
      e₉ = at_nine u n.tables T c.ids c.docs S nine ten (reverse c.regions)

      e₁₀ : get_or popped_to 10 [] ≡ ten
      e₁₀ = at_ten u n.tables T c.ids c.docs S nine ten (reverse c.regions)

      e₁₁ : get_or popped_to 11 [] ≡ reverse c.regions
      e₁₁ = at_eleven u n.tables T c.ids c.docs S nine ten (reverse c.regions)

      e₁ : name_cells (get_or popped_to 1 []) ≡ name_cells (table_of n 1)
      e₁ = ap name_cells (low_same u n.tables T c.ids c.docs S nine ten (reverse c.regions) 1 refl) ∙ S.names

      still : room (num (last_of [] (table_of n 9)) 0) ≡ room l.tag
      still = ap room g

      popped_ok : Ok L t popped_to c.ids c.docs c.current
      popped_ok =
          record {
            sound =
                sound_reopened u n.tables T c.ids c.docs S nine ten (reverse c.regions) (All-drop (RowOk (at u T c.ids c.docs) 9) (get_or T 9 []) (S.rows 9))
                (All-drop (RowOk (at u T c.ids c.docs) 10) (get_or T 10 []) (S.rows 10)) (All-reverse (RowOk (at u T c.ids c.docs) 11) c.regions G.regions);
            names = rw e₁ K.names;
            opens = rw (e₉, e₁₀, S.opened, S.open_names) (names_drop L (table_of n 9) (table_of n 10) K.opens K.even);
            even = rw (e₉, e₁₀, S.opened, S.open_names) (length_drop_last (table_of n 9) (table_of n 10) K.even);
            tags = rw e₁₁ tg;
            blocks = rw (e₁₁, e₉, S.opened) (omega (arith, blocks_reverse 1 c.regions, blocks_last (table_of n 9), still, b));
            current = λ z. has_same T popped_to 3 c.current (low_same u n.tables T c.ids c.docs S nine ten (reverse c.regions) 3 refl) (G.current z);
          }

  pub pop_opened : get_or (popped (made l c n)).tables 9 [] ≡ without_last (table_of n 9)
  pop_opened =
      ap (λ (X : List Table). get_or X 9 []) popped_tables
      ∙ at_nine u n.tables T c.ids c.docs G.sound (without_last (get_or T 9 [])) (without_last (get_or T 10 [])) (reverse c.regions)
      ∙ ap without_last G.sound.opened

  pub pop_chart : length (table_of n 0) ≤ length (get_or (popped (made l c n)).tables 0 [])
  pop_chart =
      let e : get_or (popped (made l c n)).tables 0 [] ≡ get_or T 0 [] =
      ap (λ (X : List Table). get_or X 0 []) popped_tables
      ∙ low_same u n.tables T c.ids c.docs G.sound (without_last (get_or T 9 [])) (without_last (get_or T 10 [])) (reverse c.regions) 0 refl in
      omega (arith, ap length e, (G.sound.grown 0).longer)
