-- else and elseif.
use Prim.Native.Nat.{ℕ, zero, suc, ◌-◌, ◌≤◌, ◌<◌}
use mathlib.Core.Path.{◌≡◌, refl, sym, ap, ◌∙◌, subst}
use mathlib.Core.Bool.{Bool, true, false}
use mathlib.Core.List.{List, [], ◌∷◌, ◌++◌}
use lib.ListN.{length, get_or, set}
use lib.Dec.{eqb}
use native.Mathlib.Omega.{arith}
use Rattle.definition.specs.Rows.{Row, Table, free, num, columns_of, row_of, Numbers, table_of, state, transition, entry, choices}
use Rattle.definition.specs.Shapes.{Filling, shape_at}
use Rattle.definition.specs.Look.{Look}
use Rattle.definition.specs.Change.{Put, ◌≔◌, numbers, shape, add, Change, nothing, edited_by, filled_by, also, adding, altering, shape_of, region_over, nested_region, open_region_row, next_id, on_table}
use Rattle.definition.specs.Actions.{new_entry, last_entry, Walk, meets, nowhere, no_if, else_walk, walk_from, walked, branch, start_else, start_else_if, else_if_branch}
use Rattle.definition.specs.Rules.{is_block, blocks_in, chosen}
use lib.Seq.{get_or-set_other, get_or-set_same}
use Rattle.kept.proofs.Base.{eq_of, All}
use Rattle.kept.proofs.Classes.{View, Fits, Nums, HasRow, OrZero}
use Rattle.kept.proofs.Grow.{ExtAll, all_trans, row_grow}
use Rattle.kept.proofs.RowChange.{PutsFit}
use Rattle.kept.proofs.RowTexts.{LookIn}
use Rattle.kept.proofs.Tables.{RowOk, new_row, num_set}
use Rattle.kept.proofs.Sound.{at}
use Rattle.kept.proofs.Altered.{alters}
use Rattle.kept.proofs.Steps.{now, Good, edited_snoc, add_now, ext_add}
use Rattle.kept.proofs.Draws.{good_nested}
use Rattle.kept.proofs.Regions.{Tags, tags_block, tags_elseif, blocks_block, blocks_not}
use Rattle.kept.proofs.Members.{Out, out, no_out}
use Rattle.kept.proofs.Next.{Next, next_alter, out_closing}
use Rattle.kept.proofs.StatesOut.{Ready}
use Rattle.kept.proofs.BlocksOut.{region_drawn, block_puts, entry_first, ext_nested, good_elseif, good_entry_first}

-- ---- the walk ends at an if

walk_if : (fuel : ℕ) (n : Numbers) (r e : ℕ) → else_walk fuel n r ≡ meets e → num (row_of (table_of n 4) e) 1 ≡ 1
unfolding else_walk
walk_if zero n r e h = let z : ◌≡◌ {A = ℕ} 0 1 = cc in absurd (omega arith)
walk_if (suc fuel) n r e h =
    go (eqb (num (row_of (table_of n 4) (last_entry n r)) 1) 1) (eqb (num (row_of (table_of n 4) (last_entry n r)) 4) 0) refl refl (walk_if fuel n (num (row_of (table_of n 4) (last_entry n r)) 4) e)
  where
    go : (p q : Bool) → eqb (num (row_of (table_of n 4) (last_entry n r)) 1) 1 ≡ p → eqb (num (row_of (table_of n 4) (last_entry n r)) 4) 0 ≡ q
        → (else_walk fuel n (num (row_of (table_of n 4) (last_entry n r)) 4) ≡ meets e → num (row_of (table_of n 4) e) 1 ≡ 1) → num (row_of (table_of n 4) e) 1 ≡ 1
    go false q f g ih = let y : no_if ≡ meets e = rw (f, else_walk) at h in let z : ◌≡◌ {A = ℕ} 0 1 = cc in absurd (omega arith)
    go true true f g ih =
        let y : meets (last_entry n r) ≡ meets e = rw (f, else_walk, g, else_walk) at h in
        let z : last_entry n r ≡ e = cc in
        subst (λ (i : ℕ). num (row_of (table_of n 4) i) 1 ≡ 1) z (eq_of (num (row_of (table_of n 4) (last_entry n r)) 1) 1 f)
    go true false f g ih = ih (rw (f, else_walk, g, else_walk) at h)

from_if : (n : Numbers) (r e : ℕ) → walk_from n r ≡ meets e → num (row_of (table_of n 4) e) 1 ≡ 1
unfolding walk_from
from_if n zero e h = let z : ◌≡◌ {A = ℕ} 0 1 = cc in absurd (omega arith)
from_if n (suc r) e h = walk_if (length (table_of n 3)) n (suc r) e h

-- ---- a row that is there

at-get_or : (P : Row → Type 0) (rs : Table) (i : ℕ) → All P rs → num (get_or rs i []) 1 ≡ 1 → P (get_or rs i [])
at-get_or P [] i a e = absurd (omega arith)
at-get_or P (r ∷ rs) zero a e = a.0
at-get_or P (r ∷ rs) (suc i) a e = at-get_or P rs i a.1 e

pub at_row : (P : Row → Type 0) (rs : Table) (i : ℕ) → All P rs → num (row_of rs i) 1 ≡ 1 → P (row_of rs i)
unfolding row_of
at_row P rs zero a e = absurd (omega arith)
at_row P rs (suc i) a e = at-get_or P rs i a e

still-get_or : (rs us : Table) (i : ℕ) → num (get_or rs i []) 1 ≡ 1 → get_or (rs ++ us) i [] ≡ get_or rs i []
still-get_or [] us i e = absurd (omega arith)
still-get_or (r ∷ rs) us zero e = refl
still-get_or (r ∷ rs) us (suc i) e = still-get_or rs us i e

still_row : (rs us : Table) (i : ℕ) → num (row_of rs i) 1 ≡ 1 → row_of (rs ++ us) i ≡ row_of rs i
unfolding row_of
still_row rs us zero e = refl
still_row rs us (suc i) e = still-get_or rs us i e

pub entry_region : (u : ℕ) (T : List Table) (i d : ℕ) (r : Row) → RowOk (at u T i d) 4 r → OrZero T 3 (num r 0)
unfolding Nums Fits columns_of chosen
entry_region u T i d [] h = absurd h.nums
entry_region u T i d (v ∷ vs) h = h.nums.0

module _ (u : ℕ) (l : Look) (n : Numbers) (look_in : LookIn u l) (b : ℕ) (R : Ready u l n b) where
  row_below : (e : ℕ) → num (row_of (table_of n 4) e) 1 ≡ 1 → num (row_of (table_of n 4) e) 0 < suc n.ids
  unfolding nothing edited_by
  row_below e k =
      region_drawn u n.tables n.tables n.ids n.docs R.good.sound (num (row_of (table_of n 4) e) 0)
      (entry_region u n.tables n.ids n.docs (row_of (table_of n 4) e) (at_row (RowOk (at u n.tables n.ids n.docs) 4) (table_of n 4) e (R.good.sound.rows 4) k))

  above_fits : (W : View) (r : Row) (v : ℕ) → num r 1 ≡ 1 → num r 0 < v → HasRow W.tables 3 v → Fits W (set r 4 v) (chosen (set r 4 v) (Rattle.definition.specs.Rows.by 1 1)) v
  unfolding Fits chosen choices
  above_fits W r v e k h =
      let z : num (set r 4 v) 1 ≡ 1 = num_set r 4 1 v refl ∙ e in
      let y : num (set r 4 v) 0 ≡ num r 0 = num_set r 4 0 v refl in
      subst (λ (i : ℕ). Fits W (set r 4 v) (get_or (get_or choices 1 []) i free) v) (sym z) (λ o. (h, omega (arith, y, k)))

  else_put : (d : Change) → Good u l n d → (e : ℕ) → num (row_of (table_of n 4) e) 1 ≡ 1 → row_of (get_or (now l n d) 4 []) e ≡ row_of (table_of n 4) e → HasRow (now l n d) 3 (suc n.ids)
      → Next u l n d (altering (numbers 4) e (entry.else ≔ suc n.ids ∷ []) d)
  unfolding alters PutsFit columns_of shape_of filled_by
  else_put d G e k s h =
      next_alter u l n look_in (numbers 4) e (entry.else ≔ suc n.ids ∷ []) d 4 [] G refl refl (λ U g m r z o.
      let y : r ≡ row_of (table_of n 4) e = sym z ∙ s in
      (above_fits (at u U d.ids d.docs) r (suc n.ids) (ap (λ (x : Row). num x 1) y ∙ k) (omega (arith, ap (λ (x : Row). num x 0) y, row_below e k)) (g 3 (suc n.ids) h), tt))

  out_walked : (d : Change) → Good u l n d → Tags d.regions → blocks_in 1 d.regions ≤ b → HasRow (now l n d) 3 (suc n.ids)
      → ((e : ℕ) → num (row_of (table_of n 4) e) 1 ≡ 1 → row_of (get_or (now l n d) 4 []) e ≡ row_of (table_of n 4) e)
      → (w : Walk) → ((e : ℕ) → w ≡ meets e → num (row_of (table_of n 4) e) 1 ≡ 1) → Out u l n b (walked w (suc n.ids) d)
  unfolding walked
  out_walked d G t k h s (meets e) f =
      let M = else_put d G e (f e refl) (s e (f e refl)) h in
      out M.good (subst Tags (sym M.regions) t) (subst (λ (rs : List Row). blocks_in 1 rs ≤ b) (sym M.regions) k)
  out_walked d G t k h s nowhere f = out G t k
  out_walked d G t k h s no_if f = no_out

  abbrev gone : Rattle.definition.specs.Change.Closed → Change
  gone x =
      record { edits = (nothing n).edits; regions = x.regions; current = x.current; ids = (nothing n).ids; docs = (nothing n).docs; state = (nothing n).state; transition = (nothing n).transition }

  -- ---- else

  else_entries : (x : Rattle.definition.specs.Change.Closed) (g : ℕ) → get_or (now l n (nested_region g (gone x))) 4 [] ≡ table_of n 4
  unfolding nested_region region_over also nothing edited_by on_table shape_of
  else_entries x g =
      let ps : List Put = (Rattle.definition.specs.Rows.region).number ≔ suc n.ids ∷ [] in
      ap (λ (X : List Table). get_or X 4 []) (edited_snoc l [] (add (numbers 3) 0 ps) n.tables ∙ add_now u l n look_in (numbers 3) 0 ps 3 [] refl n.tables)
      ∙ get_or-set_other n.tables 3 4 (get_or n.tables 3 [] ++ new_row 3 [] ps l 0 ∷ []) [] (omega arith)

  pub out_else : 1 ≤ b → Out u l n b (start_else n l)
  unfolding start_else branch next_id
  out_else one =
      out_closing u l n look_in b 24 (nothing n) (λ c. branch n c (nested_region 24 c)) R.good R.tags (λ x z G t k f.
      let c : Change = gone x in
      let F = good_nested u l n look_in 24 c G in
      else_out x G t (f block_if) F)
    where
      block_if : is_block 24 ≡ true
      block_if = unfold is_block in refl

      else_out : (x : Rattle.definition.specs.Change.Closed) → Good u l n (gone x) → Tags x.regions → blocks_in 1 x.regions ≤ blocks_in 1 (nothing n).regions - 1
          → Good u l n (nested_region 24 (gone x)) × HasRow (now l n (nested_region 24 (gone x))) 3 (suc (gone x).ids) → Out u l n b (walked (walk_from n x.current) (suc (nothing n).ids) (nested_region 24 (gone x)))
      else_out x G t k F = unfold nothing nested_region region_over open_region_row in
          out_walked (nested_region 24 (gone x)) F.0 (tags_block (open_region_row x.current 24) x.regions block_if t)
          (omega (arith, blocks_block 1 (open_region_row x.current 24) x.regions block_if, k, R.blocks, one)) F.1
          (λ e q. ap (λ (rs : Table). row_of rs e) (else_entries x 24)) (walk_from n x.current) (from_if n x.current)

  -- ---- elseif

  region_entries : (rs : List Row) (c : Change) → get_or (now l n (region_over rs c)) 4 [] ≡ get_or (now l n c) 4 []
  unfolding region_over also on_table shape_of
  region_entries rs c =
      let T : List Table = now l n c in
      let ps : List Put = (Rattle.definition.specs.Rows.region).number ≔ suc c.ids ∷ [] in
      ap (λ (X : List Table). get_or X 4 []) (edited_snoc l c.edits (add (numbers 3) 0 ps) n.tables ∙ add_now u l n look_in (numbers 3) 0 ps 3 [] refl T)
      ∙ get_or-set_other T 3 4 (get_or T 3 [] ++ new_row 3 [] ps l 0 ∷ []) [] (omega arith)

  nested_entries : (g : ℕ) (c : Change) → get_or (now l n (nested_region g c)) 4 [] ≡ get_or (now l n c) 4 []
  unfolding nested_region
  nested_entries g c = region_entries (open_region_row c.current g ∷ c.regions) c

  added_entries : (c : Change) (fs : List Filling) (ps : List Put) → length (now l n c) ≡ 12 → shape_of l.tag (shape 0) ≡ record { into = 4; texts = fs }
      → get_or (now l n (also (add (shape 0) 0 ps) c)) 4 [] ≡ get_or (now l n c) 4 [] ++ new_row 4 fs ps l 0 ∷ []
  unfolding also on_table
  added_entries c fs ps w s =
      let T : List Table = now l n c in
      ap (λ (X : List Table). get_or X 4 []) (edited_snoc l c.edits (add (shape 0) 0 ps) n.tables ∙ add_now u l n look_in (shape 0) 0 ps 4 fs s T)
      ∙ get_or-set_same T 4 (get_or T 4 [] ++ new_row 4 fs ps l 0 ∷ []) [] (omega (arith, w))

  module _ (is-elseif : l.tag ≡ 13) (one : 1 ≤ b) where
    shape_zero : shape_of l.tag (shape 0) ≡ record { into = 4; texts = (shape_at 13 0).texts }
    unfolding shape_of shape_at
    shape_zero = ap (λ (g : ℕ). shape_at g 0) is-elseif

    -- d: in the else region.
    ext_first : (d : Change) → ExtAll (now l n d) (now l n (entry_first u l n look_in 13 1 d))
    unfolding new_entry adding
    ext_first d =
        let m : Change = new_entry 0 1 (entry.content ≔ suc d.ids ∷ []) d in
        all_trans (now l n d) (now l n m) (now l n (nested_region 13 m)) (ext_add u l n look_in (shape 0) 0 (block_puts u l n look_in 1 d) d) (ext_nested u l n look_in 13 m)

    first_entries : (d : Change) → Good u l n d → get_or (now l n (entry_first u l n look_in 13 1 d)) 4 [] ≡ get_or (now l n d) 4 [] ++ new_row 4 (shape_at 13 0).texts (block_puts u l n look_in 1 d) l 0 ∷ []
    unfolding new_entry adding
    first_entries d G =
        nested_entries 13 (new_entry 0 1 (entry.content ≔ suc d.ids ∷ []) d) ∙ added_entries d (shape_at 13 0).texts (block_puts u l n look_in 1 d) G.sound.twelve shape_zero

    elseif_out : (x : Rattle.definition.specs.Change.Closed) → Good u l n (gone x) → Tags x.regions → blocks_in 1 x.regions ≤ blocks_in 1 (nothing n).regions - 1
        → Out u l n b (walked (walk_from n x.current) (suc n.ids) (entry_first u l n look_in 13 1 (nested_region 24 (gone x))))
    unfolding is_block
    elseif_out x G t k =
        let d : Change = nested_region 24 (gone x) in
        let F = good_nested u l n look_in 24 (gone x) G in
        let D : Change = entry_first u l n look_in 13 1 d in
        let GD : Good u l n D = good_entry_first u l n look_in 13 1 13 d is-elseif shape_zero (good_elseif u l n look_in 13 d F.0 is-elseif) in
        out_walked D GD (regions_tags x t) (regions_blocks x k)
        (row_grow (now l n d) (now l n D) (ext_first d) 3 (suc n.ids) (new_region x F)) (λ e q.
        ap (λ (rs : Table). row_of rs e) (first_entries d F.0 ∙ ap (λ (rs : Table). rs ++ new_row 4 (shape_at 13 0).texts (block_puts u l n look_in 1 d) l 0 ∷ []) (else_entries x 24))
        ∙ still_row (table_of n 4) (new_row 4 (shape_at 13 0).texts (block_puts u l n look_in 1 d) l 0 ∷ []) e q)
        (walk_from n x.current) (from_if n x.current)
      where
        new_region : (x : Rattle.definition.specs.Change.Closed) → Good u l n (nested_region 24 (gone x)) × HasRow (now l n (nested_region 24 (gone x))) 3 (suc (gone x).ids) → HasRow (now l n (nested_region 24 (gone x))) 3 (suc n.ids)
        new_region x F = unfold nothing in F.1

        regions_tags : (x : Rattle.definition.specs.Change.Closed) → Tags x.regions → Tags (entry_first u l n look_in 13 1 (nested_region 24 (gone x))).regions
        regions_tags x t = unfold new_entry adding also nested_region region_over open_region_row in
            tags_elseif (open_region_row (nested_region 24 (gone x)).current 13) (open_region_row x.current 24) x.regions refl refl (tags_block (open_region_row x.current 24) x.regions refl t)

        regions_blocks : (x : Rattle.definition.specs.Change.Closed) → blocks_in 1 x.regions ≤ blocks_in 1 (nothing n).regions - 1 → blocks_in 1 (entry_first u l n look_in 13 1 (nested_region 24 (gone x))).regions ≤ b
        regions_blocks x k = unfold new_entry adding also nested_region region_over open_region_row in
            omega (arith, blocks_not 1 (open_region_row (nested_region 24 (gone x)).current 13) (open_region_row x.current 24 ∷ x.regions) refl, blocks_block 1 (open_region_row x.current 24) x.regions refl, k, R.blocks, one)

    pub out_elseif : Out u l n b (start_else_if n l)
    unfolding start_else_if branch next_id else_if_branch
    out_elseif = out_closing u l n look_in b 24 (nothing n) (λ c. branch n c (else_if_branch c)) R.good R.tags (λ x z G t k f. there x (elseif_out x G t (f block_if)))
      where
        block_if : is_block 24 ≡ true
        block_if = unfold is_block in refl

        there : (x : Rattle.definition.specs.Change.Closed) → Out u l n b (walked (walk_from n x.current) (suc n.ids) (entry_first u l n look_in 13 1 (nested_region 24 (gone x))))
            → Out u l n b (walked (walk_from n x.current) (suc (nothing n).ids) (else_if_branch (gone x)))
        there x o = unfold nothing else_if_branch in o
