-- if, foreach, else, elseif.
use Prim.Native.Nat.{ℕ, suc, ◌<◌}
use mathlib.Core.Path.{◌≡◌, refl, ap}
use mathlib.Core.Bool.{Bool, true, false, not}
use mathlib.Core.List.{List, [], ◌∷◌}
use lib.ListN.{get_or}
use lib.Dec.{leb}
use native.Mathlib.Omega.{arith}
use Rattle.definition.specs.Rows.{Row, Table, num, columns_of, Numbers, entry, choices, blank, with_cell}
use Rattle.definition.specs.Shapes.{shape_at}
use Rattle.definition.specs.Look.{Look}
use Rattle.definition.specs.Change.{Put, ◌≔◌, numbers, shape, add, Change, nothing, put_all, put_one, is_number, filled_by, also, adding, shape_of, region_over, nested_region, open_region_row, next_id}
use Rattle.definition.specs.Actions.{new_entry, block}
use Rattle.definition.specs.Rules.{is_block, has_own_number}
use Rattle.kept.proofs.Base.{All}
use Rattle.kept.proofs.Classes.{Fits, OrZero}
use Rattle.kept.proofs.Grow.{ExtAll, all_trans, row_grow, zero_grow, own_from, Absent}
use Rattle.kept.proofs.RowChange.{paired}
use Rattle.kept.proofs.RowTexts.{LookIn, fills}
use Rattle.kept.proofs.Sound.{at, Sound, regions_below}
use Rattle.kept.proofs.Steps.{now, Good, ext_region}
use Rattle.kept.proofs.Draws.{good_nested}
use Rattle.kept.proofs.Regions.{tags_block, blocks_block}
use Rattle.kept.proofs.Members.{Out, out, out_unless}
use Rattle.kept.proofs.Next.{next_add}
use Rattle.kept.proofs.StatesOut.{Ready}
use Rattle.kept.proofs.Entries.{entry_nums, all_fit_alone, add_swapped, good_as}

-- ---- a region's number is drawn

absent_above : (v : ℕ) (rs : Table) (i : ℕ) → All (λ (r : Row). num r 0 < suc i) rs → i < v → Absent rs v
absent_above v [] i a h = tt
absent_above v (r ∷ rs) i a h = (λ e. omega (arith, a.0, h), absent_above v rs i a.1 h)

pub region_drawn : (u : ℕ) (T₀ T : List Table) (i d : ℕ) → Sound u T₀ T i d → (v : ℕ) → OrZero T 3 v → v < suc i
unfolding has_own_number
region_drawn u T₀ T i d S v h = go (leb v i) refl
  where
    go : (b : Bool) → leb v i ≡ b → v < suc i
    go true e = omega (arith, Rattle.kept.proofs.Base.le_of v i e)
    go false e =
        let k : i < v = lib.Dec.nleb→lt v i (Rattle.kept.proofs.Base.T_of (not (leb v i)) (ap not e)) in
        absurd ((own_from T 3 v refl (h (omega (arith, k)))).1 (absent_above v (get_or T 3 []) i (regions_below u T₀ T i d S) k))

module _ (u : ℕ) (l : Look) (n : Numbers) (look_in : LookIn u l) where
  -- ---- an if or a foreach: its entry names a region above the entry's

  abbrev pub block_puts : ℕ → Change → List Put
  block_puts k c = entry.region ≔ c.current ∷ entry.kind ≔ k ∷ entry.content ≔ suc c.ids ∷ []

  -- The region first, and then the entry.
  abbrev pub region_first : ℕ → ℕ → Change → Change
  region_first g k c = also (add (shape 0) 0 (block_puts k c)) (nested_region g c)

  abbrev pub entry_first : ℕ → ℕ → Change → Change
  entry_first g k c = nested_region g (new_entry 0 k (entry.content ≔ suc c.ids ∷ []) c)

  pub ext_nested : (g : ℕ) (c : Change) → ExtAll (now l n c) (now l n (nested_region g c))
  unfolding nested_region
  ext_nested g c = ext_region u l n look_in (open_region_row c.current g ∷ c.regions) c

  good_if : (g : ℕ) (c : Change) → Good u l n c → l.tag ≡ 24 → Good u l n (region_first g 1 c)
  unfolding nested_region region_over shape_of shape_at columns_of blank put_all put_one is_number filled_by with_cell fills paired Fits choices all_fit_alone
  good_if g c G e =
      let F = good_nested u l n look_in g c G in
      let d : Change = nested_region g c in
      (next_add u l n look_in (shape 0) 0 (block_puts 1 c) d 4 (shape_at 24 0).texts F.0 (ap (λ (g : ℕ). shape_at g 0) e) refl refl (λ U x.
      entry_nums (at u U d.ids d.docs) c.current 1 0 (suc c.ids) 0 0 _ refl
      (zero_grow (now l n c) U (all_trans (now l n c) (now l n d) U (ext_nested g c) x) 3 c.current G.current) refl (λ z. absurd (z refl))
      (λ z. (row_grow (now l n d) U x 3 (suc c.ids) F.1, region_drawn u n.tables (now l n c) c.ids c.docs G.sound c.current G.current)) (λ z. absurd (z refl)) refl)).good

  good_foreach : (g : ℕ) (c : Change) → Good u l n c → l.tag ≡ 25 → Good u l n (region_first g 4 c)
  unfolding nested_region region_over shape_of shape_at columns_of blank put_all put_one is_number filled_by with_cell fills paired Fits choices all_fit_alone
  good_foreach g c G e =
      let F = good_nested u l n look_in g c G in
      let d : Change = nested_region g c in
      (next_add u l n look_in (shape 0) 0 (block_puts 4 c) d 4 (shape_at 25 0).texts F.0 (ap (λ (g : ℕ). shape_at g 0) e) refl refl (λ U x.
      entry_nums (at u U d.ids d.docs) c.current 4 0 (suc c.ids) 0 0 _ refl
      (zero_grow (now l n c) U (all_trans (now l n c) (now l n d) U (ext_nested g c) x) 3 c.current G.current) refl (λ z. absurd (z refl))
      (λ z. (row_grow (now l n d) U x 3 (suc c.ids) F.1, region_drawn u n.tables (now l n c) c.ids c.docs G.sound c.current G.current)) (λ z. absurd (z refl)) refl)).good

  pub good_elseif : (g : ℕ) (c : Change) → Good u l n c → l.tag ≡ 13 → Good u l n (region_first g 1 c)
  unfolding nested_region region_over shape_of shape_at columns_of blank put_all put_one is_number filled_by with_cell fills paired Fits choices all_fit_alone
  good_elseif g c G e =
      let F = good_nested u l n look_in g c G in
      let d : Change = nested_region g c in
      (next_add u l n look_in (shape 0) 0 (block_puts 1 c) d 4 (shape_at 13 0).texts F.0 (ap (λ (g : ℕ). shape_at g 0) e) refl refl (λ U x.
      entry_nums (at u U d.ids d.docs) c.current 1 0 (suc c.ids) 0 0 _ refl
      (zero_grow (now l n c) U (all_trans (now l n c) (now l n d) U (ext_nested g c) x) 3 c.current G.current) refl (λ z. absurd (z refl))
      (λ z. (row_grow (now l n d) U x 3 (suc c.ids) F.1, region_drawn u n.tables (now l n c) c.ids c.docs G.sound c.current G.current)) (λ z. absurd (z refl)) refl)).good

  pub same_tables_lem : (g k h : ℕ) (c : Change) → l.tag ≡ h → shape_of l.tag (shape 0) ≡ record { into = 4; texts = (shape_at h 0).texts } → now l n (entry_first g k c) ≡ now l n (region_first g k c)
  unfolding new_entry adding nested_region region_over also shape_of
  same_tables_lem g k h c e s =
      add_swapped u l n look_in (shape 0) (numbers 3) 0 (block_puts k c) ((Rattle.definition.specs.Rows.region).number ≔ suc c.ids ∷ []) 4 3 (shape_at h 0).texts [] s refl (omega arith) c.edits

  pub good_entry_first : (g k h : ℕ) (c : Change) → l.tag ≡ h → shape_of l.tag (shape 0) ≡ record { into = 4; texts = (shape_at h 0).texts } → Good u l n (region_first g k c) → Good u l n (entry_first g k c)
  unfolding new_entry adding nested_region region_over also
  good_entry_first g k h c e s G = good_as u l n look_in (entry_first g k c) (region_first g k c) (same_tables_lem g k h c e s) refl refl refl refl refl refl G

  module _ (b : ℕ) (R : Ready u l n b) where
    done_block : (g k : ℕ) → is_block g ≡ true → Good u l n (entry_first g k (nothing n)) → Out u l n (suc b) (block g k n l)
    unfolding block new_entry adding also nested_region region_over next_id open_region_row
    done_block g k e G =
        out_unless u l n (suc b) n.current _ (λ z.
        out G (tags_block (open_region_row (nothing n).current g) (nothing n).regions e R.tags)
        (omega (arith, blocks_block 1 (open_region_row (nothing n).current g) (nothing n).regions e, R.blocks)))

    pub out_if : l.tag ≡ 24 → Out u l n (suc b) (block 24 1 n l)
    unfolding is_block shape_of shape_at
    out_if e = done_block 24 1 refl (good_entry_first 24 1 24 (nothing n) e (ap (λ (g : ℕ). shape_at g 0) e) (good_if 24 (nothing n) R.good e))

    pub out_foreach : l.tag ≡ 25 → Out u l n (suc b) (block 25 4 n l)
    unfolding is_block shape_of shape_at
    out_foreach e = done_block 25 4 refl (good_entry_first 25 4 25 (nothing n) e (ap (λ (g : ℕ). shape_at g 0) e) (good_foreach 25 (nothing n) R.good e))
