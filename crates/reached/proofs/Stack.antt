-- Open elements and open regions match. Tags stand innermost first.
use Prim.Native.Nat.{ℕ, zero, suc}
use mathlib.Core.Path.{◌≡◌, refl}
use mathlib.Core.Bool.{Bool, true, false, not, false≢true}
use mathlib.Core.Option.{some}
use mathlib.Core.List.{List, [], ◌∷◌}
use borrow.Author.Tests.{eq-eqb}
use native.Mathlib.Omega.{arith}
use Rattle.definition.specs.Elements.{among}
use Rattle.definition.specs.Rows.{Row, Table, num, row_of}
use Rattle.definition.specs.Change.{closed_by, open_region_row}
use Rattle.definition.specs.Actions.{last_with}
use Rattle.reached.proofs.Tables.{among_within, among_apart, among_not, within, apart, not_both}

-- ---- tags by what they do

-- Elements in which a known element may stand, and those whose end looks at the state.
abbrev pub holders : List ℕ
holders = 1 ∷ 2 ∷ 3 ∷ 4 ∷ 5 ∷ 6 ∷ 7 ∷ 8 ∷ 10 ∷ 11 ∷ 16 ∷ 17 ∷ 18 ∷ 19 ∷ 24 ∷ 25 ∷ []

-- finalize, transition, onentry, onexit begin a region; if and foreach open one inside.
abbrev pub starters : List ℕ
starters = 11 ∷ 16 ∷ 17 ∷ 18 ∷ []

abbrev pub blocks : List ℕ
blocks = 24 ∷ 25 ∷ []

abbrev pub inner : List ℕ
inner = 11 ∷ 16 ∷ 17 ∷ 18 ∷ 24 ∷ 25 ∷ []

abbrev pub outer : List ℕ
outer = 1 ∷ 2 ∷ 3 ∷ 4 ∷ 5 ∷ 6 ∷ 7 ∷ 8 ∷ 10 ∷ []

abbrev pub regional : List ℕ
regional = 11 ∷ 16 ∷ 17 ∷ 18 ∷ 19 ∷ 24 ∷ 25 ∷ []

-- ---- the match

unfoldable pub Idle : List ℕ → Type 0
Idle [] = Unit {0}
Idle (g ∷ gs) = (not (among g regional) ≡ true) × Idle gs

pub data Layer (idle : Type 0) (rest : List Row → ℕ → Type 0) (g : ℕ) (regs : List Row) : Type 0 where
  starter : among g starters ≡ true → regs ≡ [] → idle → Layer idle rest g regs
  block : (rs : List Row) (c : ℕ) → among g blocks ≡ true → regs ≡ open_region_row (suc c) g ∷ rs → rest rs (suc c) → Layer idle rest g regs
  branched : (rs : List Row) (c d : ℕ) → g ≡ 24 → regs ≡ open_region_row (suc d) 13 ∷ open_region_row (suc c) 24 ∷ rs → rest rs (suc c) → Layer idle rest g regs

unfoldable pub Live : List ℕ → List Row → ℕ → Type 0
Live [] regs cur = ⊥
Live (g ∷ gs) regs cur = ¬ (cur ≡ 0) × Layer (Idle gs) (Live gs) g regs

unfoldable pub LastSend : Table → ℕ → Type 0
LastSend E cur = num (row_of E (last_with 0 cur 0 0 E)) 1 ≡ 5

pub data Over (here-live below-live below last : Type 0) (g : ℕ) : Type 0 where
  here : here-live → Over here-live below-live below last g
  sent : g ≡ 19 → last → below-live → Over here-live below-live below last g
  leaf : not (among g holders) ≡ true → below → Over here-live below-live below last g

unfoldable pub Under : Table → List ℕ → List Row → ℕ → Type 0
Under E [] regs cur = ⊥
Under E (g ∷ gs) regs cur = Over (Live (g ∷ gs) regs cur) (Live gs regs cur) (Under E gs regs cur) (LastSend E cur) g

pub data Place (E : Table) (gs : List ℕ) (regs : List Row) (cur : ℕ) : Type 0 where
  idle : Idle gs → Place E gs regs cur
  under : Under E gs regs cur → Place E gs regs cur

unfoldable pub head_of : List ℕ → ℕ
head_of [] = 0
head_of (g ∷ gs) = g

-- ---- who is where

layer_head : (i : Type 0) (q : List Row → ℕ → Type 0) (g : ℕ) (regs : List Row) → Layer i q g regs → among g inner ≡ true
unfolding within among
layer_head i q g regs (starter m e h) = among_within starters inner g refl m
layer_head i q g regs (block rs c m e h) = among_within blocks inner g refl m
layer_head i q g regs (branched rs c d m e h) = rw m refl

pub live_head : (gs : List ℕ) (regs : List Row) (cur : ℕ) → Live gs regs cur → among (head_of gs) inner ≡ true
unfolding Live head_of
live_head [] regs cur h = absurd h
live_head (g ∷ gs) regs cur h = layer_head (Idle gs) (Live gs) g regs h.1

pub live_current : (gs : List ℕ) (regs : List Row) (cur : ℕ) → Live gs regs cur → ¬ (cur ≡ 0)
unfolding Live
live_current [] regs cur h = absurd h
live_current (g ∷ gs) regs cur h = h.0

pub must_live : (E : Table) (gs : List ℕ) (regs : List Row) (cur : ℕ) → Place E gs regs cur → among (head_of gs) inner ≡ true → Live gs regs cur
unfolding Idle Under head_of within among
must_live E [] regs cur p m = absurd (false≢true m)
must_live E (g ∷ gs) regs cur (idle h) m = absurd (among_not regional g g h.0 (among_within inner regional g refl m) refl)
must_live E (g ∷ gs) regs cur (under (here h)) m = h
must_live E (g ∷ gs) regs cur (under (sent e l h)) m = absurd (false≢true (rw e at m))
must_live E (g ∷ gs) regs cur (under (leaf e h)) m = absurd (among_not holders g g e (among_within inner holders g refl m) refl)

pub must_idle : (E : Table) (gs : List ℕ) (regs : List Row) (cur : ℕ) → Place E gs regs cur → among (head_of gs) outer ≡ true → Idle gs
unfolding Idle Under head_of within apart among
must_idle E [] regs cur p m = absurd (false≢true m)
must_idle E (g ∷ gs) regs cur (idle h) m = h
must_idle E (g ∷ gs) regs cur (under (here h)) m = absurd (among_apart inner outer g refl (live_head (g ∷ gs) regs cur h) m)
must_idle E (g ∷ gs) regs cur (under (sent e l h)) m = absurd (false≢true (rw e at m))
must_idle E (g ∷ gs) regs cur (under (leaf e h)) m = absurd (among_not holders g g e (among_within outer holders g refl m) refl)

pub record Sent (E : Table) (gs : List ℕ) (regs : List Row) (cur : ℕ) : Type 0 where
  pub last : LastSend E cur
  pub some : ¬ (cur ≡ 0)
  pub stack : Under E gs regs cur

pub must_sent : (E : Table) (gs : List ℕ) (regs : List Row) (cur : ℕ) → Place E gs regs cur → head_of gs ≡ 19 → Sent E gs regs cur
unfolding Idle Under head_of among
must_sent E [] regs cur p m = absurd (omega arith)
must_sent E (g ∷ gs) regs cur (idle h) m = absurd (among_not regional g 19 h.0 refl m)
must_sent E (g ∷ gs) regs cur (under (here h)) m = let u : among g inner ≡ true = live_head (g ∷ gs) regs cur h in absurd (false≢true (rw m at u))
must_sent E (g ∷ gs) regs cur (under (sent e l h)) m = record { last = l; some = live_current gs regs cur h; stack = sent e l h }
must_sent E (g ∷ gs) regs cur (under (leaf e h)) m = absurd (among_not holders g 19 e refl m)

-- Where no holder is open nothing is live.
unfoldable pub Bare : List ℕ → Type 0
Bare [] = Unit {0}
Bare (g ∷ gs) = (not (among g holders) ≡ true) × Bare gs

pub bare_not_live : (gs : List ℕ) (regs : List Row) (cur : ℕ) → Bare gs → Live gs regs cur → ⊥
unfolding Bare Live within among
bare_not_live [] regs cur b h = h
bare_not_live (g ∷ gs) regs cur b h = among_not holders g g b.0 (among_within inner holders g refl (layer_head (Idle gs) (Live gs) g regs h.1)) refl

pub bare_not_under : (E : Table) (gs : List ℕ) (regs : List Row) (cur : ℕ) → Bare gs → Under E gs regs cur → ⊥
unfolding Bare Under
bare_not_under E [] regs cur b h = h
bare_not_under E (g ∷ gs) regs cur b (here h) = bare_not_live (g ∷ gs) regs cur b h
bare_not_under E (g ∷ gs) regs cur b (sent e l h) = bare_not_live gs regs cur b.1 h
bare_not_under E (g ∷ gs) regs cur b (leaf e h) = bare_not_under E gs regs cur b.1 h

pub bare_idle : (E : Table) (gs : List ℕ) (regs : List Row) (cur : ℕ) → Bare gs → Place E gs regs cur → Idle gs
bare_idle E gs regs cur b (idle h) = h
bare_idle E gs regs cur b (under h) = absurd (bare_not_under E gs regs cur b h)

-- ---- a leaf more, an element less

pub not_regional : (g : ℕ) → not (among g holders) ≡ true → not (among g regional) ≡ true
unfolding within among
not_regional g e = go (among g regional) refl
  where
    go : (b : Bool) → among g regional ≡ b → not b ≡ true
    go true m = absurd (among_not holders g g e (among_within regional holders g refl m) refl)
    go false m = refl

pub under_moved : (E E' : Table) (gs : List ℕ) (regs : List Row) (cur : ℕ) → (LastSend E cur → LastSend E' cur) → Under E gs regs cur → Under E' gs regs cur
unfolding Under
under_moved E E' [] regs cur f h = h
under_moved E E' (g ∷ gs) regs cur f (here h) = here h
under_moved E E' (g ∷ gs) regs cur f (sent e l h) = sent e (f l) h
under_moved E E' (g ∷ gs) regs cur f (leaf e h) = leaf e (under_moved E E' gs regs cur f h)

pub push_leaf : (E : Table) (g : ℕ) (gs : List ℕ) (regs : List Row) (cur : ℕ) → not (among g holders) ≡ true → Place E gs regs cur → Place E (g ∷ gs) regs cur
unfolding Idle Under
push_leaf E g gs regs cur e (idle h) = idle (not_regional g e, h)
push_leaf E g gs regs cur e (under h) = under (leaf e h)

pub on_live : (E : Table) (gs : List ℕ) (regs : List Row) (cur : ℕ) → Live gs regs cur → Under E gs regs cur
unfolding Under Live
on_live E [] regs cur h = absurd h
on_live E (g ∷ gs) regs cur h = here h

pub popped_place : (E : Table) (g : ℕ) (gs : List ℕ) (regs : List Row) (cur : ℕ) → not (among g inner) ≡ true → Place E (g ∷ gs) regs cur → Place E gs regs cur
unfolding Idle Under head_of
popped_place E g gs regs cur e (idle h) = idle h.1
popped_place E g gs regs cur e (under (here h)) = absurd (not_both (among g inner) (live_head (g ∷ gs) regs cur h) e)
popped_place E g gs regs cur e (under (sent m l h)) = under (on_live E gs regs cur h)
popped_place E g gs regs cur e (under (leaf m h)) = under h

-- ---- closing

pub nonzero : (x : ℕ) → ¬ (x ≡ 0) → (i : ℕ) × (x ≡ suc i)
nonzero zero h = absurd (h refl)
nonzero (suc i) h = (i, refl)

pub record Closes (g : ℕ) (gs : List ℕ) (regs : List Row) (cur : ℕ) : Type 0 where
  pub c : ℕ
  pub rs : List Row
  pub closed : closed_by g regs cur ≡ some (record { current = suc c; regions = rs })
  pub left : Live gs rs (suc c)

closed_one : (g r : ℕ) (rs : List Row) (i : ℕ) → closed_by g (open_region_row r g ∷ rs) (suc i) ≡ some (record { current = r; regions = rs })
unfolding closed_by open_region_row
closed_one g r rs i = rw (eq-eqb g g refl, closed_by)

pub close_block : (g : ℕ) (gs : List ℕ) (regs : List Row) (cur : ℕ) → among g blocks ≡ true → Live (g ∷ gs) regs cur → Closes g gs regs cur
unfolding Live apart among closed_by open_region_row
close_block g gs regs cur m h = go (nonzero cur h.0) h.1
  where
    go : ((i : ℕ) × (cur ≡ suc i)) → Layer (Idle gs) (Live gs) g regs → Closes g gs regs cur
    go k (starter n e f) = absurd (among_apart starters blocks g refl n m)
    go k (block rs c n e f) = record { c = c; rs = rs; closed = rw (e, k.1) (closed_one g (suc c) rs k.0); left = f }
    go k (branched rs c d n e f) = record { c = c; rs = rs; closed = rw (e, k.1, n) refl; left = f }

pub close_starter : (g : ℕ) (gs : List ℕ) (regs : List Row) (cur : ℕ) → among g starters ≡ true → Live (g ∷ gs) regs cur
    → (closed_by g regs cur ≡ some (record { current = 0; regions = [] })) × Idle gs
unfolding Live apart among closed_by
close_starter g gs regs cur m h = go (nonzero cur h.0) h.1
  where
    go : ((i : ℕ) × (cur ≡ suc i)) → Layer (Idle gs) (Live gs) g regs → (closed_by g regs cur ≡ some (record { current = 0; regions = [] })) × Idle gs
    go k (starter n e f) = (rw (e, k.1) refl, f)
    go k (block rs c n e f) = absurd (among_apart starters blocks g refl m n)
    go k (branched rs c d n e f) = absurd (false≢true (rw n at m))
