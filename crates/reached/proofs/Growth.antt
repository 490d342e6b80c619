-- What is true of open elements stays true while tables grow.
use Prim.Native.Nat.{ℕ, zero, suc, ◌≤◌}
use mathlib.Core.Path.{◌≡◌, refl, sym, ◌∙◌, subst}
use mathlib.Core.Bool.{true, false≢true}
use mathlib.Core.List.{List, [], ◌∷◌, ◌++◌, append_assoc, append-nil}
use lib.ListN.{length, get_or, set, length-append, length-set}
use native.Mathlib.Omega.{arith}
use Rattle.definition.specs.Elements.{among}
use Rattle.definition.specs.Rows.{Row, Table, num, row_of, blank}
use Rattle.definition.specs.Look.{Look}
use Rattle.definition.specs.Change.{Edit, edited_by}
use Rattle.definition.specs.Actions.{last_with}
use Rattle.definition.proofs.Changes.{alter_length}
use Rattle.reached.proofs.Tables.{set_view, AllRows, all_snoc, all_altered, altered_row, last_grows, last_altered}
use Rattle.reached.proofs.Edits.{guarded, safe_edits, Stable, edits_stable, edits_size}
use Rattle.reached.proofs.Stack.{holders}

-- ---- facts

abbrev pub HasState : List Table → ℕ → Type 0
HasState ts s = ¬ (s ≡ 0) × (s ≤ length (get_or ts 1 []))

abbrev pub HasInvoke : List Table → ℕ → Type 0
HasInvoke ts s = ¬ (last_with 0 s 0 0 (get_or ts 5 []) ≡ 0)

abbrev pub HasDone : List Table → ℕ → Type 0
HasDone ts s = ¬ (num (row_of (get_or ts 1 []) s) 8 ≡ 0)

abbrev pub RootOf : List Table → ℕ
RootOf ts = num (get_or (get_or ts 0 []) 0 []) 0

-- Of an open element with the tag g, inside which the state is s and the transition t.
pub record Fact (ts : List Table) (g s t : ℕ) : Type 0 where
  pub known : among g holders ≡ true → HasState ts s
  pub going : g ≡ 16 → ¬ (t ≡ 0)
  pub invoked : among g (8 ∷ 11 ∷ []) ≡ true → HasInvoke ts s
  pub done : g ≡ 10 → HasDone ts s

abbrev pub Wide : Row → Type 0
Wide r = 9 ≤ length r

pub record Solid (ts : List Table) : Type 0 where
  pub size : length ts ≡ 12
  pub chart : 1 ≤ length (get_or ts 0 [])
  pub charts : AllRows Wide (get_or ts 0 [])
  pub states : AllRows Wide (get_or ts 1 [])

pub record Grows (ts us : List Table) : Type 0 where
  pub size : length us ≡ length ts
  pub states : length (get_or ts 1 []) ≤ length (get_or us 1 [])
  pub invokes : (s : ℕ) → HasInvoke ts s → HasInvoke us s
  pub done : (s : ℕ) → HasDone ts s → HasDone us s
  pub root : ¬ (RootOf ts ≡ 0) → ¬ (RootOf us ≡ 0)
  pub chart : 1 ≤ length (get_or ts 0 []) → 1 ≤ length (get_or us 0 [])
  pub wide0 : AllRows Wide (get_or ts 0 []) → AllRows Wide (get_or us 0 [])
  pub wide1 : AllRows Wide (get_or ts 1 []) → AllRows Wide (get_or us 1 [])

pub fact_grows : (ts us : List Table) (g s t : ℕ) → Grows ts us → Fact ts g s t → Fact us g s t
fact_grows ts us g s t G f =
    record {
      known = λ m. ((f.known m).0, let h : s ≤ length (get_or ts 1 []) = (f.known m).1 in omega (arith, G.states));
      going = f.going;
      invoked = λ m. G.invokes s (f.invoked m);
      done = λ m. G.done s (f.done m);
    }

pub solid_grows : (ts us : List Table) → Grows ts us → Solid ts → Solid us
solid_grows ts us G s =
    record {
      size = G.size ∙ s.size;
      chart = G.chart s.chart;
      charts = G.wide0 s.charts;
      states = G.wide1 s.states;
    }

-- ---- each is stable

long_stable : (k m : ℕ) → Stable k (λ rs. m ≤ length rs)
long_stable k m =
    record {
      added = λ rs r e h. omega (arith, length-append rs (r ∷ []));
      altered = λ j F K rs h. omega (arith, alter_length j F rs);
    }

added_num : (rs : Table) (r : Row) (i c : ℕ) → ¬ (num (get_or rs i []) c ≡ 0) → ¬ (num (get_or (rs ++ r ∷ []) i []) c ≡ 0)
added_num [] r i c h = absurd (h refl)
added_num (s ∷ rs) r zero c h = h
added_num (s ∷ rs) r (suc i) c h = added_num rs r i c h

num_stable : (k i c : ℕ) → among c (guarded k) ≡ true → Stable k (λ rs. ¬ (num (get_or rs i []) c ≡ 0))
num_stable k i c m =
    record {
      added = λ rs r e h. added_num rs r i c h;
      altered = λ j F K rs h. altered_row (λ r. ¬ (num r c ≡ 0)) j F rs i (λ r p. K.held c m (λ x. ¬ (x ≡ 0)) (λ x e n. n) r p) h;
    }

done_stable : (s : ℕ) → Stable 1 (λ rs. ¬ (num (row_of rs s) 8 ≡ 0))
unfolding row_of among guarded
done_stable zero = record { added = λ rs r e h. h; altered = λ j F K rs h. h }
done_stable (suc i) = num_stable 1 i 8 refl

invoke_stable : (s : ℕ) → Stable 5 (λ rs. ¬ (last_with 0 s 0 0 rs ≡ 0))
unfolding among guarded
invoke_stable s =
    record {
      added = λ rs r e h. last_grows 0 s 0 0 rs r h;
      altered = λ j F K rs h. rw (last_altered 0 s 0 0 j F rs (λ r. K.held 0 refl (λ x. x ≡ num r 0) (λ x e n. absurd (false≢true e)) r refl)) h;
    }

wide_stable : (k : ℕ) → 9 ≤ length (blank k) → Stable k (λ rs. AllRows Wide rs)
wide_stable k w =
    record {
      added = λ rs r e h. all_snoc Wide rs r h (omega arith);
      altered = λ j F K rs h. all_altered Wide j F rs (λ r p. omega (arith, K.long r)) h;
    }

blank_wide : (9 ≤ length (blank 0)) × (9 ≤ length (blank 1))
unfolding blank
blank_wide = (omega arith, omega arith)

root_guarded : among 0 (guarded 0) ≡ true
unfolding among guarded
root_guarded = refl

pub edits_grow : (l : Look) (es : List Edit) (ts : List Table) → safe_edits l.tag es ≡ true → Grows ts (edited_by l es ts)
edits_grow l es ts s =
    record {
      size = edits_size l es ts;
      states = edits_stable 1 (λ rs. length (get_or ts 1 []) ≤ length rs) (long_stable 1 (length (get_or ts 1 []))) l es ts s (omega arith);
      invokes = λ i h. edits_stable 5 (λ rs. ¬ (last_with 0 i 0 0 rs ≡ 0)) (invoke_stable i) l es ts s h;
      done = λ i h. edits_stable 1 (λ rs. ¬ (num (row_of rs i) 8 ≡ 0)) (done_stable i) l es ts s h;
      root = λ h. edits_stable 0 (λ rs. ¬ (num (get_or rs 0 []) 0 ≡ 0)) (num_stable 0 0 0 root_guarded) l es ts s h;
      chart = λ h. edits_stable 0 (λ rs. 1 ≤ length rs) (long_stable 0 1) l es ts s h;
      wide0 = λ h. edits_stable 0 (λ rs. AllRows Wide rs) (wide_stable 0 blank_wide.0) l es ts s h;
      wide1 = λ h. edits_stable 1 (λ rs. AllRows Wide rs) (wide_stable 1 blank_wide.1) l es ts s h;
    }

-- ---- tables of open elements written, and rows added to the states

pub same_grows : (ts us : List Table) → length us ≡ length ts → get_or us 0 [] ≡ get_or ts 0 [] → get_or us 1 [] ≡ get_or ts 1 [] → get_or us 5 [] ≡ get_or ts 5 [] → Grows ts us
same_grows ts us z a b c =
    record {
      size = z;
      states = rw b (omega arith);
      invokes = λ s h. rw c h;
      done = λ s h. rw b h;
      root = λ h. rw a h;
      chart = λ h. rw a h;
      wide0 = λ h. rw a h;
      wide1 = λ h. rw b h;
    }

pub set_other : (ts : List Table) (k j : ℕ) (x : Table) → ¬ (k ≡ j) → get_or (set ts k x) j [] ≡ get_or ts j []
set_other ts k j x h = set_view (λ (y : Table). y ≡ get_or ts j []) ts k j x [] (λ e. absurd (h e)) refl

stable_rows : (k : ℕ) (P : Table → Type 0) → Stable k P → (rs qs : Table) → AllRows (λ r. length r ≡ length (blank k)) qs → P rs → P (rs ++ qs)
unfolding AllRows
stable_rows k P S rs [] a p = subst P (sym (append-nil rs)) p
stable_rows k P S rs (q ∷ qs) a p = subst P (append_assoc rs (q ∷ []) qs) (stable_rows k P S (rs ++ q ∷ []) qs a.1 (S.added rs q a.0 p))

states_view : (P : Table → Type 0) → Stable 1 P → (ts : List Table) (qs : Table) → AllRows (λ r. length r ≡ length (blank 1)) qs → P (get_or ts 1 []) → P (get_or (set ts 1 (get_or ts 1 [] ++ qs)) 1 [])
states_view P S ts qs a p = set_view P ts 1 1 (get_or ts 1 [] ++ qs) [] (λ e. stable_rows 1 P S (get_or ts 1 []) qs a p) p

pub states_grow : (ts : List Table) (qs : Table) → AllRows (λ r. length r ≡ length (blank 1)) qs → Grows ts (set ts 1 (get_or ts 1 [] ++ qs))
states_grow ts qs a =
    record {
      size = length-set ts 1 (get_or ts 1 [] ++ qs);
      states = states_view (λ rs. length (get_or ts 1 []) ≤ length rs) (long_stable 1 (length (get_or ts 1 []))) ts qs a (omega arith);
      invokes = λ i h. rw (set_other ts 1 5 (get_or ts 1 [] ++ qs) (omega arith)) h;
      done = λ i h. states_view (λ rs. ¬ (num (row_of rs i) 8 ≡ 0)) (done_stable i) ts qs a h;
      root = λ h. rw (set_other ts 1 0 (get_or ts 1 [] ++ qs) (omega arith)) h;
      chart = λ h. rw (set_other ts 1 0 (get_or ts 1 [] ++ qs) (omega arith)) h;
      wide0 = λ h. rw (set_other ts 1 0 (get_or ts 1 [] ++ qs) (omega arith)) h;
      wide1 = λ h. states_view (λ rs. AllRows Wide rs) (wide_stable 1 blank_wide.1) ts qs a h;
    }
