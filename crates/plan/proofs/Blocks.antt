-- else and elseif; onentry, onexit, finalize.
use Prim.Native.Nat.{ℕ}
use mathlib.Core.Path.{◌≡◌, refl, sym, ap, subst}
use mathlib.Core.List.{[], ◌∷◌, reverse-reverse, append_assoc}
use lib.ListN.{take}
use Rattle.std.specs.Prelude.{Some}
use Rattle.definition.specs.Look.{Look}
use Rattle.definition.specs.Rows.{Row, Table, table, num, entry, Numbers, current_state}
use Rattle.definition.specs.Change.{◌≔◌, numbers, Change, done, nothing, altering, pushed, made, fresh_region}
use Rattle.definition.specs.Actions.{Walk, meets, nowhere, no_if, walk_from, walked, start_else, start_else_if, start_region, end_listed, end_finalize, last_invoke}
use Rattle.definition.specs.Reader.{on_done, started, finished}
use Rattle.definition.proofs.Changes.{without_snoc}
use Rattle.definition.specs.Codes.{list_number}
use Rattle.definition.specs.declared.codes.ListKind.{ListKind}
use Rattle.definition.specs.declared.codes.ListKind.TheVariants as L
use Rattle.plan.specs.declared.Plan.{Plan}
use Rattle.plan.specs.Plan.{planned}
use Rattle.plan.specs.After.{verdict_of}
use Rattle.plan.specs.declared.Seen.{Seen}
use Rattle.plan.specs.declared.Closing.{Closing}
use Rattle.plan.specs.declared.Walked.{Walked}
use Rattle.plan.specs.Seen.{seen, walked_as, walk_in, closes}
use Rattle.plan.specs.Plans.{walked_p, else_plan, else_p, else_if_plan, else_if_p, region_p, end_listed_p, both_listed_p, end_finalize_p, both_finalize_p}
use Rattle.plan.proofs.Base.{Tables, full, looked}
use Rattle.plan.proofs.Laws.{back, last_snoc}
use Rattle.plan.proofs.Frame.{Next, to_open, to_end, to_both, Meets, by_unless, by_unless_as, by_closing}

by_walked : (m : ℕ) (l : Look) (n : Numbers) (k : Next) (w : Walk) (r : ℕ) (x : Change) (f : ℕ → Plan)
    → ((e : ℕ) → Meets m l n k (done (altering (numbers table.entries) e (entry.else ≔ r ∷ []) x)) (planned (f e))) → Meets m l n k (done x) (planned (f 0)) → Meets m l n k (walked w r x) (walked_p (walked_as w) f)
unfolding walked walked_as walked_p on_done verdict_of
by_walked m l n k (meets e) r x f h g = h e
by_walked m l n k nowhere r x f h g = g
by_walked m l n k no_if r x f h g = refl

-- The walk that was seen.
by_seen : (m : ℕ) (l : Look) (n : Numbers) (k : Next) (w : Walk) (v : Walked) → v ≡ walked_as w → (r : ℕ) (x : Change) (f : ℕ → Plan)
    → ((e : ℕ) → Meets m l n k (done (altering (numbers table.entries) e (entry.else ≔ r ∷ []) x)) (planned (f e))) → Meets m l n k (done x) (planned (f 0)) → Meets m l n k (walked w r x) (walked_p v f)
by_seen m l n k w v q r x f h g = subst (λ (z : Walked). Meets m l n k (walked w r x) (walked_p z f)) (sym q) (by_walked m l n k w r x f h g)

module _ (T : Tables) (c i d a e k : ℕ) (l₀ : Look) where
  abbrev n : Numbers
  n = full T c i d a e

  abbrev rs : Table
  rs = T.open_regions

  abbrev el : ℕ → Look
  el g = looked k g l₀

  abbrev see : ℕ → Seen
  see g = seen n (el g)

  walk_seen : (g : ℕ) (x : Closing) → (see g).closed ≡ Some x → (see g).walk ≡ walked_as (walk_from n x.current.0)
  unfolding seen walk_in
  walk_seen g x q = ap (walk_in n) q

  pub start_else_lem : Meets 0 (el 12) n (to_open (el 12) n) (start_else n (el 12)) (else_p (see 12))
  unfolding seen start_else started verdict_of else_p
  start_else_lem =
      by_closing 0 (el 12) n (to_open (el 12) n) 24 refl _ _ (λ x q.
      by_seen 0 (el 12) n (to_open (el 12) n) (walk_from n x.current.0) (see 12).walk (walk_seen 12 x q) _ _ (else_plan x (see 12)) (λ e. rw (back (take x.kept rs))) (rw (back (take x.kept rs))))

  pub start_elseif : Meets 0 (el 13) n (to_open (el 13) n) (start_else_if n (el 13)) (else_if_p (see 13))
  unfolding seen start_else_if started verdict_of else_if_p
  start_elseif =
      by_closing 0 (el 13) n (to_open (el 13) n) 24 refl _ _ (λ x q.
      by_seen 0 (el 13) n (to_open (el 13) n) (walk_from n x.current.0) (see 13).walk (walk_seen 13 x q) _ _ (else_if_plan x (see 13)) (λ e. rw (back (take x.kept rs), append_assoc, append_assoc)) (rw (back (take x.kept rs), append_assoc, append_assoc)))

  pub start_region_lem : (g : ℕ) → Meets 0 (el g) n (to_open (el g) n) (start_region n (el g)) (region_p (see g))
  unfolding seen start_region started verdict_of region_p
  start_region_lem g = refl

  pub end_listed_lem : (g : ℕ) (t : ListKind) → closes g ≡ g → Meets 2 (el g) n (to_end (el g) n) (end_listed g (list_number t) n) (end_listed_p t (see g))
  unfolding seen end_listed finished verdict_of end_listed_p
  end_listed_lem g t e = by_closing 2 (el g) n (to_end (el g) n) g e _ _ (λ x q. by_unless 2 (el g) n (to_end (el g) n) (current_state n) _ _ (λ h. rw reverse-reverse))

  pub end_finalize_lem : Meets 2 (el 11) n (to_end (el 11) n) (end_finalize n) (end_finalize_p (see 11))
  unfolding seen end_finalize finished verdict_of end_finalize_p
  end_finalize_lem =
      by_closing 2 (el 11) n (to_end (el 11) n) 11 refl _ _ (λ x q.
      by_unless 2 (el 11) n (to_end (el 11) n) (current_state n) _ _ (λ h.
      by_unless 2 (el 11) n (to_end (el 11) n) (last_invoke n (current_state n)) _ _ (λ h. rw reverse-reverse)))

  -- The store when an element with a region of its own has begun.
  in_region : ℕ → Numbers
  in_region g = pushed (el g) (fresh_region (nothing n)) (made (el g) (fresh_region (nothing n)) n)

  in_state_lem : (g : ℕ) → current_state (in_region g) ≡ current_state n
  unfolding in_region current_state pushed made nothing fresh_region
  in_state_lem g = ap (λ (r : Row). num r 1) (last_snoc [] _ T.opened)

  pub both_onentry : Meets 1 (el 17) n (to_both (el 17) n) (start_region n (el 17)) (both_listed_p L.Onentry (see 17))
  unfolding seen in_region start_region started finished verdict_of both_listed_p
  both_onentry = by_unless_as 1 (el 17) n (to_end (el 17) (in_region 17)) (current_state (in_region 17)) (current_state n) (in_state_lem 17) _ _ (rw (in_state_lem 17, without_snoc T.opened, without_snoc T.open_names))

  pub both_onexit : Meets 1 (el 18) n (to_both (el 18) n) (start_region n (el 18)) (both_listed_p L.Onexit (see 18))
  unfolding seen in_region start_region started finished verdict_of both_listed_p
  both_onexit = by_unless_as 1 (el 18) n (to_end (el 18) (in_region 18)) (current_state (in_region 18)) (current_state n) (in_state_lem 18) _ _ (rw (in_state_lem 18, without_snoc T.opened, without_snoc T.open_names))

  pub both_finalize : Meets 1 (el 11) n (to_both (el 11) n) (start_region n (el 11)) (both_finalize_p (see 11))
  unfolding seen in_region start_region started finished verdict_of both_finalize_p
  both_finalize =
      let k : Next = to_end (el 11) (in_region 11) in
      by_unless_as 1 (el 11) n k (current_state (in_region 11)) (current_state n) (in_state_lem 11) _ _
      (by_unless_as 1 (el 11) n k (last_invoke (in_region 11) (current_state (in_region 11))) (last_invoke n (current_state n)) (ap (last_invoke n) (in_state_lem 11)) _ _ (rw (in_state_lem 11, without_snoc T.opened, without_snoc T.open_names)))
