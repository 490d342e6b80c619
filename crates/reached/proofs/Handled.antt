-- Every start and every end keeps the invariant and meets no internal error.
use Prim.Native.Nat.{ℕ, zero, suc, ◌≤◌}
use mathlib.Core.Path.{◌≡◌, refl, ◌∙◌}
use mathlib.Core.Bool.{Bool, true, false, ◌&&◌, not, false≢true}
use mathlib.Core.List.{List, [], ◌∷◌, ◌++◌, reverse}
use lib.ListN.{length, get_or, set, length-set}
use lib.Seq.{get_or-set_same}
use lib.Dec.{eqb, leb}
use borrow.Author.Tests.{eqb-true, leb-true}
use native.Mathlib.Omega.{arith}
use Rattle.definition.specs.Elements.{among}
use Rattle.definition.specs.Rows.{Row, Table, num, Numbers, innermost, parent_tag, last_of}
use Rattle.definition.specs.Look.{Look}
use Rattle.definition.specs.Change.{Change, Outcome, done, refuse, on_table, made, with_tables, pushed, popped, opened_row}
use Rattle.definition.specs.Reader.{only_nest, starts, start_of, end_of, Verdict, accept, reject, on_done, started, finished, handled}
use Rattle.definition.proofs.Changes.{last_snoc}
use Rattle.reached.proofs.Tables.{and_left, and_right}
use Rattle.reached.proofs.Edits.{edits_size}
use Rattle.reached.proofs.Stack.{holders}
use Rattle.reached.proofs.Reached.{Reached, after, push_reached, pop_reached}
use Rattle.reached.proofs.Steps.{Fine, Asked, Good, StartOk}
use Rattle.reached.proofs.StateStarts.{nest_leaf, nest_datamodel, start_initial_lem, start_state_lem, start_parallel_lem, start_final_lem, start_history_lem, start_data_lem}
use Rattle.reached.proofs.Effects.{start_scxml_lem, start_donedata_lem, start_invoke_lem}
use Rattle.reached.proofs.RegionStarts.{start_onentry, start_onexit, start_finalize, start_transition_lem, start_if, start_foreach, start_raise, start_cancel, start_log_lem, start_assign_lem, start_script_lem}
use Rattle.reached.proofs.LeafStarts.{start_else_lem, start_elseif, start_send_lem}
use Rattle.reached.proofs.ParamStarts.{start_param_lem, start_content_lem}
use Rattle.reached.proofs.Ends.{Ended, all_ends}

-- ---- starts by the tag

AllFrom : (ℕ → (Numbers → Look → Outcome) → Type 0) → List (Numbers → Look → Outcome) → Type 0
AllFrom P [] = (j : ℕ) → P j only_nest
AllFrom P (h ∷ hs) = P 0 h × AllFrom (λ j. P (suc j)) hs

all_at : (P : ℕ → (Numbers → Look → Outcome) → Type 0) (hs : List (Numbers → Look → Outcome)) → AllFrom P hs → (g : ℕ) → P g (get_or hs g only_nest)
unfolding AllFrom
all_at P [] a g = a g
all_at P (h ∷ hs) a zero = a.0
all_at P (h ∷ hs) a (suc g) = all_at (λ j. P (suc j)) hs a.1 g

at_most : ℕ → List ℕ → Bool
at_most k [] = true
at_most k (x ∷ xs) = leb x k && at_most k xs

among_bound : (k n : ℕ) (xs : List ℕ) → at_most k xs ≡ true → among n xs ≡ true → n ≤ k
unfolding at_most among
among_bound k n [] a e = absurd (false≢true e)
among_bound k n (x ∷ xs) a e = go (eqb n x) refl (among_bound k n xs (and_right (leb x k) (at_most k xs) a))
  where
    go : (b : Bool) → eqb n x ≡ b → (among n xs ≡ true → n ≤ k) → n ≤ k
    go true f ih = let q : n ≡ x = eqb-true n x f in omega (arith, leb-true x k (and_left (leb x k) (at_most k xs) a))
    go false f ih = ih (rw (f, among) at e)

beyond : (j : ℕ) → 26 ≤ j → not (among j holders) ≡ true
unfolding at_most
beyond j h = go (among j holders) refl
  where
    go : (b : Bool) → among j holders ≡ b → not b ≡ true
    go true e = let q : j ≤ 25 = among_bound 25 j holders refl e in absurd (omega arith)
    go false e = refl

unlisted : (j : ℕ) → StartOk (suc (suc (suc (suc (suc (suc (suc (suc (suc (suc (suc (suc (suc (suc (suc (suc (suc (suc (suc (suc (suc (suc (suc (suc (suc (suc (suc j))))))))))))))))))))))))))) only_nest
unlisted j = let k : ℕ = suc (suc (suc (suc (suc (suc (suc (suc (suc (suc (suc (suc (suc (suc (suc (suc (suc (suc (suc (suc (suc (suc (suc (suc (suc (suc (suc j)))))))))))))))))))))))))) in nest_leaf k (beyond k (omega arith))

pub all_starts : (g : ℕ) → StartOk g (start_of g)
unfolding start_of starts AllFrom among
all_starts =
    all_at StartOk starts (
      nest_leaf 0 refl,
      (
        start_scxml_lem,
        (
          start_state_lem,
          (
            start_parallel_lem,
            (
              nest_datamodel,
              (
                start_final_lem,
                (
                  start_history_lem,
                  (
                    start_initial_lem,
                    (
                      start_invoke_lem,
                      (
                        start_data_lem,
                        (
                          start_donedata_lem,
                          (
                            start_finalize,
                            (
                              start_else_lem,
                              (
                                start_elseif,
                                (
                                  start_param_lem,
                                  (
                                    start_content_lem,
                                    (
                                      start_transition_lem,
                                      (
                                        start_onentry,
                                        (
                                          start_onexit,
                                          (
                                            start_send_lem,
                                            (
                                              start_raise,
                                              (
                                                start_cancel,
                                                (start_log_lem, (start_assign_lem, (start_if, (start_foreach, (start_script_lem, unlisted))))),
                                              ),
                                            ),
                                          ),
                                        ),
                                      ),
                                    ),
                                  ),
                                ),
                              ),
                            ),
                          ),
                        ),
                      ),
                    ),
                  ),
                ),
              ),
            ),
          ),
        ),
      ),
    )

-- ---- an event handled

unfoldable pub VerdictOk : Verdict → Type 0
VerdictOk (accept n) = Reached n
VerdictOk (reject k) = ¬ (k ≡ 2)

top_tag : (X : List Table) (r : Row) → length X ≡ 12 → num (last_of [] (get_or (set X 9 (get_or X 9 [] ++ r ∷ [])) 9 [])) 0 ≡ num r 0
top_tag X r z = rw (get_or-set_same X 9 (get_or X 9 [] ++ r ∷ []) [] (omega arith), last_snoc [] (get_or X 9 []) r)

pushed_tag : (n : Numbers) (l : Look) (c : Change) → Reached n → parent_tag (pushed l c (made l c n)) ≡ l.tag
unfolding parent_tag innermost pushed made with_tables on_table opened_row
pushed_tag n l c R =
    let X : List Table = set (after l c n) 11 (reverse c.regions) in
    let Y : List Table = set X 10 (get_or X 10 [] ++ l.name ∷ []) in
    top_tag Y (opened_row l c) (length-set X 10 (get_or X 10 [] ++ l.name ∷ []) ∙ length-set (after l c n) 11 (reverse c.regions) ∙ edits_size l c.edits n.tables ∙ R.solid.size)

started_ok : (l : Look) (n : Numbers) (R : Reached n) → Asked n l l.tag → (next : Numbers → Verdict) → ((m : Numbers) → Reached m → parent_tag m ≡ l.tag → VerdictOk (next m)) → VerdictOk (started l n next)
unfolding started
started_ok l n R A next f = go (start_of l.tag n l) (all_starts l.tag n l R A)
  where
    go : (o : Outcome) → Fine (Good l.tag n l R) o → VerdictOk (on_done o (λ c. next (pushed l c (made l c n))))
    go (done c) G = unfold on_done in f (pushed l c (made l c n)) (push_reached n l c R (unfold Fine in G.safe) (unfold Fine in G.fact) (unfold Fine in G.root) (unfold Fine in G.place)) (pushed_tag n l c R)
    go (refuse k) G = unfold on_done VerdictOk Fine in G

finished_ok : (l : Look) (n : Numbers) (R : Reached n) → parent_tag n ≡ l.tag → VerdictOk (finished l n)
unfolding finished
finished_ok l n R p = go (end_of l.tag n) (all_ends l.tag n l R p)
  where
    go : (o : Outcome) → Fine (Ended l.tag n l R) o → VerdictOk (on_done o (λ c. accept (popped (made l c n))))
    go (done c) G = unfold on_done VerdictOk in pop_reached n l c R (unfold Fine in G.safe) (unfold Fine in G.place)
    go (refuse k) G = unfold on_done VerdictOk Fine in G

pub handled_ok : (k : ℕ) (l : Look) (n : Numbers) (R : Reached n) → k ≤ 3 → (¬ (k ≡ 3) → Asked n l l.tag) → (k ≡ 3 → parent_tag n ≡ l.tag) → VerdictOk (handled k l n)
unfolding handled VerdictOk
handled_ok zero l n R b a p = started_ok l n R (a (omega arith)) accept (λ m M q. M)
handled_ok (suc zero) l n R b a p = started_ok l n R (a (omega arith)) (finished l) (λ m M q. finished_ok l m M q)
handled_ok (suc (suc zero)) l n R b a p = started_ok l n R (a (omega arith)) (finished l) (λ m M q. finished_ok l m M q)
handled_ok (suc (suc (suc k))) l n R b a p = finished_ok l n R (p (omega arith))
