-- Every answer of a run leaves a store that keeps the rules; what an accepted call leaves is within the limits.
use Prim.Native.Nat.{ℕ}
use mathlib.Core.Path.{◌≡◌, refl, sym, ◌∙◌}
use mathlib.Core.Bool.{true, ◌&&◌}
use mathlib.Core.List.{List, [], ◌∷◌, ◌++◌}
use lib.ListN.{length}
use lib.Dec.{leb}
use native.Mathlib.Omega.{arith}
use Rattle.definition.specs.declared.Limits.{Limits}
use Rattle.definition.specs.Rows.{Table, Store}
use Rattle.definition.specs.Rules.{all_within, chart_limits, open_limits, table_limits, counters_within, within_limits, keeps_rules}
use Rattle.definition.specs.Reader.{store_of, Answer, call, run}
use Rattle.runs.specs.Statements.{Every, RunKeepsRules, AcceptedWithin}
use Rattle.kept.proofs.Base.{and_left, and_right, and_both}
use Rattle.kept.proofs.Facts.{Within, rules_from}
use Rattle.kept.proofs.Sizes.{within_cons}
use Rattle.answers.proofs.Fifteen.{Asked, asked_both}
use Rattle.kept.proofs.Lending.{rules_of, stays_in_order}

-- EVERY ANSWER OF A RUN LEAVES A STORE THAT KEEPS THE RULES.
pub run_keeps_rules : RunKeepsRules
unfolding run Every
run_keeps_rules L x p [] short long order = tt
run_keeps_rules L x p (c ∷ cs) short long order =
    let a : Answer = call L x p c in
    let next = stays_in_order L x p c short long order in
    (rules_of L a.lent a.position next.1, run_keeps_rules L a.lent a.position cs short next.0 next.1)

-- ---- within the limits

within_first : (ms ks : List ℕ) (ts : List Table) → all_within (ms ++ ks) ts ≡ true → all_within ms ts ≡ true
unfolding all_within
within_first [] ks ts e = refl
within_first (m ∷ ms) ks [] e = refl
within_first (m ∷ ms) ks (t ∷ ts) e =
    let f : (leb (length t) m && all_within (ms ++ ks) ts) ≡ true = sym (within_cons m (ms ++ ks) t ts) ∙ e in
    within_cons m ms t ts
    ∙ and_both (leb (length t) m) (all_within ms ts) (and_left (leb (length t) m) (all_within (ms ++ ks) ts) f)
    (within_first ms ks ts (and_right (leb (length t) m) (all_within (ms ++ ks) ts) f))

rules_within : (L : Limits) (s : Store) → keeps_rules L s ≡ true → within_limits L s.numbers ≡ true
unfolding within_limits table_limits
rules_within L s rules =
    let W : Within L s = (rules_from L s rules).0 in
    and_both (all_within (chart_limits L) s.numbers.tables) (counters_within L s.numbers) (within_first (chart_limits L) (open_limits L) s.numbers.tables W.tables) W.counters

-- WHAT AN ACCEPTED CALL LEAVES IS WITHIN THE LIMITS.
pub accepted_within : AcceptedWithin
accepted_within L x p c short e =
    let A : Asked L x p c = asked_both L x p c (λ f. omega (arith, e, f)) (λ f. omega (arith, e, f)) in
    let a : Answer = call L x p c in
    rules_within L (store_of a.lent a.position) (rules_of L a.lent a.position (stays_in_order L x p c short A.long A.order).1)
