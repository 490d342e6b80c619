-- What is claimed of lists of calls that begin in order: every store on the way keeps the rules, and what an accepted call leaves is within the limits.
use Rattle.std.specs.Prelude.{◌≡◌, true, List, [], ◌∷◌, leb}
use Rattle.definition.specs.declared.Limits.{Limits}
use Rattle.definition.specs.declared.Position.{Position}
use Rattle.definition.specs.Rules.{within_limits, keeps_rules}
use Rattle.definition.specs.Reader.{Lent, store_of, Call, Answer, call, run, long_enough, in_order}

-- P holds of every answer.
unfoldable pub Every : (Answer → Type 0) → List Answer → Type 0
Every P [] = Unit {0}
Every P (a ∷ as₁) = P a × Every P as₁

-- Every answer of a run leaves a store that keeps the rules.
abbrev pub RunKeepsRules : Type 0
RunKeepsRules =
    (L : Limits) (x : Lent) (p : Position) (cs : List Call) → leb L.name 64 ≡ true → long_enough L x ≡ true → in_order L x p ≡ true
    → Every (λ (a : Answer). keeps_rules L (store_of a.lent a.position) ≡ true) (run L x p cs)

-- What an accepted call leaves is within the limits.
abbrev pub AcceptedWithin : Type 0
AcceptedWithin =
    (L : Limits) (x : Lent) (p : Position) (c : Call) → leb L.name 64 ≡ true → (call L x p c).number ≡ 0
    → within_limits L (store_of (call L x p c).lent (call L x p c).position).numbers ≡ true
