-- Before and after the writing of an accepted event.
use Rattle.std.specs.Prelude.{◌≡◌}
use Rattle.definition.specs.declared.Position.{Position}
use Rattle.definition.specs.Reader.{Lent, store_of, lent_after, position_of}
use Rattle.plain.specs.Plain.{Parsed}
use Rattle.plan.specs.declared.Plan.{Plan}
use Rattle.whole.specs.Accepted.{Accepted, afterwards}

-- What is lent then, and the position, are those of the definition's store.
pub record Leaves (x : Lent) (p : Position) (v : Parsed) (q : Plan) (x' : Lent) (u : Position) : Type 0 where
  pub lent : (A : Accepted x p v q) → x' ≡ lent_after x (afterwards (store_of x p) A.event q)
  pub position : (A : Accepted x p v q) → u ≡ position_of (afterwards (store_of x p) A.event q)
