use Rattle.printing.specs.Put.{Begun}
use lib.ListN.{drop}
use Rattle.listing.specs.Listing.{transitions_from}
use Rattle.listing.proofs.put_transitions.Given as goal

abbrev pub invariant-loop-row : goal.invariant-loop-row
invariant-loop-row l = Begun l.initial.page l.page (transitions_from l.members (drop l.row-index l.transitions)) (transitions_from l.members l.transitions)
