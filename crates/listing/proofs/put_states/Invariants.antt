use Rattle.printing.specs.Put.{Begun}
use Prim.Native.Nat.{suc}
use lib.ListN.{drop}
use Rattle.listing.specs.Listing.{states_from}
use Rattle.listing.proofs.put_states.Given as goal

abbrev pub invariant-loop-i : goal.invariant-loop-i
invariant-loop-i l = Begun l.initial.page l.page (states_from l.text l.members (suc l.i) (drop l.i l.states)) (states_from l.text l.members 1 l.states)
