use Rattle.wordlists.proofs.Laws.{Listing}
use lib.ListN.{length}
use Prim.Native.Nat.{◌-◌}
use Rattle.definition.specs.Codes.{list_number}
use Rattle.wordlists.proofs.add_words.Given as goal

abbrev pub invariant-loop-at : goal.invariant-loop-at
invariant-loop-at l = Listing l.initial.members l.used l.v l.base (list_number l.p.list) l.p.owner l.events l.members l.m l.at

abbrev pub decreases-loop-at : goal.decreases-loop-at
decreases-loop-at l = length l.v - l.at
