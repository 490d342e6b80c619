use Rattle.std.proofs.Common.{◌≡◌, ◌≤◌, length, take}
use Rattle.names.proofs.LikeLaws.{Ending}
use Rattle.names.proofs.ApartLaws.{Without}
use Rattle.names.proofs.find_last.Given as goal

abbrev pub invariant-loop-k : goal.invariant-loop-k
invariant-loop-k l =
    record {
      short : length l.rest ≤ length l.states;
      cut : l.rest ≡ take (length l.rest) l.states;
      without : Without l.states l.text l.w (length l.rest);
      ending : Ending l.text l.w l.start l.before l.last l.tail;
    }

abbrev pub decreases-loop-k : goal.decreases-loop-k
decreases-loop-k l = length l.rest
