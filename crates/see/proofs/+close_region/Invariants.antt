use lib.ListN.{length}
use Rattle.see.proofs.+close_region.Given as goal

abbrev pub decreases-close_region : goal.decreases-close_region
decreases-close_region l = length l.open_regions.now
