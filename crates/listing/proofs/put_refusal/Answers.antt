use borrow.Author.Rules.{rules}
use Rattle.printing.proofs.Laws.{put_then}
use Rattle.definition.specs.Text.{str}
use Rattle.listing.specs.Listing.{refusal}
use Rattle.listing.proofs.Laws.{printed}
use Rattle.listing.proofs.put_refusal.Goals as goal

pub returns-clause-out_after : goal.returns-clause-out_after
unfolding refusal str
returns-clause-out_after c = printed (put_then c.put_cell_line.ensures c.put_number_line.ensures) c.new-page.ensures.empty (search rules)
