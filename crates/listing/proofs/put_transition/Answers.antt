use Rattle.printing.proofs.Laws.{put_then}
use Rattle.definition.specs.Text.{str}
use Rattle.listing.specs.Listing.{transition_lines}
use Rattle.listing.proofs.put_transition.Goals as goal

pub returns : goal.returns
unfolding transition_lines str
returns c = put_then (put_then (put_then (put_then (put_then c.put_cell_line.ensures c.put_cell_line-2.ensures) c.put_list_line.ensures) c.put_type_line.ensures) c.put_cell_line-3.ensures) c.put_cell_line-4.ensures
