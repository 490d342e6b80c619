use Rattle.printing.proofs.Laws.{put_is, put_then}
use Rattle.printing.specs.Lines.{line, escaped}
use Rattle.definition.specs.Text.{str}
use Rattle.definition.specs.Rows.{text_at, cell_at}
use Rattle.listing.specs.Listing.{state_lines, name_of}
use mathlib.Core.List.{List}
use mathlib.Core.Path.{ap}
use Prim.Native.Nat.{ℕ}
use Rattle.listing.proofs.put_state.Goals as goal

pub returns : goal.returns
unfolding state_lines name_of text_at cell_at str
returns c = put_then (put_then (put_then (put_then (put_then c.put_cell_line.ensures (put_is (ap (λ (w : List ℕ). line (str "name=") (escaped w)) c.text_from-name.ensures) c.put_name_line.ensures)) c.put_cell_line-2.ensures) c.put_cell_line-3.ensures) c.put_cell_line-4.ensures) c.put_list_line.ensures
