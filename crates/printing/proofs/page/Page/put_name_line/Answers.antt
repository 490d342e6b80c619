use Rattle.printing.proofs.Laws.{line_put}
use Rattle.printing.proofs.page.Page.put_name_line.Goals as goal

pub returns : goal.returns
returns c = line_put c.put_bytes.ensures c.put_escaped.ensures c.put_bytes-2.ensures
