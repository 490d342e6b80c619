use Rattle.printing.proofs.Laws.{put_is}
use Rattle.printing.proofs.page.Page.put_number.Goals as goal

pub returns : goal.returns
returns c = put_is c.put_digits.ensures c.put_bytes.ensures
