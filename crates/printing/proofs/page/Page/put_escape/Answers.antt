use Rattle.printing.proofs.Laws.{put_is, escape_line, escape_slash, escape_other}
use mathlib.Core.Path.{sym}
use Rattle.printing.proofs.page.Page.put_escape.Goals as goal

pub returns-then-b-eq10 : goal.returns-then-b-eq10
returns-then-b-eq10 c = put_is (sym (escape_line _ c.if-b-eq10.true)) c.put_bytes.ensures

pub returns-then-b-eq92 : goal.returns-then-b-eq92
returns-then-b-eq92 c = put_is (sym (escape_slash _ c.if-b-eq92.true)) c.put_bytes-then-b-eq92.ensures

pub returns : goal.returns
returns c = put_is (sym (escape_other _ c.if-b-eq10.false c.if-b-eq92.false)) c.put_bytes-2.ensures
