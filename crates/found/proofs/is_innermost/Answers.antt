use native.Mathlib.Omega.{arith}
use Rattle.std.proofs.Common.{◌-◌, [], length, sym}
use Rattle.found.proofs.FoundLaws.{got, lacking, inner_none, inner_short, inner_other, inner_tag, inner_name}
use Rattle.found.proofs.is_innermost.Goals as goal

pub returns-in_default : goal.returns-in_default
returns-in_default c = inner_none c.args.opened.now c.args.names.now c.args.tag c.args.name.now (sym c.in_default.ensures.value)

pub returns-in_default-get : goal.returns-in_default-get
returns-in_default-get c =
    inner_short c.args.opened.now c.args.names.now c.args.tag c.args.name.now (lacking c.args.names.now (length c.args.opened.now - 1) (omega (arith, c.in_default-get.ensures.lookup)))

pub returns-then-row-tag : goal.returns-then-row-tag
returns-then-row-tag c =
    inner_other c.args.opened.now c.args.names.now c.args.name.now c.in-Some.row.now c.in-Some-get.kept.now (sym c.in-Some.ensures.value)
    (got c.args.names.now (length c.args.opened.now - 1) _ c.in-Some-get.ensures.lookup.3.0 (c.in-Some-get.ensures.lookup.3.1 []))
    c.args.tag c.if-row-tag.true

pub returns-then-tag : goal.returns-then-tag
returns-then-tag c =
    inner_tag c.args.opened.now c.args.names.now c.args.name.now c.in-Some.row.now c.in-Some-get.kept.now (sym c.in-Some.ensures.value)
    (got c.args.names.now (length c.args.opened.now - 1) _ c.in-Some-get.ensures.lookup.3.0 (c.in-Some-get.ensures.lookup.3.1 []))
    c.args.tag c.if-row-tag.false c.if-tag.true

pub returns : goal.returns
returns c =
    inner_name c.args.opened.now c.args.names.now c.args.name.now c.in-Some.row.now c.in-Some-get.kept.now (sym c.in-Some.ensures.value)
    (got c.args.names.now (length c.args.opened.now - 1) _ c.in-Some-get.ensures.lookup.3.0 (c.in-Some-get.ensures.lookup.3.1 []))
    c.args.tag c.if-row-tag.false c.if-tag.false _ c.same_at.ensures
