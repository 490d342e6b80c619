use borrow.Author.Tests.{eq-eqb, ne_eqb}
use Rattle.definition.specs.Actions.{type_of}
use Rattle.heard.proofs.type_of.Goals as goal

-- src/lib.rt:96:9
pub returns-then-code-eq1 : goal.returns-then-code-eq1
unfolding type_of
returns-then-code-eq1 c = rw (eq-eqb c.args.code 1 c.if-code-eq1.true, type_of)

-- src/lib.rt:92:1
pub returns : goal.returns
unfolding type_of
returns c = rw (ne_eqb c.args.code 1 c.if-code-eq1.false, type_of)
