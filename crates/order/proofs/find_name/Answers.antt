use native.Mathlib.Omega.{arith}
use mathlib.Core.Path.{◌≡◌, refl, sym, ◌∙◌}
use mathlib.Core.Bool.{false}
use Rattle.definition.specs.Text as T
use Rattle.order.specs.Hash.{name_of}
use Rattle.order.proofs.Laws.{find_here, find_more, find_end, hash_differs}
use Rattle.order.proofs.find_name.Goals as goal
use Rattle.order.proofs.find_name.Goals.{else-hashes-i-via-then-hashes-i+else-same, else-hashes-i-via-else-hashes-i}

pub returns-then-same : goal.returns-then-same
returns-then-same c =
    let named : c.same.result ≡ T.same (name_of c.args.text.now c.args.states.now c.loop-i.i) c.args.name.now = rw (← c.text_from.ensures) c.same.ensures in
    sym (c.loop-i.invariant ∙ omega (arith, find_here c.args.text.now c.args.states.now c.loop-i.i c.loop-i-test.true c.args.name.now named c.if-same.true))

pub loop-i-preserved : goal.loop-i-preserved
loop-i-preserved c =
    let other : false ≡ T.same (name_of c.args.text.now c.args.states.now c.loop-i.i) c.args.name.now =
    elim c.else-hashes-i.branch [
      | else-hashes-i-via-then-hashes-i+else-same w ↦ sym w.if-same.false ∙ rw (← w.text_from.ensures) w.same.ensures
      | else-hashes-i-via-else-hashes-i w ↦ hash_differs _ _ (c.requires.hashed.right c.loop-i.i c.loop-i-test.true) c.requires.h_value w.if-hashes-i.false
    ] in
    c.loop-i.invariant ∙ omega (arith, find_more c.args.text.now c.args.states.now c.loop-i.i c.loop-i-test.true c.args.name.now other refl)

pub returns : goal.returns
returns c = omega (arith, find_end c.args.text.now c.args.states.now c.loop-i.i c.args.name.now c.loop-i-test.false, c.loop-i.invariant)
