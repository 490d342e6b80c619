use Rattle.std.proofs.Common.{List, Option, Some, None, ◌≡◌, ◌∙◌, refl, sym, subst, arith}
use Rattle.definition.specs.Codes.{kind_code, tag_number, key_code}
use Rattle.definition.specs.Text.{str}
use Rattle.parts.specs.declared.Part.{Part}
use Rattle.parts.specs.Walked.{Pair}
use Rattle.parts.specs.Parts.{next_of, pairs_of, pair_of, walked_by, made_by}
use Rattle.parts.proofs.PairLaws.{pairs_set}
use Rattle.walk.specs.Views.{lined, no_number}
use Rattle.walk.specs.Stream.{Reached, made}
use Rattle.walk.proofs.StepLaws.{key_lost, key_within, value_lost, pairs_full, pair_reached, pair_further}
use Rattle.walk.proofs.walk_pairs.Goals as goal

no_five : (o : Option Part) → next_of o ≡ 5 → ⊥
no_five None e = omega (arith, e)
no_five (Some p) e = omega (arith, e)

pub loop-kind-init : goal.loop-kind-init
loop-kind-init c = (
  c.requires.next_nonzero,
  subst (λ (ps : List Pair). Reached c.args.stream.now c.args.n.next (made (kind_code c.args.kind) (tag_number c.args.n.what) c.args.n.part 0 ps)) (sym c.clear.ensures) c.requires.reached,
)

pub returns-in_err-k : goal.returns-in_err-k
unfolding str
returns-in_err-k c = rw c.from_residual.ensures (key_lost c.args.stream.now c.loop-kind.at (kind_code c.args.kind) (tag_number c.args.n.what) c.args.n.part c.loop-kind.count (pairs_of c.loop-kind.pairs) c.loop-kind.invariant.1 (sym c.begins.ensures ∙ c.loop-kind-test.true) (lined key_code None) c.in_err-k.ensures refl)

pub value_line-requires : goal.value_line-requires
unfolding str
value_line-requires c = key_within c.args.stream.now c.loop-kind.at (kind_code c.args.kind) (tag_number c.args.n.what) c.args.n.part c.loop-kind.count (pairs_of c.loop-kind.pairs) c.loop-kind.invariant.1 (sym c.begins.ensures ∙ c.loop-kind-test.true) (lined key_code (Some c.in_ok-k.k)) c.in_ok-k.ensures refl

pub returns-in_err-v : goal.returns-in_err-v
unfolding str
returns-in_err-v c = rw c.from_residual-in_err-v.ensures (value_lost c.args.stream.now c.loop-kind.at (kind_code c.args.kind) (tag_number c.args.n.what) c.args.n.part c.loop-kind.count (pairs_of c.loop-kind.pairs) c.loop-kind.invariant.1 (sym c.begins.ensures ∙ c.loop-kind-test.true) (lined key_code (Some c.in_ok-k.k)) c.in_ok-k.ensures refl (lined no_number None) c.in_err-v.ensures refl)

pub returns-then-count : goal.returns-then-count
unfolding str
returns-then-count c = pairs_full c.args.stream.now c.loop-kind.at (kind_code c.args.kind) (tag_number c.args.n.what) c.args.n.part c.loop-kind.count (pairs_of c.loop-kind.pairs) c.loop-kind.invariant.1 (sym c.begins.ensures ∙ c.loop-kind-test.true) (lined key_code (Some c.in_ok-k.k)) c.in_ok-k.ensures refl (lined no_number (Some c.in_ok-v.v)) c.in_ok-v.ensures refl c.if-count.true

pub loop-kind-smaller : goal.loop-kind-smaller
unfolding str
loop-kind-smaller c = let z = pair_further c.args.stream.now c.loop-kind.at (kind_code c.args.kind) (tag_number c.args.n.what) c.args.n.part c.loop-kind.count (pairs_of c.loop-kind.pairs) c.loop-kind.invariant.1 (sym c.begins.ensures ∙ c.loop-kind-test.true) (lined key_code (Some c.in_ok-k.k)) c.in_ok-k.ensures refl (lined no_number (Some c.in_ok-v.v)) c.in_ok-v.ensures refl in omega (arith, z.0, z.1)

pub loop-kind-preserved : goal.loop-kind-preserved
unfolding str
loop-kind-preserved c = pair_reached c.args.stream.now c.loop-kind.at (kind_code c.args.kind) (tag_number c.args.n.what) c.args.n.part c.loop-kind.count (pairs_of c.loop-kind.pairs) c.loop-kind.invariant.1 (sym c.begins.ensures ∙ c.loop-kind-test.true) (lined key_code (Some c.in_ok-k.k)) c.in_ok-k.ensures refl (lined no_number (Some c.in_ok-v.v)) c.in_ok-v.ensures refl c.if-count.false (pair_of c.new.result) c.new.ensures _ (pairs_set c.loop-kind.pairs c.loop-kind.count c.new.result)

pub returns-in_err-l : goal.returns-in_err-l
returns-in_err-l c = rw c.from_residual-in_err-l.ensures ((c.in_err-l.ensures (kind_code c.args.kind) (tag_number c.args.n.what) c.args.n.part c.loop-kind.count (pairs_of c.loop-kind.pairs) c.loop-kind.invariant.1).lost refl)

pub returns : goal.returns
unfolding walked_by made_by
returns c = let e = c.in_ok-l.ensures (kind_code c.args.kind) (tag_number c.args.n.what) c.args.n.part c.loop-kind.count (pairs_of c.loop-kind.pairs) c.loop-kind.invariant.1 in (e.whole (no_five c.in_ok-l.l.text), e.end (no_five c.in_ok-l.l.text))

pub key_line-requires-clause-stream_value : goal.key_line-requires-clause-stream_value
unfolding str
key_line-requires-clause-stream_value c = sym c.begins.ensures ∙ c.loop-kind-test.true

pub last_line-requires-clause-stream_value : goal.last_line-requires-clause-stream_value
unfolding str
last_line-requires-clause-stream_value c = sym c.begins.ensures ∙ c.loop-kind-test.false
