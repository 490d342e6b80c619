use Rattle.std.proofs.Common.{List, ℕ, ap, ◌∙◌, sym, take}
use Rattle.std.proofs.Math.Seq.{length-take-le}
use Rattle.walk.specs.Walk.{walked}
use Rattle.walk.specs.Stream.{settled}
use Rattle.parts.specs.Parts.{walked_by}
use Rattle.event.specs.Described.{finished}
use Rattle.event.proofs.DescribeLaws.{end_within, cut_out, first_described, refused, accepted}
use Rattle.event.proofs.describe_next.Goals as goal

pub slice_bounds-head_of-end : goal.slice_bounds-head_of-end
slice_bounds-head_of-end c = sym (length-take-le c.walk_lines-x.result.end c.args.stream.now (end_within c.args.stream.now c.walk_lines-x.result.end c.walk_lines-x.ensures.end))

pub head_of-event-requires : goal.head_of-event-requires
head_of-event-requires c =
    record {
      heading_value = c.walk_lines-x.ensures.lines ∙ ap (λ (x : List ℕ). settled (walked x)) (sym (cut_out c.args.stream.now c.walk_lines-x.result.end c.walk_lines-x.ensures.end));
    }

pub returns-then-is_err-clause-event : goal.returns-then-is_err-clause-event
returns-then-is_err-clause-event c =
    refused c.head_of-event.result c.walk_lines-x.new.pairs (finished (take c.walk_lines-x.result.end c.args.stream.now) (walked_by c.walk_lines-x.result.walked c.walk_lines-x.new.pairs)) c.head_of-event.ensures (sym c.is_err.ensures.value ∙ c.if-is_err.true) c.clear.new.pairs c.clear.ensures
    ∙ first_described c.args.stream.now _ c.walk_lines-x.result.walked c.walk_lines-x.new.pairs c.walk_lines-x.ensures.lines (cut_out c.args.stream.now c.walk_lines-x.result.end c.walk_lines-x.ensures.end)

pub returns-else-is_err-clause-event : goal.returns-else-is_err-clause-event
returns-else-is_err-clause-event c =
    accepted c.head_of-event.result c.walk_lines-x.new.pairs (finished (take c.walk_lines-x.result.end c.args.stream.now) (walked_by c.walk_lines-x.result.walked c.walk_lines-x.new.pairs)) c.head_of-event.ensures (sym c.is_err.ensures.value ∙ c.if-is_err.false)
    ∙ first_described c.args.stream.now _ c.walk_lines-x.result.walked c.walk_lines-x.new.pairs c.walk_lines-x.ensures.lines (cut_out c.args.stream.now c.walk_lines-x.result.end c.walk_lines-x.ensures.end)
