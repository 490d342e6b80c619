use Rattle.std.proofs.Common.{Bool, Option, Some, None, ◌≡◌, ap, ap₂, ◌∙◌, ◌&&◌, refl, unwrap_or, get_or, take, arith}
use Rattle.parts.specs.declared.Part.{Part}
use Rattle.parts.specs.declared.Pair as code
use Rattle.parts.specs.Parts.{part_at, pair_of, pairs_of, text_of}
use Rattle.parts.proofs.PairLaws.{pairs_length, pairs_at}
use Rattle.event.specs.Described.{described_by}
use Rattle.plain.specs.Plain.{slot_of, span_of, is_plain, all_plain}
use Rattle.plain.proofs.Laws.{filling_start, filling_more, filled, filled_plain, plainly_is}
use Rattle.plain.proofs.plain_of.Goals as goal

abbrev none_pair : code.Pair
none_pair = record { code = None; key = part_at 0 0 0; value = part_at 0 0 0 }

-- The text that is there, or none.
given_is : (o : Option Part) (z r : Part) → z ≡ part_at 0 0 0 → r ≡ unwrap_or o z → r ≡ text_of o
given_is None z r e f = f ∙ e
given_is (Some t) z r e f = f

pub loop-i-init : goal.loop-i-init
loop-i-init c = filling_start (pairs_of c.args.pairs.now) c.args.d.count (pairs_length c.args.pairs.now ∙ omega arith) _ _ refl

pub loop-i-preserved : goal.loop-i-preserved
unfolding pair_of slot_of
loop-i-preserved c =
    filling_more (pairs_of c.args.pairs.now) c.args.d.count (pairs_length c.args.pairs.now ∙ omega arith) (c.is_plain_part.result && c.is_plain_part-2.result) c.loop-i.slots c.loop-i.plain c.loop-i.i c.loop-i.invariant (omega arith) (pair_of (get_or c.args.pairs.now c.loop-i.i none_pair)) (pairs_at c.args.pairs.now c.loop-i.i none_pair (omega arith))
    _ c.slot_of.ensures _ c.is_plain_part-plain.ensures

pub returns-clause-plain : goal.returns-clause-plain
unfolding described_by
returns-clause-plain c =
    filled_plain (pairs_of c.args.pairs.now) c.args.d.count (pairs_length c.args.pairs.now ∙ omega arith) (c.is_plain_part.result && c.is_plain_part-2.result) c.loop-i.slots c.loop-i.plain c.loop-i.i c.loop-i.invariant (omega arith)
    ∙ ap₂ (λ (x y : Bool). (x && y) && all_plain (take c.args.d.count (pairs_of c.args.pairs.now))) c.is_plain_part.ensures (c.is_plain_part-2.ensures ∙ ap is_plain (given_is c.args.d.text c.no_part.result c.unwrap_or-given.result c.no_part.ensures c.unwrap_or-given.ensures))
    ∙ plainly_is (described_by c.args.d c.args.pairs.now)

pub returns-clause-parts : goal.returns-clause-parts
unfolding described_by
returns-clause-parts c =
    record {
      kind = refl;
      tag = refl;
      count = refl;
      name = c.slot_of-name.ensures;
      text = c.slot_of-2.ensures ∙ ap (span_of 0) (given_is c.args.d.text c.no_part.result c.unwrap_or-given.result c.no_part.ensures c.unwrap_or-given.ensures);
      slots = filled (pairs_of c.args.pairs.now) c.args.d.count (pairs_length c.args.pairs.now ∙ omega arith) (c.is_plain_part.result && c.is_plain_part-2.result) c.loop-i.slots c.loop-i.plain c.loop-i.i c.loop-i.invariant (omega arith);
    }
