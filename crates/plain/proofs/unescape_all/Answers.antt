use Rattle.plain.proofs.CopyLaws.{name_small, text_fits_lem, text_small, copying_start, size_end, parsed_all, copy_fits, copy_small, copying_more, copied_all}
use Rattle.std.proofs.Common.{None, get_or}
use Rattle.parts.specs.declared.Pair as code
use Rattle.parts.specs.Parts.{part_at, pair_of, pairs_of}
use Rattle.parts.proofs.PairLaws.{pairs_length, pairs_at}
use Rattle.event.specs.Described.{described_by}
use mathlib.Core.Path.{refl, ◌∙◌}
use native.Mathlib.Omega.{arith}
use Rattle.plain.proofs.unescape_all.Goals as goal

abbrev none_pair : code.Pair
none_pair = record { code = None; key = part_at 0 0 0; value = part_at 0 0 0 }

pub copy_part-first-requires : goal.copy_part-first-requires
unfolding described_by
copy_part-first-requires c = omega (arith, c.requires.fits)

pub slot_at-name-requires : goal.slot_at-name-requires
unfolding described_by
slot_at-name-requires c = name_small c.args.raw.now (described_by c.args.d c.args.pairs.now) c.args.out.now c.requires c.text_of-dt.result c.text_of-dt.ensures c.copy_part-first.new.out c.copy_part-first.result c.copy_part-first.ensures.out_after c.copy_part-first.ensures.value

pub copy_part-second-requires : goal.copy_part-second-requires
unfolding described_by
copy_part-second-requires c = text_fits_lem c.args.raw.now (described_by c.args.d c.args.pairs.now) c.args.out.now c.requires c.text_of-dt.result c.text_of-dt.ensures c.copy_part-first.new.out c.copy_part-first.result c.copy_part-first.ensures.out_after c.copy_part-first.ensures.value

pub slot_at-text-requires : goal.slot_at-text-requires
unfolding described_by
slot_at-text-requires c = text_small c.args.raw.now (described_by c.args.d c.args.pairs.now) c.args.out.now c.requires c.text_of-dt.result c.text_of-dt.ensures c.copy_part-first.new.out c.copy_part-first.result c.copy_part-first.ensures.out_after c.copy_part-first.ensures.value c.slot_at-name.result c.slot_at-name.ensures c.copy_part-second.new.out c.copy_part-second.result c.copy_part-second.ensures.out_after c.copy_part-second.ensures.value

pub loop-i-init : goal.loop-i-init
unfolding described_by
loop-i-init c = copying_start c.args.raw.now (described_by c.args.d c.args.pairs.now) c.args.out.now c.requires c.text_of-dt.result c.text_of-dt.ensures c.copy_part-first.new.out c.copy_part-first.result c.copy_part-first.ensures.out_after c.copy_part-first.ensures.value c.slot_at-name.result c.slot_at-name.ensures c.copy_part-second.new.out c.copy_part-second.result c.copy_part-second.ensures.out_after c.copy_part-second.ensures.value c.slot_at-text.result c.slot_at-text.ensures _ refl

pub copy_part-end-requires : goal.copy_part-end-requires
unfolding pair_of
copy_part-end-requires c = copy_fits c.args.raw.now (pairs_of c.args.pairs.now) c.args.d.count (pairs_length c.args.pairs.now ∙ omega arith) _ _ _ _ _ c.loop-i.out c.loop-i.slots c.loop-i.pos c.loop-i.i c.loop-i.invariant (pair_of (get_or c.args.pairs.now c.loop-i.i none_pair)) (pairs_at c.args.pairs.now c.loop-i.i none_pair (omega arith)) (omega arith)

pub slot_at-requires : goal.slot_at-requires
unfolding pair_of
slot_at-requires c = copy_small c.args.raw.now (pairs_of c.args.pairs.now) c.args.d.count (pairs_length c.args.pairs.now ∙ omega arith) _ _ _ _ _ c.loop-i.out c.loop-i.slots c.loop-i.pos c.loop-i.i c.loop-i.invariant (pair_of (get_or c.args.pairs.now c.loop-i.i none_pair)) (pairs_at c.args.pairs.now c.loop-i.i none_pair (omega arith)) (omega arith) c.copy_part-end.result c.copy_part-end.ensures.value

pub loop-i-preserved : goal.loop-i-preserved
unfolding pair_of
loop-i-preserved c =
    copying_more c.args.raw.now (pairs_of c.args.pairs.now) c.args.d.count (pairs_length c.args.pairs.now ∙ omega arith) _ _ _ _ _ c.loop-i.out c.loop-i.slots c.loop-i.pos c.loop-i.i c.loop-i.invariant (pair_of (get_or c.args.pairs.now c.loop-i.i none_pair)) (pairs_at c.args.pairs.now c.loop-i.i none_pair (omega arith)) (omega arith) _ _ _ _ refl c.copy_part-end.ensures.out_after c.copy_part-end.ensures.value
    c.slot_at.ensures

pub shape_of-out : goal.shape_of-out
unfolding described_by
shape_of-out c = size_end c.args.raw.now (described_by c.args.d c.args.pairs.now) c.args.out.now c.requires c.text_of-dt.result c.text_of-dt.ensures c.copy_part-first.new.out c.copy_part-first.result c.copy_part-first.ensures.out_after c.copy_part-first.ensures.value c.slot_at-name.result c.slot_at-name.ensures c.copy_part-second.new.out c.copy_part-second.result c.copy_part-second.ensures.out_after c.copy_part-second.ensures.value c.slot_at-text.result c.slot_at-text.ensures c.loop-i.out c.loop-i.slots c.loop-i.pos c.loop-i.i c.loop-i.invariant

pub returns : goal.returns
unfolding described_by
returns c =
    parsed_all c.args.raw.now (described_by c.args.d c.args.pairs.now) c.args.out.now c.requires c.text_of-dt.result c.text_of-dt.ensures c.copy_part-first.new.out c.copy_part-first.result c.copy_part-first.ensures.out_after c.copy_part-first.ensures.value c.slot_at-name.result c.slot_at-name.ensures c.copy_part-second.new.out c.copy_part-second.result c.copy_part-second.ensures.out_after c.copy_part-second.ensures.value c.slot_at-text.result c.slot_at-text.ensures c.loop-i.out c.loop-i.slots c.loop-i.pos c.loop-i.i c.loop-i.invariant (copied_all c.args.raw.now (pairs_of c.args.pairs.now) c.args.d.count (pairs_length c.args.pairs.now ∙ omega arith) _ _ _ _ _ c.loop-i.out c.loop-i.slots c.loop-i.pos c.loop-i.i c.loop-i.invariant (omega arith)) c.args.d.kind refl c.args.d.tag refl
