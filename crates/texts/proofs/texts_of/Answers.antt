use Rattle.definition.specs.Codes.{kind_number, tag_number}
use Rattle.std.proofs.Common.{◌≡◌, ◌+◌, ◌-◌, ◌∙◌, ap, take, arith}
use Rattle.plain.specs.Plain.{loads_in, text_if}
use Rattle.fill.specs.Fill.{cell, as_cell}
use Rattle.texts.specs.Texts.{texts_in}
use Rattle.texts.specs.EventTexts.{trimmed_of}
use Rattle.texts.proofs.EventLaws.{ended_values, ended_text, ended_small, texts_all}
use Rattle.texts.proofs.texts_of.Goals as goal

pub value_texts-requires : goal.value_texts-requires
value_texts-requires c = ended_values c.args.src.now c.args.p.now c.args.base c.args.e c.requires.1

pub put_own-requires : goal.put_own-requires
put_own-requires c = ended_text c.args.src.now c.args.p.now c.args.base c.args.e c.requires.1 _ c.bytes_of-text.ensures.result_value

pub trimmed_cell-a-requires : goal.trimmed_cell-a-requires
trimmed_cell-a-requires c = ended_small c.args.src.now c.args.p.now c.args.base c.args.e c.requires.1 _ c.bytes_of-text.ensures.result_value

pub quoted_cell-q-requires : goal.quoted_cell-q-requires
quoted_cell-q-requires c = ended_text c.args.src.now c.args.p.now c.args.base c.args.e c.requires.1 _ c.bytes_of-text.ensures.result_value

pub trimmed_cell-c-requires : goal.trimmed_cell-c-requires
trimmed_cell-c-requires c = ended_small c.args.src.now c.args.p.now c.args.base c.args.e c.requires.1 _ c.bytes_of-text.ensures.result_value

pub returns : goal.returns
unfolding as_cell
returns c =
    let z : c.args.base - c.args.base ≡ 0 = omega arith in
    let empty = c.text_between-nothing.ensures ∙ ap (cell (c.args.base + 1)) z in
    texts_all c.args.src.now c.args.p.now c.args.base c.args.e c.requires.1 _ c.bytes_of-text.ensures.result_value c.args.made _ _ _ _ _ _ _
    (c.value_texts.ensures ∙ ap (texts_in c.args.base (loads_in c.args.src.now (take c.args.p.now.count c.args.p.now.slots))) c.requires.0) c.put_own.ensures c.put_made.ensures c.trimmed_cell-a.ensures
    c.quoted_cell-q.ensures (c.trimmed_cell-c.ensures ∙ ap (trimmed_of (tag_number c.args.p.now.tag) c.args.e.values (text_if (kind_number c.args.p.now.kind) c.bytes_of-text.result.now)) empty) c.close_texts.ensures
