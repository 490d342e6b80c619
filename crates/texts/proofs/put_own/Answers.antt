use Rattle.std.proofs.Common.{ℕ, ap, ◌∙◌, ◌+◌, ◌-◌}
use Rattle.definition.specs.declared.codes.Kind.TheVariants as K
use Rattle.definition.specs.declared.codes.Tag.TheVariants as T
use Rattle.definition.specs.Codes.{kind_number, tag_number}
use Rattle.plain.proofs.Codes.{kind_agrees, kind_differs, tag_is, tag_not}
use Rattle.fill.specs.Fill.{cell}
use Rattle.texts.specs.Texts.{text_put}
use Rattle.texts.proofs.Laws.{put_between}
use Rattle.texts.proofs.EventLaws.{own_quoted, own_plain, own_none}
use Rattle.texts.proofs.put_own.Goals.{then-eq, else-eq}
use Rattle.texts.proofs.put_own.Goals as goal

pub returns-then-ne : goal.returns-then-ne
returns-then-ne c = own_none (kind_number c.args.kind) (tag_number c.args.tag) c.args.text.now c.args.e.values c.args.t.now (kind_differs c.args.kind K.Whole c.if-ne.ensures)

pub returns : goal.returns
returns c =
    let put = put_between c.if-eq.key c.args.e.values c.args.e.text _ _ _ c.text_between.ensures c.put_text.ensures in
    let whole = kind_agrees c.args.kind K.Whole c.if-ne.ensures in
    let by = λ (k : ℕ). text_put k (cell (c.args.e.values + 1) (c.args.e.text - c.args.e.values)) c.args.t.now in
    elim c.if-eq.branch [
      | then-eq w ↦
          own_quoted (kind_number c.args.kind) (tag_number c.args.tag) c.args.text.now c.args.e.values c.args.e.text c.args.t.now _ (put ∙ ap by w.key-is) c.requires.0 whole
          (tag_is c.args.tag T.Assign w.if-eq.ensures)
      | else-eq w ↦
          own_plain (kind_number c.args.kind) (tag_number c.args.tag) c.args.text.now c.args.e.values c.args.e.text c.args.t.now _ (put ∙ ap by w.key-is) c.requires.0 whole
          (tag_not c.args.tag T.Assign w.if-eq.ensures)
    ]
