use mathlib.Core.Path.{refl, ap}
use Rattle.definition.specs.Codes.{tag_number}
use Rattle.definition.specs.declared.codes.Tag.TheVariants as T
use Rattle.plain.specs.Plain.{parsed_in}
use Rattle.plain.proofs.Codes.{tag_apart}
use mathlib.Core.Logic.{inl, inr}
use Rattle.definition.specs.Elements.{left_out_keys}
use Rattle.asked.specs.Asked.{there, asked_in}
use Rattle.asked.proofs.AskedLaws.{out_include, out_at, out_none}
use Rattle.asked.proofs.left_out.Goals as goal

pub returns-in-Include : goal.returns-in-Include
unfolding asked_in parsed_in
returns-in-Include c = out_include (there (parsed_in c.args.event.now.src.now c.args.event.now.plain.now)) (tag_number c.args.event.now.plain.now.tag) (ap tag_number c.in-Include.is)

pub returns-in-Data : goal.returns-in-Data
unfolding asked_in parsed_in left_out_keys
returns-in-Data c = elim c.in-Data.is [ inl e ↦ out_at (there (parsed_in c.args.event.now.src.now c.args.event.now.plain.now)) (tag_number c.args.event.now.plain.now.tag) 9 9 refl refl (ap tag_number e) _ c.has.ensures | inr e ↦ out_at (there (parsed_in c.args.event.now.src.now c.args.event.now.plain.now)) (tag_number c.args.event.now.plain.now.tag) 26 9 refl refl (ap tag_number e) _ c.has.ensures ]

pub returns-in-Send : goal.returns-in-Send
unfolding asked_in parsed_in left_out_keys
returns-in-Send c = out_at (there (parsed_in c.args.event.now.src.now c.args.event.now.plain.now)) (tag_number c.args.event.now.plain.now.tag) 19 25 refl refl (ap tag_number c.in-Send.is) _ c.has-in-Send.ensures

pub returns-in_default : goal.returns-in_default
unfolding asked_in parsed_in
returns-in_default c = out_none (there (parsed_in c.args.event.now.src.now c.args.event.now.plain.now)) (tag_number c.args.event.now.plain.now.tag) (tag_apart c.args.event.now.plain.now.tag T.Include c.in_default.not-Include) (tag_apart c.args.event.now.plain.now.tag T.Data c.in_default.not-Data) (tag_apart c.args.event.now.plain.now.tag T.Script c.in_default.not-Script) (tag_apart c.args.event.now.plain.now.tag T.Send c.in_default.not-Send)
