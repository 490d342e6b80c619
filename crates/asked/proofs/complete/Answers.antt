use mathlib.Core.Logic.{inl, inr}
use mathlib.Core.Path.{refl, ap}
use Rattle.definition.specs.Codes.{tag_number}
use Rattle.definition.specs.declared.codes.Tag.TheVariants as T
use Rattle.plain.specs.Plain.{parsed_in}
use Rattle.plain.proofs.Codes.{tag_apart}
use mathlib.Core.List.{[], ◌∷◌}
use Rattle.definition.specs.Elements.{required_in, requirements}
use Rattle.asked.specs.Asked.{there, asked_in}
use Rattle.asked.proofs.AskedLaws.{all_one, all_two, all_either, all_none, keys_at, keys_none}
use Rattle.asked.proofs.complete.Goals as goal

pub returns-in-Data : goal.returns-in-Data
unfolding asked_in parsed_in required_in requirements
returns-in-Data c = all_one (there (parsed_in c.args.event.now.src.now c.args.event.now.plain.now)) (tag_number c.args.event.now.plain.now.tag) 1 (keys_at (tag_number c.args.event.now.plain.now.tag) 9 ((1 ∷ []) ∷ []) refl (ap tag_number c.in-Data.is)) _ c.has.ensures

pub returns-in-Param : goal.returns-in-Param
unfolding asked_in parsed_in required_in requirements
returns-in-Param c = all_one (there (parsed_in c.args.event.now.src.now c.args.event.now.plain.now)) (tag_number c.args.event.now.plain.now.tag) 3 (keys_at (tag_number c.args.event.now.plain.now.tag) 14 ((3 ∷ []) ∷ []) refl (ap tag_number c.in-Param.is)) _ c.has-in-Param.ensures

pub returns-in-Assign : goal.returns-in-Assign
unfolding asked_in parsed_in required_in requirements
returns-in-Assign c = all_one (there (parsed_in c.args.event.now.src.now c.args.event.now.plain.now)) (tag_number c.args.event.now.plain.now.tag) 27 (keys_at (tag_number c.args.event.now.plain.now.tag) 23 ((27 ∷ []) ∷ []) refl (ap tag_number c.in-Assign.is)) _ c.has-in-Assign.ensures

pub returns-in-Raise : goal.returns-in-Raise
unfolding asked_in parsed_in required_in requirements
returns-in-Raise c = all_one (there (parsed_in c.args.event.now.src.now c.args.event.now.plain.now)) (tag_number c.args.event.now.plain.now.tag) 14 (keys_at (tag_number c.args.event.now.plain.now.tag) 20 ((14 ∷ []) ∷ []) refl (ap tag_number c.in-Raise.is)) _ c.has-in-Raise.ensures

pub returns-in-Foreach : goal.returns-in-Foreach
unfolding asked_in parsed_in required_in requirements
returns-in-Foreach c = all_two (there (parsed_in c.args.event.now.src.now c.args.event.now.plain.now)) (tag_number c.args.event.now.plain.now.tag) (keys_at (tag_number c.args.event.now.plain.now.tag) 25 ((20 ∷ []) ∷ (21 ∷ []) ∷ []) refl (ap tag_number c.in-Foreach.is)) _ _ c.has-in-Foreach.ensures c.has-in-Foreach-2.ensures

pub returns-in-Cancel : goal.returns-in-Cancel
unfolding asked_in parsed_in required_in requirements
returns-in-Cancel c = all_either (there (parsed_in c.args.event.now.src.now c.args.event.now.plain.now)) (tag_number c.args.event.now.plain.now.tag) (keys_at (tag_number c.args.event.now.plain.now.tag) 21 ((23 ∷ 24 ∷ []) ∷ []) refl (ap tag_number c.in-Cancel.is)) _ _ c.has-in-Cancel.ensures c.has-in-Cancel-2.ensures

pub returns-in-If : goal.returns-in-If
unfolding asked_in parsed_in required_in requirements
returns-in-If c = elim c.in-If.is [ inl e ↦ all_one (there (parsed_in c.args.event.now.src.now c.args.event.now.plain.now)) (tag_number c.args.event.now.plain.now.tag) 16 (keys_at (tag_number c.args.event.now.plain.now.tag) 24 ((16 ∷ []) ∷ []) refl (ap tag_number e)) _ c.has-in-If.ensures | inr e ↦ all_one (there (parsed_in c.args.event.now.src.now c.args.event.now.plain.now)) (tag_number c.args.event.now.plain.now.tag) 16 (keys_at (tag_number c.args.event.now.plain.now.tag) 13 ((16 ∷ []) ∷ []) refl (ap tag_number e)) _ c.has-in-If.ensures ]

pub returns-in_default : goal.returns-in_default
unfolding asked_in parsed_in
returns-in_default c = all_none (there (parsed_in c.args.event.now.src.now c.args.event.now.plain.now)) (tag_number c.args.event.now.plain.now.tag) (keys_none (tag_number c.args.event.now.plain.now.tag) (tag_apart c.args.event.now.plain.now.tag T.Data c.in_default.not-Data) (tag_apart c.args.event.now.plain.now.tag T.Foreach c.in_default.not-Foreach) (tag_apart c.args.event.now.plain.now.tag T.If c.in_default.not-If) (tag_apart c.args.event.now.plain.now.tag T.Elseif c.in_default.not-Elseif) (tag_apart c.args.event.now.plain.now.tag T.Param c.in_default.not-Param) (tag_apart c.args.event.now.plain.now.tag T.Assign c.in_default.not-Assign) (tag_apart c.args.event.now.plain.now.tag T.Raise c.in_default.not-Raise) (tag_apart c.args.event.now.plain.now.tag T.Cancel c.in_default.not-Cancel))
