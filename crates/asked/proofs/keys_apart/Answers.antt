use mathlib.Core.Path.{ap}
use Rattle.definition.specs.Codes.{tag_number}
use Rattle.definition.specs.declared.codes.Tag.TheVariants as T
use Rattle.plain.specs.Plain.{parsed_in}
use Rattle.plain.proofs.Codes.{tag_apart}
use Rattle.asked.specs.Asked.{there}
use Rattle.asked.proofs.AskedLaws.{apart_send, apart_cancel, apart_param, apart_other}
use Rattle.asked.proofs.keys_apart.Goals as goal

pub returns-in-Send : goal.returns-in-Send
returns-in-Send c = apart_send (there (parsed_in c.args.event.now.src.now c.args.event.now.plain.now)) (tag_number c.args.event.now.plain.now.tag) (ap tag_number c.in-Send.is) _ _ _ _ c.not_both.ensures c.not_both-in-Send.ensures c.not_both-in-Send-2.ensures c.not_both-in-Send-3.ensures

pub returns-in-Cancel : goal.returns-in-Cancel
returns-in-Cancel c = apart_cancel (there (parsed_in c.args.event.now.src.now c.args.event.now.plain.now)) (tag_number c.args.event.now.plain.now.tag) (ap tag_number c.in-Cancel.is) _ c.not_both-in-Cancel.ensures

pub returns-in-Param : goal.returns-in-Param
returns-in-Param c = apart_param (there (parsed_in c.args.event.now.src.now c.args.event.now.plain.now)) (tag_number c.args.event.now.plain.now.tag) (ap tag_number c.in-Param.is) _ c.not_both-in-Param.ensures

pub returns-in_default : goal.returns-in_default
returns-in_default c = apart_other (there (parsed_in c.args.event.now.src.now c.args.event.now.plain.now)) (tag_number c.args.event.now.plain.now.tag) (tag_apart c.args.event.now.plain.now.tag T.Send c.in_default.not-Send) (tag_apart c.args.event.now.plain.now.tag T.Cancel c.in_default.not-Cancel) (tag_apart c.args.event.now.plain.now.tag T.Param c.in_default.not-Param)
