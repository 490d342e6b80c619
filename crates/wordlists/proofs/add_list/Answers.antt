use Rattle.wordlists.proofs.ListLaws.{nothing_added, no_text, far_text, some_text, text_room, as_cells}
use native.Mathlib.Omega.{arith}
use mathlib.Core.Path.{refl}
use Rattle.wordlists.proofs.add_list.Goals as goal

pub returns-then-c-eq0 : goal.returns-then-c-eq0
returns-then-c-eq0 c = let r = nothing_added c.args.used c.args.members.now c.args.p _ (no_text c.args.events c.args.text.now c.args.c c.if-c-eq0.true) in record { value = r.0; members_after = r.1 }

pub returns-then-text-base : goal.returns-then-text-base
returns-then-text-base c = let r = nothing_added c.args.used c.args.members.now c.args.p _ (far_text c.args.events c.args.text.now c.args.c _ c.if-c-eq0.false refl c.if-text-base.true) in record { value = r.0; members_after = r.1 }

pub add_words-requires : goal.add_words-requires
add_words-requires c = (c.requires.0, text_room c.args.events c.args.text.now c.args.c _ c.if-c-eq0.false refl _ c.text_from.ensures (omega (arith, c.if-text-base.false)) c.requires.1)

pub returns : goal.returns
returns c = let r = as_cells c.args.used _ c.args.members.now _ c.args.p _ _ (some_text c.args.events c.args.text.now c.args.c _ c.if-c-eq0.false refl _ c.text_from.ensures) (c.add_words.ensures.value, c.add_words.ensures.members_after) in record { value = r.0; members_after = r.1 }
