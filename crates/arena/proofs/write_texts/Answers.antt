use Rattle.arena.proofs.StoreLaws.{ended, arena_short, names_asked, all_stored}
use Rattle.plain.specs.Plain.{parsed_in}
use native.Mathlib.Omega.{arith}
use Rattle.arena.proofs.write_texts.Goals as goal

pub texts_of-requires : goal.texts_of-requires
texts_of-requires c = (c.requires.0, ended c.requires.1 c.append_event-e.ensures.value c.append_event-e.ensures.text_after)

pub write_words-next-requires : goal.write_words-next-requires
write_words-next-requires c = (omega (arith, c.requires.1.members), arena_short c.requires.1 c.append_event-e.ensures.value c.append_event-e.ensures.text_after c.leading-arena.ensures)

pub write_names-named-requires : goal.write_names-named-requires
unfolding parsed_in
write_names-named-requires c =
    let r =
    names_asked c.requires.1 c.append_event-e.ensures.value c.append_event-e.ensures.text_after c.leading-arena.ensures c.texts_of.ensures c.write_words-next.ensures.value
    c.write_words-next.ensures.members_after in
    rw (c.number.ensures, c.number-2.ensures) (record { name_room = r.0; own_in = r.1 })

pub returns : goal.returns
unfolding parsed_in
returns c =
    all_stored c.requires.1 c.append_event-e.ensures.value c.append_event-e.ensures.text_after c.leading-arena.ensures c.texts_of.ensures c.write_words-next.ensures.value
    c.write_words-next.ensures.members_after (rw (c.number.ensures, c.number-2.ensures) at (rw c.owner_of.ensures at c.write_names-named.ensures))
