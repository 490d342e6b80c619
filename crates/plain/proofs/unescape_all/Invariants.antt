use Rattle.plain.proofs.CopyLaws.{Copying}
use Rattle.plain.specs.Plain.{slot_bytes}
use Rattle.parts.specs.Parts.{pairs_of}
use lib.ListN.{length}
use Rattle.plain.proofs.unescape_all.Given as goal

abbrev pub invariant-loop-i : goal.invariant-loop-i
invariant-loop-i l = Copying l.raw (pairs_of l.pairs) l.d.count (length l.initial.out) l.name l.text (slot_bytes l.initial.out l.name) (slot_bytes l.initial.out l.text) l.out l.slots l.pos l.i
