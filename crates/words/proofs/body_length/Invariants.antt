use Rattle.std.proofs.Common.{◌≡◌, take}
use Rattle.definition.specs.Text.{body_length}
use Rattle.words.proofs.body_length.Given as goal

abbrev pub invariant-loop-i : goal.invariant-loop-i
invariant-loop-i l = body_length (take l.i l.w) ≡ body_length l.w
