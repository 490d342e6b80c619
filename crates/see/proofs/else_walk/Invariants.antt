use Rattle.std.proofs.Common.{◌≡◌, ◌-◌}
use Rattle.see.specs.Scans.{walk_over}
use Rattle.see.proofs.else_walk.Given as goal

abbrev pub invariant-loop-step : goal.invariant-loop-step
invariant-loop-step l = walk_over (l.steps - l._step) l.entries l.at.0 ≡ walk_over l.steps l.entries l.initial.at.0
