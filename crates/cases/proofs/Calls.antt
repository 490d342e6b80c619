-- Calls from made-up stores: one table, of which no row is wrong; lists of calls; and streams.
use mathlib.Core.Path.{◌≡◌, refl}
use mathlib.Core.List.{[]}
use Rattle.definition.specs.Stars.{wrong}
use Rattle.cases.specs.Made.{right}
use Rattle.cases.specs.Calls.{calls}
use Rattle.cases.specs.Readings.{run_right, runs}
use Rattle.cases.specs.Streams.{fed_right, streams}

pub none_wrong : wrong right 1 calls ≡ []
unfolding wrong right calls
none_wrong = refl

pub no_run_wrong : wrong run_right 1 runs ≡ []
unfolding wrong run_right runs
no_run_wrong = refl

pub no_stream_wrong : wrong fed_right 1 streams ≡ []
unfolding wrong fed_right streams
no_stream_wrong = refl
