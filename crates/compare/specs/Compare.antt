-- A stream's outcome by the definition, held to what the running Rust made of it; and every element in every parent. The tool tests/definition writes the cases.
use Rattle.std.specs.Prelude.{ℕ, zero, suc, Bool, true, ◌&&◌, List, [], ◌∷◌, eqb}
use Rattle.definition.specs.Limits.{limits01}
use Rattle.definition.specs.Text.{same}
use Rattle.definition.specs.Event.{events_of}
use Rattle.definition.specs.Rows.{Store, empty}
use Rattle.definition.specs.Reader.{event_reply}
use Rattle.definition.specs.Stars.{Fed, feed}
use Rattle.compare.specs.Dump.{dump}

-- ---- a stream

-- number: 0 where every event is taken; else the first refusal's, and event its place from 1.
pub record Outcome : Type 0 where
  pub number : ℕ
  pub event : ℕ
  pub chart : List ℕ

unfoldable pub chart_right : ℕ → Store → List ℕ → Bool
unfolding same dump
chart_right zero s d = same (dump s) d
chart_right (suc k) s d = true

unfoldable pub outcome_right : List (List ℕ) → Outcome → Bool
unfolding feed empty chart_right
outcome_right es x =
    let o : Fed = feed empty 0 es in
    eqb o.number x.number && eqb o.event x.event && chart_right o.number o.store x.chart

pub record Case : Type 0 where
  pub stream : List ℕ
  pub outcome : Outcome

unfoldable pub right : Case → Bool
unfolding outcome_right events_of
right c = outcome_right (events_of c.stream) c.outcome

-- A long stream comes as its events: to part it and to read them would be past the checker's step limit for one claim.
pub record Parted : Type 0 where
  pub events : List (List ℕ)
  pub outcome : Outcome

unfoldable pub parted_right : Parted → Bool
unfolding outcome_right
parted_right c = outcome_right c.events c.outcome

-- ---- a place

-- A way that is taken, and events that are tried after it, each by itself: the number of each.
pub record Place : Type 0 where
  pub way : List ℕ
  pub tried : List ℕ
  pub numbers : List ℕ

unfoldable pub numbers_after : Store → List (List ℕ) → List ℕ
unfolding event_reply
numbers_after s [] = []
numbers_after s (e ∷ es) = (event_reply limits01 s e).number ∷ numbers_after s es

unfoldable pub place_right : Place → Bool
unfolding feed events_of empty same numbers_after
place_right p =
    let o : Fed = feed empty 0 (events_of p.way) in
    eqb o.number 0 && same (numbers_after o.store (events_of p.tried)) p.numbers
