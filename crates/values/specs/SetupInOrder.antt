-- What an accepted set-up is.
use mathlib.Core.{Path.{◌≡◌}, List.{List}}
use Rattle.std.specs.Prelude.{ℕ, ◌*◌, ◌≤◌, length}
use Rattle.theory.specs.ValueSets.{MeetSemilattice}
use Rattle.limits.specs.Limits.{event_limit, value_limit, line_limit}
use Rattle.values.specs.{declared.ValueKind.{ValueKind}, declared.ValueKind.TheVariants.{Numbered, Register}}
use Rattle.values.specs.Setup.{Setup, SetupValue, setup_meet, setup_top}

-- What its values obey.
abbrev pub SetupLaws : Setup → Type 0
SetupLaws s = MeetSemilattice (SetupValue s) (setup_meet s) (setup_top s)

-- Its kind of values is within the limits, and the meet table of numbers is whole.
pub record NumbersInLimits (values : ℕ) (meet : List ℕ) : Type 0 where
  pub some_values : 1 ≤ values
  pub few_values : values ≤ value_limit
  pub whole : length meet ≡ values * values

pub record LinesInLimits (lines : ℕ) : Type 0 where
  pub some_lines : 1 ≤ lines
  pub few_lines : lines ≤ line_limit

abbrev pub KindInLimits : ValueKind → List ℕ → Type 0
KindInLimits (Numbered values) meet = NumbersInLimits values meet
KindInLimits (Register lines) meet = LinesInLimits lines

-- What an accepted set-up is: a meet-semilattice with that top, within the limits.
pub record AcceptedSetup (s : Setup) : Type 0 where
  pub some_events : 1 ≤ s.events
  pub few_events : s.events ≤ event_limit
  pub of_kind : KindInLimits s.kind s.meet
  pub laws : SetupLaws s
