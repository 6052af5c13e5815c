-- Twin of Setup, pinned by values SetupClaim.
-- Which refusal a set-up meets, computed: the twin of `First (setup_conditions s)`.
use mathlib.Core.{Path.{◌≡◌}, Bool.{Bool, ◌&&◌}, Option.{Option}, List.{List}}
use Rattle.std.specs.Prelude.{ℕ, ◌*◌, ◌≤◌}
use lib.{Dec.{leb, ltb, eqb}, ListN.{length, get_or}}
use Rattle.limits.specs.Limits.{event_limit, value_limit, line_limit}
use Rattle.refusal.specs.{declared.Refusal.{Refusal}, RefusalAnswers.{or_else, plain_unless}}
use Rattle.theory.specs.ValueSetTests.{every, lawful}
use Rattle.values.specs.{declared.ValueKind.{ValueKind}, declared.ValueKind.TheVariants.{Numbered, Register}, Setup.{Setup}}
use Rattle.refusal.specs.declared.Refusal.TheVariants.{SetupEvents, SetupLines, SetupMeet, SetupValues}

-- A test for each condition: it fails where the condition is met.
unfoldable pub events_test : ℕ → Bool
events_test events = leb 1 events && leb events event_limit

unfoldable pub values_test : ℕ → ℕ → Bool
values_test values top = leb 1 values && (leb values value_limit && ltb top values)

unfoldable pub entries_test : ℕ → List ℕ → Bool
entries_test values meet = every (length meet) (λ i. ltb (get_or meet i 0) values)

unfoldable pub meet_test : ℕ → ℕ → List ℕ → Bool
meet_test values top meet = eqb (length meet) (values * values) && (entries_test values meet && lawful values meet top)

unfoldable pub lines_test : ℕ → Bool
lines_test lines = leb 1 lines && leb lines line_limit

-- The first that fails.
unfoldable pub kind_refusal : ValueKind → ℕ → List ℕ → Option Refusal
kind_refusal (Numbered values) top meet = or_else (plain_unless (values_test values top) SetupValues) (plain_unless (meet_test values top meet) SetupMeet)
kind_refusal (Register lines) top meet = plain_unless (lines_test lines) SetupLines

unfoldable pub setup_refusal : Setup → Option Refusal
setup_refusal s = or_else (plain_unless (events_test s.events) SetupEvents) (kind_refusal s.kind s.top s.meet)

-- What the private tests of the laws ask of a table: at most 16 values, and whole.
pub record Square (values : ℕ) (meet : List ℕ) : Type 0 where
  pub small : values ≤ value_limit
  pub whole : length meet ≡ values * values
