-- Twin of Store, pinned by recorder_claims ToolTestClaim.
-- Refusal 17, computed: tests that fail where it is met.
use mathlib.Core.{Bool.{Bool, true, false, ◌&&◌}, Option.{Option, none, some}}
use Rattle.std.specs.Prelude.{ℕ, ltb, leb}
use Rattle.channel_log.specs.Distance.{Wheel, Occurrence}
use Rattle.limits.specs.Limits.{channel_limit, table_limit, turn_limit, total_limit}
use Rattle.theory.specs.{MealyMachine.{Machine}, ValueSetTests.{every}}
use Rattle.refusal.specs.{declared.Refusal.{Refusal}, RefusalAnswers.{or_else, plain_unless}, declared.Refusal.TheVariants.{SetupWheel}}
use Rattle.values.specs.{declared.ValueKind.{ValueKind}, ValueTests.{value_fits}, SetupTests.{setup_refusal}}
use Rattle.channel_log.specs.Calls.{Call, load, event, restart, restart_all, clear, Loaded}
use Rattle.recorder.specs.Store.{Store, ToolSetup, tool_setup_of, channels}

abbrev pub passed : Option Refusal → Bool
passed none = true
passed (some r) = false

-- 18, and 1 to 3, or 1 and 20, before it.
unfoldable pub turn_test : ℕ → Bool
turn_test n = leb 1 n && leb n turn_limit

unfoldable pub wheel_test : Wheel → Bool
wheel_test wheel = turn_test wheel.pulses && turn_test wheel.millimetres

unfoldable pub tool_setup_refusal : ToolSetup → Option Refusal
tool_setup_refusal s = or_else (setup_refusal s.values) (plain_unless (wheel_test s.wheel) SetupWheel)

unfoldable pub setup_test : ToolSetup → Bool
setup_test s = passed (tool_setup_refusal s)

-- The entries of a table of k states are in range.
unfoldable pub entries_test : ℕ → ValueKind → ℕ → Machine ℕ ℕ → Bool
entries_test events kind k m = every k (λ l. every events (λ e. value_fits kind (m.value l e) && ltb (m.next l e) k))

unfoldable pub loaded_test : ℕ → ValueKind → Loaded ℕ → Bool
loaded_test events kind x =
    ltb 0 x.states && (leb x.states table_limit
    && (ltb x.current x.states && (leb x.total total_limit && entries_test events kind x.states x.table)))

abbrev pub channel_test : ℕ → ValueKind → Option (Loaded ℕ) → Bool
channel_test events kind none = true
channel_test events kind (some x) = loaded_test events kind x

-- The test of one channel, and of those that 17 looks at: the named one, or all.
abbrev pub test_of : Store → ℕ → Bool
test_of t c = channel_test t.setup.events t.setup.kind (channels t c)

abbrev pub named_test : Store → Call Occurrence → Bool
named_test t (load c r) = test_of t c
named_test t (event c i) = test_of t c
named_test t (restart c) = test_of t c
named_test t restart_all = every channel_limit (test_of t)
named_test t (clear c) = test_of t c

abbrev pub tool_test : Store → Call Occurrence → Bool
tool_test t call = setup_test (tool_setup_of t) && named_test t call
