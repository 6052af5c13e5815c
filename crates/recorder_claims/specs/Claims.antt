-- What is claimed of a tool: demand 3 and the independence of channels for the tool of every accepted set-up (document 01, "Tool"; document
-- 02, F-12), over the calls that the contracts state; the printed condition of 17; what a refused set-up hands back; a sequence of events.
use mathlib.Core.{Path.{◌≡◌}, Logic.{◌↔◌}, Bool.{true}, List.{List, map}, Option.{Option, none}}
use Rattle.std.specs.Prelude.{ℕ, ◌<◌, length}
use Rattle.limits.specs.Limits.{channel_limit, state_limit}
use Rattle.recorder_claims.specs.ChannelLog.{AsLogged, LoadedAs}
use Rattle.theory.specs.Formula.{Formula}
use Rattle.refusal.specs.{Refusal.{Condition, Judged, plain}, declared.Refusal.TheVariants.{ChannelEmpty, EventNumber, PulseTotal, ToolContents}}
use Rattle.values.specs.{declared.ValueKind.{ValueKind}, Setup.{setup_meet, setup_top}}
use Rattle.formulas.specs.RuleRefusal.{formula_of}
use Rattle.channel_log.specs.Distance.{Occurrence, Reading, TotalAbove}
use Rattle.channel_log.specs.Calls.{Call, event, restart, restart_all, clear, returned, refused, replies, History, Loaded, event_calls, StandsAs, final}
use Rattle.channel_log.specs.{Calls.{load, accepted}, CallSteps.{Content}, Log.{log}}
use Rattle.channel_log.specs.Claims.{RecordClaim, OwnCallsClaim, OtherRowsClaim}
use Rattle.synthesis.specs.FormulaTable.{formula_states}
use Rattle.recorder.specs.Store.{Store, ToolSetup, channels, totals, setup_of, tool_setup_of, AllCells, ToolFault, call_conditions, replay_conditions}
use Rattle.recorder.specs.ToolTests.{tool_test, tool_setup_refusal}
use Rattle.recorder.specs.{CompiledRule.{rule_judged}, Called.{called, new_store, blank, tool_refusal}, Replay.{replay_refusal}}

-- How many states the table of an accepted rule has.
abbrev pub table_states : ToolSetup → Formula ℕ → ℕ
table_states s φ = formula_states (setup_meet s.values) (setup_top s.values) φ s.values.events state_limit

-- The log of a set-up: 5 to 10 by their list, the rule that accepted bytes are, its rows, and its values by the formula semantics.
abbrev pub setup_log : ToolSetup → Content (History ℕ) Occurrence (Reading ℕ)
setup_log s =
    log (setup_meet s.values) (setup_top s.values) s.values.events s.wheel (rule_judged s.values) (formula_of s.values.kind)
    (table_states s)

-- How a channel stands by it.
abbrev pub SetupStandsAs : ToolSetup → Option (Loaded ℕ) → Option (History ℕ) → Type 0
SetupStandsAs s = StandsAs (setup_meet s.values) (setup_top s.values) s.values.events

-- Demand 3: every list of calls on the tool of an accepted set-up goes as the log's.
abbrev pub ToolRecordClaim : Type 0
ToolRecordClaim =
    (s : ToolSetup) → tool_setup_refusal s ≡ none → RecordClaim called channels (setup_log s) (SetupStandsAs s) (new_store s)

-- Two lists with the same accepted calls on a channel; and two that leave the other channels as many rows.
abbrev pub ToolOwnCallsClaim : Type 0
ToolOwnCallsClaim =
    (s : ToolSetup) → tool_setup_refusal s ≡ none → OwnCallsClaim called channels (setup_log s) (SetupStandsAs s) (new_store s)

abbrev pub ToolOtherRowsClaim : Type 0
ToolOtherRowsClaim =
    (s : ToolSetup) → tool_setup_refusal s ≡ none → OtherRowsClaim called channels (setup_log s) (SetupStandsAs s) (new_store s) (λ x. x.states)

-- Every call on what a refused set-up hands back is 17.
abbrev pub BlankClaim : Type 0
BlankClaim = (kind : ValueKind) (call : Call Occurrence) → called call (blank kind) ≡ (refused ToolContents, blank kind)

-- The tests of 17 pass exactly where it is not met.
abbrev pub ToolTestClaim : Type 0
ToolTestClaim = (t : Store) (call : Call Occurrence) → (tool_test t call ≡ true) ↔ ¬ ToolFault t call

-- Replay is the event call repeated: where it is accepted, on a tool with its eight current states and totals, every event call returns a
-- value and a distance.
abbrev pub ReplayClaim : Type 0
ReplayClaim =
    (t : Store) → length t.current ≡ channel_limit → length t.total ≡ channel_limit → (c : ℕ) (word : List Occurrence) (buffer : List ℕ) →
    replay_refusal t c word buffer ≡ none →
    (readings : List (Reading ℕ)) × (replies called (event_calls c word) t ≡ map returned readings) × (length readings ≡ length word)

-- Demand 3 against document 01's log by its own sentences.
abbrev pub PrintedRecordClaim : Type 0
PrintedRecordClaim =
    (s : ToolSetup) → tool_setup_refusal s ≡ none → (calls : List (Call Occurrence)) →
    AsLogged s calls (replies called calls (new_store s)) (tool_setup_of (final called calls (new_store s))) (channels (final called calls (new_store s)))

-- A load on any tool that has all its cells.
abbrev pub LoadClaim : Type 0
LoadClaim =
    (t : Store) → AllCells t → (c : ℕ) (rule : List ℕ) → (called (load c rule) t).0 ≡ accepted →
    LoadedAs (setup_of t) c rule (channels t) (channels (called (load c rule) t).1)

-- The channels that 17 looks at: the named one; for restart all, each.
abbrev pub LooksAt : Call Occurrence → ℕ → Type 0
LooksAt (load c r) d = d ≡ c
LooksAt (event c i) d = d ≡ c
LooksAt (restart c) d = d ≡ c
LooksAt restart_all d = Unit {0}
LooksAt (clear c) d = d ≡ c

-- 17, 15, 16 and 19 of a call.
abbrev pub fault_condition : Store → Call Occurrence → Condition
fault_condition t call = plain ToolContents (ToolFault t call)

abbrev pub empty_condition : Store → ℕ → Condition
empty_condition t c = plain ChannelEmpty (totals t c ≡ none)

abbrev pub event_condition : Store → ℕ → Condition
event_condition t e = plain EventNumber (¬ (e < t.setup.events))

abbrev pub total_condition : Store → ℕ → ℕ → Condition
total_condition t c pulses = plain PulseTotal (TotalAbove (totals t c) pulses)

-- A call is judged as document 01 asks, and so is a sequence of events.
abbrev pub CallRefusalClaim : Type 0
CallRefusalClaim = (t : Store) (call : Call Occurrence) → Judged (call_conditions t call) (tool_refusal t call)

abbrev pub ReplayRefusalClaim : Type 0
ReplayRefusalClaim =
    (t : Store) (c : ℕ) (word : List Occurrence) (buffer : List ℕ) → Judged (replay_conditions t c word buffer) (replay_refusal t c word buffer)
