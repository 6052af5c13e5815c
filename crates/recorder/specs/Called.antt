-- Twin of Store, pinned by product_claims DemandThree.
-- The calls on a tool (document 01, "Tool"; document 02, F-6 and F-12): what each answers and what the tool holds afterwards, whatever it held before.
use mathlib.Core.{List.{List, [], ◌++◌}, Option.{Option, none, some}}
use Rattle.std.specs.Prelude.{ℕ, ◌+◌, ◌*◌, ◌-◌, length, set, take, replicate}
use Rattle.limits.specs.Limits.{meet_limit, channel_limit, store_limit}
use Rattle.refusal.specs.{declared.Refusal.{Refusal}, RefusalAnswers.{or_else, plain_unless}, declared.Refusal.TheVariants.{ToolContents}}
use Rattle.values.specs.{declared.ValueKind.{ValueKind}, declared.ValueKind.TheVariants.{Numbered, Register}}
use Rattle.values.specs.Setup.{Setup, setup_of_kind, setup, register_setup}
use Rattle.channel_log.specs.Distance.{Wheel, wheel_of_turn, Occurrence, Reading}
use Rattle.channel_log.specs.Calls.{Call, load, event, restart, restart_all, clear, Reply, accepted, refused, Loaded}
use Rattle.channel_log.specs.{CallSteps.{Content, call_refusal, accepted_reply}, Log.{rows_refusal}, Recorded.{recorded}, Rows.{all_rows}}
use Rattle.recorder.specs.{Store.{Store, ToolSetup, setup_of, channels, rows}, ToolTests.{tool_test, tool_setup_refusal}}
use Rattle.recorder.specs.Splicing.{replaced, entry_values, entry_nexts}
use Rattle.recorder.specs.CompiledRule.{rule_judged, states_of_rule, values_of_rule, nexts_of_rule, loaded_rule}

-- The store with other current states and totals; with other entries and k states in channel c, at state 0 and with no pulses.
abbrev pub with_current : Store → List ℕ → List ℕ → Store
with_current t current total =
    record { setup = t.setup; wheel = t.wheel; states = t.states; current = current; total = total; value = t.value; next = t.next }

abbrev pub with_rows : Store → ℕ → ℕ → List ℕ → List ℕ → Store
with_rows t c k value next =
    record {
      setup = t.setup;
      wheel = t.wheel;
      states = set t.states c k;
      current = set t.current c 0;
      total = set t.total c 0;
      value = value;
      next = next;
    }

-- The store with another table in channel c: so many states, and their entries. The rows of later channels move up or down.
abbrev pub with_table : Store → ℕ → ℕ → List ℕ → List ℕ → Store
with_table t c k values nexts =
    with_rows t c k (replaced t.setup.events t.states c values t.value) (replaced t.setup.events t.states c nexts t.next)

-- The same with the entries of a table's bytes.
abbrev pub with_entries : Store → ℕ → ℕ → List ℕ → Store
with_entries t c k table =
    with_table t c k (entry_values t.setup.kind table (k * t.setup.events)) (entry_nexts t.setup.kind table (k * t.setup.events))

-- The state that an event leads to, and the total with its pulses.
abbrev pub next_state : Option (Loaded ℕ) → ℕ → ℕ
next_state none e = 0
next_state (some x) e = x.table.next x.current e

abbrev pub next_total : Option (Loaded ℕ) → ℕ → ℕ
next_total none pulses = 0
next_total (some x) pulses = x.total + pulses

-- The channels take calls as `recorded` says.
abbrev pub content : Store → Content (Loaded ℕ) Occurrence (Reading ℕ)
content t = recorded t.setup.events t.wheel (rule_judged (setup_of t)) (loaded_rule (setup_of t))

-- What a handed-in tool is refused with: 17, then 25.
abbrev pub fault_refusal : Store → Call Occurrence → Option Refusal
fault_refusal t call = or_else (plain_unless (tool_test t call) ToolContents) (rows_refusal (all_rows (rows t)))

-- The first refusal in document 01's order: 17 and 25, then 14, 15, 16, 19, then 5 to 10 and 25.
abbrev pub tool_refusal : Store → Call Occurrence → Option Refusal
tool_refusal t call = or_else (fault_refusal t call) (call_refusal (content t) (channels t) call)

-- What an accepted call leaves. Load and clear splice the store: behind the last channel's rows it is 0.
abbrev pub effect_on : Store → Call Occurrence → Store
effect_on t (load c r) =
    with_table t c (states_of_rule (setup_of t) r) (values_of_rule (setup_of t) r) (nexts_of_rule (setup_of t) r)
effect_on t (event c i) =
    with_current t (set t.current c (next_state (channels t c) i.event)) (set t.total c (next_total (channels t c) i.pulses))
effect_on t (restart c) = with_current t (set t.current c 0) (set t.total c 0)
effect_on t restart_all = with_current t (replicate channel_limit 0) (replicate channel_limit 0)
effect_on t (clear c) = with_table t c 0 [] []

-- A refused call changes nothing.
abbrev pub settled_store : Option Refusal → Reply (Reading ℕ) → Store → Store → Reply (Reading ℕ) × Store
settled_store none reply after before = (reply, after)
settled_store (some r) reply after before = (refused r, before)

-- One call: its reply, and the store afterwards.
unfoldable pub called : Call Occurrence → Store → Reply (Reading ℕ) × Store
called call t = settled_store (tool_refusal t call) (accepted_reply (content t) (channels t) call) (effect_on t call) t

-- All channels empty, every cell of theirs 0.
unfoldable pub empty_store : Setup → Wheel → Store
empty_store s wheel =
    record {
      setup = s;
      wheel = wheel;
      states = replicate channel_limit 0;
      current = replicate channel_limit 0;
      total = replicate channel_limit 0;
      value = replicate store_limit 0;
      next = replicate store_limit 0;
    }

-- A list brought to a length, with 0 after its end.
unfoldable pub filled : ℕ → List ℕ → List ℕ
filled n l = take n l ++ replicate (n - length l) 0

-- The cells that a meet table is kept in: after its entries they are 0.
abbrev pub meet_cells : ValueKind → List ℕ → List ℕ
meet_cells (Numbered n) meet = filled meet_limit meet
meet_cells (Register lines) meet = meet

-- What an accepted set-up makes.
unfoldable pub new_store : ToolSetup → Store
new_store s =
    empty_store
    (setup_of_kind s.values.events s.values.kind s.values.top (meet_cells s.values.kind s.values.meet)) s.wheel

-- What a refused set-up hands back, by its kind of values: every cell is 0, and every call on it is 17.
abbrev pub blank_setup : ValueKind → Setup
blank_setup (Numbered n) = setup 0 0 0 (replicate meet_limit 0)
blank_setup (Register lines) = register_setup 0 0

unfoldable pub blank : ValueKind → Store
blank kind = empty_store (blank_setup kind) (wheel_of_turn 0 0)

-- Set up takes no earlier tool: the set-up's refusal, or the new store.
abbrev pub set_up_answer : ToolSetup → Option Refusal → Reply (Reading ℕ) × Store
set_up_answer s none = (accepted, new_store s)
set_up_answer s (some r) = (refused r, blank s.values.kind)

abbrev pub set_up_called : ToolSetup → Reply (Reading ℕ) × Store
set_up_called s = set_up_answer s (tool_setup_refusal s)
