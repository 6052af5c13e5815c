-- What a tool holds, however it is represented, and its two representations, the tool of numbered values and that of registers (document 01,
-- "Tool"; document 02, F-7); when a call on it is refused, and with what ("Who can cause a refusal": 17, 25, 14, 15, 16, 19, then 5 to 10 and 25).
use mathlib.Core.{Path.{◌≡◌}, Bool.{◌&&◌, cond}, List.{List, [], ◌∷◌, ◌++◌, map}, Option.{Option, none, some}}
use Rattle.std.specs.Prelude.{ℕ, ◌+◌, ◌*◌, ◌≤◌, ◌<◌, T, Result, Ok, Err, Option as Maybe, None, Some}
use lib.{Dec.{ltb}, ListN.{length, get_or, take, drop}}
use Rattle.limits.specs.Limits.{channel_limit, row_limit, store_limit, table_limit, total_limit}
use Rattle.theory.specs.{Formula.{Formula}, ValueSets.{pack, top_masks}, MealyMachine.{Machine, Word}, ReachableStates.{IsTableOf}}
use Rattle.values.specs.{declared.ValueKind.{ValueKind}, declared.ValueKind.TheVariants.{Numbered, Register}}
use Rattle.values.specs.Setup.{Setup, setup_of_kind, setup_meet, setup_top, ValueIn, setup_conditions}
use Rattle.formulas.specs.RuleConditions.{node_bytes, OfFormula}
use Rattle.channel_log.specs.Distance.{Wheel, wheel_of_turn, WheelFault, Occurrence, Reading, TotalAbove}
use Rattle.channel_log.specs.Calls.{Channels, map_option, Loaded, Reply, accepted, returned, refused, Call, load, event, restart, restart_all, clear, concerns}
use Rattle.channel_log.specs.Rows.{sum_below, all_rows, other_rows}
use Rattle.recorder.specs.{declared.Tool.{Tool}, declared.Answer.{Answer}, declared.kinds.Numbers.{Numbers}, declared.kinds.Registers.{Registers}}
use Rattle.recorder.specs.declared.Wheel as declared_wheel
use Rattle.recorder.specs.declared.Reading as declared_reading
use Rattle.refusal.specs.{declared.Refusal.{Refusal}, Refusal.{First, Condition, plain}}
use Rattle.machines.specs.TableBytes.{table_bytes, entry_width, entry_bytes, TableInOrder}
use Rattle.synthesis.specs.TableOfRule.{rule_conditions_of}
use Rattle.refusal.specs.declared.Refusal.TheVariants.{BufferLength, ChannelEmpty, ChannelNumber, EventNumber, PulseTotal, RowTotal, SetupWheel, ToolContents}

-- A tool's set-up: a value set, and a wheel "handed over beside the channel file" (document 02, F-6).
pub record ToolSetup : Type 0 where
  pub values : Setup
  pub wheel : Wheel

abbrev pub tool_setup : Setup → Wheel → ToolSetup
tool_setup s wheel = record { values = s; wheel = wheel }

-- 1 to 3, or 1 and 20, then 18.
unfoldable pub tool_setup_conditions : ToolSetup → List Condition
tool_setup_conditions s = setup_conditions s.values ++ (plain SetupWheel (WheelFault s.wheel) ∷ [])

-- Every cell of a tool. The set-up has all cells that the meet table is kept in. Each channel has a count of states, 0 where it is
-- empty, a current state and a total of pulses; the entries of all tables lie in two lists, values and next states.
pub record Store : Type 0 where
  pub setup : Setup
  pub wheel : Wheel
  pub states : List ℕ
  pub current : List ℕ
  pub total : List ℕ
  pub value : List ℕ
  pub next : List ℕ

-- Of the cells for a meet table only the table's values × values entries count; a register has none.
abbrev pub meet_part : ValueKind → List ℕ → List ℕ
meet_part (Numbered n) cells = take (n * n) cells
meet_part (Register lines) cells = cells

-- Its set-up, as one that is handed in.
abbrev pub setup_of : Store → Setup
setup_of t = setup_of_kind t.setup.events t.setup.kind t.setup.top (meet_part t.setup.kind t.setup.meet)

abbrev pub tool_setup_of : Store → ToolSetup
tool_setup_of t = tool_setup (setup_of t) t.wheel

-- The table of k states whose entries lie from a place on, by state, then event. What lies after them is no part of it.
abbrev pub table_at : ℕ → ℕ → ℕ → List ℕ → List ℕ → Machine ℕ ℕ
table_at at events k value next =
    record {
      value = λ l e. get_or (take (k * events) (drop at value)) (l * events + e) 0;
      next = λ l e. get_or (take (k * events) (drop at next)) (l * events + e) 0;
    }

abbrev pub loaded_at : ℕ → ℕ → ℕ → ℕ → ℕ → List ℕ → List ℕ → Loaded ℕ
loaded_at at events k q total value next = record { states = k; table = table_at at events k value next; current = q; total = total }

-- "One store of rows" (document 02, F-12): the rows of a channel start behind those of the channels before it, an entry for each event in a
-- row. No place is stored, so that no two channels overlap; what would lie behind the lists reads as 0.
unfoldable pub rows_start : ℕ → List ℕ → ℕ → ℕ
rows_start events states c = sum_below c (λ d. get_or states d 0) * events

-- What channel c holds with k states from a place on, current state q and a total: nothing where it is above 7 or has no states.
unfoldable pub held : ℕ → ℕ → ℕ → ℕ → ℕ → ℕ → List ℕ → List ℕ → Option (Loaded ℕ)
held c at events k q total value next = cond (ltb c channel_limit && ltb 0 k) (some (loaded_at at events k q total value next)) none

-- What the channels hold.
abbrev pub channels : Store → Channels (Loaded ℕ)
channels t c =
    held c (rows_start t.setup.events t.states c) t.setup.events (get_or t.states c 0) (get_or t.current c 0) (get_or t.total c 0)
    t.value t.next

-- All cells of eight channels are there, as in every tool: its arrays have these lengths.
pub record AllCells (t : Store) : Type 0 where
  pub states_are : length t.states ≡ channel_limit
  pub current_are : length t.current ≡ channel_limit
  pub totals_are : length t.total ≡ channel_limit
  pub values_are : length t.value ≡ store_limit
  pub nexts_are : length t.next ≡ store_limit

abbrev pub wheel_of : declared_wheel.Wheel → Wheel
wheel_of wheel = wheel_of_turn wheel.pulses wheel.millimetres

-- What the cells of a tool of one kind of values mean. Of its set-up: the kind, top and the cells that the meet table is kept in; then the numbers
-- in a column of values, in one stored value and in lent ones; the bytes that a rule's table is compiled into.
pub record Meaning (Kind Column Value Table : Type 0) : Type 0 where
  pub kind : Kind → ValueKind
  pub top : Kind → ℕ
  pub meet : Kind → List ℕ
  pub cells : Column → List ℕ
  pub number : Value → ℕ
  pub numbers : List Value → List ℕ
  pub bytes : Table → List ℕ

-- Bytes and masks of 32 bits stand for themselves.
abbrev pub plain_meaning : {Kind : Type 0} → (Kind → ValueKind) → (Kind → ℕ) → (Kind → List ℕ) → Meaning Kind (List ℕ) ℕ (List ℕ)
plain_meaning kind top meet =
    record { kind = kind; top = top; meet = meet; cells = λ c. c; number = λ v. v; numbers = λ l. l; bytes = λ l. l }

abbrev pub number_meaning : Meaning Numbers (List ℕ) ℕ (List ℕ)
number_meaning = plain_meaning (λ k. Numbered k.values) (λ k. k.top) (λ k. k.meet)

-- Registers (document 02, F-7): top and meet are fixed by the count of lines.
abbrev pub register_meaning : Meaning Registers (List ℕ) ℕ (List ℕ)
register_meaning = plain_meaning (λ k. Register k.lines) (λ k. pack (top_masks k.lines)) (λ k. [])

-- The documents' answer for each case of the result.
abbrev pub reading_of : declared_reading.Reading → Reading ℕ
reading_of r = record { value = r.value; millimetres = r.millimetres; remainder = r.remainder }

abbrev pub reply_of : Result (Maybe declared_reading.Reading) Refusal → Reply (Reading ℕ)
reply_of (Ok None) = accepted
reply_of (Ok (Some r)) = returned (reading_of r)
reply_of (Err r) = refused r

module _ {K C V B : Type 0} (m : Meaning K C V B) where
  -- The set-up with so many events: all its cells; and as one that is handed in.
  abbrev pub whole_setup : ℕ → K → Setup
  whole_setup events k = setup_of_kind events (m.kind k) (m.top k) (m.meet k)

  abbrev pub counted_setup : ℕ → K → Setup
  counted_setup events k = setup_of_kind events (m.kind k) (m.top k) (meet_part (m.kind k) (m.meet k))

  -- The tool is one representation: its cells, and nothing else.
  abbrev pub store_of : Tool K C → Store
  store_of t =
      record {
        setup = whole_setup t.setup.events t.setup.kind;
        wheel = wheel_of t.setup.wheel;
        states = t.states;
        current = t.current;
        total = t.total;
        value = m.cells t.value;
        next = t.next;
      }

  -- A reply and the tool beside it, and what a call hands back.
  abbrev pub replied : Result (Maybe declared_reading.Reading) Refusal → Tool K C → Reply (Reading ℕ) × Store
  replied reply tool = (reply_of reply, store_of tool)

  abbrev pub answer : Answer K C → Reply (Reading ℕ) × Store
  answer r = replied r.reply r.tool

  abbrev pub replay_answer : Answer K C → List V → (Reply (Reading ℕ) × Store) × List ℕ
  replay_answer r buffer = (answer r, m.numbers buffer)

-- A store is that of one tool of each kind: what a contract says of it, it says of the tool.
abbrev pub OneTool : {T : Type 0} → (T → Store) → Type 0
OneTool {T} store = (t u : T) → store t ≡ store u → t ≡ u

pub record StoreClaim : Type 0 where
  pub of_numbers : OneTool (store_of number_meaning)
  pub of_registers : OneTool (store_of register_meaning)

-- A loaded channel's table is one that 11 does not refuse, its current state taken as the start; its total is not above the limit.
pub record ChannelInOrder (events : ℕ) (kind : ValueKind) (x : Loaded ℕ) : Type 0 where
  pub table : TableInOrder (entry_width kind) table_limit events (ValueIn kind) x.states x.current
      (table_bytes (entry_bytes kind) events x.table x.states) x.table
  pub total : x.total ≤ total_limit

-- 17, for the named channel, or for restart all each. A channel above 7 holds nothing, so that only the set-up is looked at there.
pub data ToolFault (t : Store) (call : Call Occurrence) : Type 0 where
  setup_fails : (refusal : Refusal) → First (tool_setup_conditions (tool_setup_of t)) (some refusal) → ToolFault t call
  channel_fails : (c : ℕ) (x : Loaded ℕ) → T (concerns c call) → channels t c ≡ some x → ¬ ChannelInOrder t.setup.events t.setup.kind x →
      ToolFault t call

-- 14: channel above 7.
abbrev pub channel_condition : ℕ → Condition
channel_condition c = plain ChannelNumber (¬ (c < channel_limit))

-- 25 on a load (document 02, F-12): "rows of the other channels plus those of the new table above 512". `Others n`: the others have n rows.
pub record RowsAbove (s : Setup) (Others : ℕ → Type 0) (φ : Formula ℕ) : Type 0 where
  pub others : ℕ
  pub have : Others others
  pub states : ℕ
  pub table : Machine ℕ ℕ
  pub is_table : IsTableOf (setup_meet s) (setup_top s) s.events φ states table
  pub above : row_limit < others + states

abbrev pub rows_condition : Setup → (ℕ → Type 0) → List ℕ → Condition
rows_condition s Others rule = plain RowTotal (OfFormula (node_bytes s.kind) rule (RowsAbove s Others))

-- Over the rows of the channels other than each, and the totals, of which an empty channel has none: 14, 15, 16, 19, then 5 to 10 and 25. A
-- call meets only the conditions that concern its inputs.
abbrev pub channel_conditions : Setup → (ℕ → ℕ → Type 0) → Channels ℕ → Call Occurrence → List Condition
channel_conditions s Others totals (load c rule) = channel_condition c ∷ (rule_conditions_of s rule ++ (rows_condition s (Others c) rule ∷ []))
channel_conditions s Others totals (event c i) = channel_condition c
    ∷ plain ChannelEmpty (totals c ≡ none)
    ∷ plain EventNumber (¬ (i.event < s.events))
    ∷ plain PulseTotal (TotalAbove (totals c) i.pulses)
    ∷ []
channel_conditions s Others totals (restart c) = channel_condition c ∷ plain ChannelEmpty (totals c ≡ none) ∷ []
channel_conditions s Others totals restart_all = []
channel_conditions s Others totals (clear c) = channel_condition c ∷ []

-- The totals of a tool's channels, and their rows.
abbrev pub totals : Store → Channels ℕ
totals t c = map_option (λ x. x.total) (channels t c)

abbrev pub rows : Store → Channels ℕ
rows t c = map_option (λ x. x.states) (channels t c)

-- 25 "for a handed-in tool whose loaded tables exceed 512, after 17".
abbrev pub store_condition : Store → Condition
store_condition t = plain RowTotal (row_limit < all_rows (rows t))

-- On a tool 17 comes first, then 25.
unfoldable pub call_conditions : Store → Call Occurrence → List Condition
call_conditions t call =
    plain ToolContents (ToolFault t call) ∷ store_condition t ∷ channel_conditions (setup_of t) (λ c n. other_rows c (rows t) ≡ n) (totals t) call

-- A sequence of events with their pulses; events for which there are no more pulses have 0.
unfoldable pub occurrences : List ℕ → List ℕ → List Occurrence
occurrences [] pulses = []
occurrences (e ∷ word) [] = record { event = e; pulses = 0 } ∷ occurrences word []
occurrences (e ∷ word) (p ∷ pulses) = record { event = e; pulses = p } ∷ occurrences word pulses

unfoldable pub all_pulses : List Occurrence → ℕ
all_pulses [] = 0
all_pulses (i ∷ word) = i.pulses + all_pulses word

-- 17 and 25 are those of every call that names the channel; 16 for any event; 19 where the running total comes to be above the limit, and so, since it
-- never falls, with all pulses; 13 where the buffer has no room for a value each.
unfoldable pub replay_conditions : Store → ℕ → List Occurrence → List ℕ → List Condition
replay_conditions t c word buffer = plain ToolContents (ToolFault t (restart c))
    ∷ store_condition t
    ∷ channel_condition c
    ∷ plain ChannelEmpty (totals t c ≡ none)
    ∷ plain EventNumber (¬ Word t.setup.events (map (λ i. i.event) word))
    ∷ plain PulseTotal (TotalAbove (totals t c) (all_pulses word))
    ∷ plain BufferLength (length buffer < length word)
    ∷ []
