-- Calls on a channel file of either form: the table of its rule, events replayed by it, and trial against it. Each is the entry behind it, on
-- the set-up and the rule's nodes that the file says; 4 comes first.
use mathlib.Core.{Path.{◌≡◌}, Bool.{cond}, List.{List, [], flat_map}, Option.{Option}}
use Rattle.std.specs.Prelude.{ℕ, ◌*◌, ◌≤◌, ◌<◌, Err, Ok, Result}
use lib.{Dec.{eqb, ltb, leb}, ListN.{length, get_or, take}}
use Rattle.theory.specs.{MealyMachine.{Machine}, MachineRuns.{word_values}, ValueSetTests.{every}}
use Rattle.refusal.specs.{declared.Refusal.{Refusal}, RefusalAnswers.{or_else, plain_unless, answered, judgement, put_unless}}
use Rattle.text_format.specs.Format.{Outcome, contents, refused}
use Rattle.values.specs.{declared.ValueKind.{ValueKind}, declared.ValueKind.TheVariants.{Numbered, Register}}
use Rattle.values.specs.Setup.{Setup, setup_of_kind, top_of, value_width, value_bytes}
use Rattle.machines.specs.TableBytes.{entry_width, machine_of}
use Rattle.conformance.specs.Trial.{TrialInput, Answer, input}
use Rattle.conformance.specs.TrialAnswer.{trial_refusal, first_failure, found_answer, buffer_unless}
use Rattle.channel_file.specs.Reading.{read_file}
use Rattle.channel_file.specs.RegisterReading.{read_file as read_register_file}
use Rattle.channel_io.specs.declared.FileTable.{FileTable}
use Rattle.channel_io.specs.{FileConditions.{FileForm, number_file}, RegisterFiles.{register_file}, FileCompilation.{CompilesBy}, Claims.{table_room}}
use Rattle.channel_io.specs.{FileRefusals.{pair_states, pair_table, pair_table_refusal}}
use Rattle.gurvazze_host.specs.Codes.{setup_numbers}
use Rattle.gurvazze_host.specs.declared.{Made.{Made}, Form.{Form}, Form.TheVariants.{Numbers as NumberForm, Register as RegisterForm}}
use Rattle.limits.specs.Limits.{device_limit, event_limit, state_limit, table_limit}
use Rattle.refusal.specs.declared.Refusal.TheVariants.{BufferLength, EventNumber, TextForm}

-- ---- a table in bytes, with values of a kind

-- The values on a sequence of events from state 0, in bytes, one behind another.
abbrev pub played : ValueKind → ℕ → List ℕ → List ℕ → List ℕ
played kind events table word = flat_map (value_bytes kind) (word_values (machine_of kind events table) 0 word)

-- 16: an event of the sequence is too large; 13: the buffer is shorter than the values.
unfoldable pub word_refusal : ValueKind → ℕ → List ℕ → List ℕ → Option Refusal
word_refusal kind events word old =
    or_else (plain_unless (every (length word) (λ i. ltb (get_or word i 0) events)) EventNumber)
    (plain_unless (leb (length word * value_width kind) (length old)) BufferLength)

-- ---- the table of a set-up and a rule's nodes
module _ (s : Setup) (nodes : List ℕ) where
  abbrev pub pair_machine : Machine ℕ ℕ
  pair_machine = machine_of s.kind s.events (pair_table s nodes)

  -- The set-up's refusals, 5 to 10, then 13, for a buffer that held `old`.
  unfoldable pub table_call_refusal : List ℕ → Option Refusal
  table_call_refusal old = or_else (pair_table_refusal s nodes) (plain_unless (leb (length (pair_table s nodes)) (length old)) BufferLength)

  -- The set-up's refusals and 5 to 10, which say whether there is a rule to play events by; then 16 and 13.
  unfoldable pub file_replay_refusal : List ℕ → List ℕ → Option Refusal
  file_replay_refusal word old = or_else (pair_table_refusal s nodes) (word_refusal s.kind s.events word old)

  -- The rule's table and the device, as a trial takes them.
  abbrev pub file_trial : ℕ → ℕ → List ℕ → TrialInput
  file_trial states start device = input s (pair_states s nodes) (pair_table s nodes) states start device

  -- The set-up's refusals, 5 to 10, then 11 and 13.
  unfoldable pub file_trial_refusal : ℕ → ℕ → List ℕ → List ℕ → Option Refusal
  file_trial_refusal states start device old =
      or_else (pair_table_refusal s nodes) (trial_refusal device_limit table_limit (file_trial states start device) old)

-- ---- a text, by what the file reader says of it: 4, or as above
module _ (F : FileForm) where
  -- Answer and buffer of the call that makes the table.
  unfoldable pub table_answer : Outcome F.Inside → List ℕ → Result ℕ Refusal
  table_answer (refused p) old = Err (TextForm p)
  table_answer (contents c) old =
      answered (table_call_refusal (F.setup_of c) (F.nodes_of c) old) (setup_numbers (F.setup_of c) (pair_states (F.setup_of c) (F.nodes_of c)))

  unfoldable pub table_after : Outcome F.Inside → List ℕ → List ℕ
  table_after (refused p) old = old
  table_after (contents c) old =
      put_unless (table_call_refusal (F.setup_of c) (F.nodes_of c) old) (pair_table (F.setup_of c) (F.nodes_of c)) old

  -- Of the replay: a value for each event.
  unfoldable pub replay_answer : Outcome F.Inside → List ℕ → List ℕ → Result (Unit {0}) Refusal
  replay_answer (refused p) word old = Err (TextForm p)
  replay_answer (contents c) word old = judgement (file_replay_refusal (F.setup_of c) (F.nodes_of c) word old)

  unfoldable pub replay_after : Outcome F.Inside → List ℕ → List ℕ → List ℕ
  replay_after (refused p) word old = old
  replay_after (contents c) word old =
      put_unless (file_replay_refusal (F.setup_of c) (F.nodes_of c) word old)
      (played (F.setup_of c).kind (F.setup_of c).events (pair_table (F.setup_of c) (F.nodes_of c)) word) old

  -- Of the trial: the word buffer.
  unfoldable pub file_trial_answer : Outcome F.Inside → ℕ → ℕ → List ℕ → List ℕ → Answer
  file_trial_answer (refused p) states start device old = Err (TextForm p)
  file_trial_answer (contents c) states start device old =
      answered (file_trial_refusal (F.setup_of c) (F.nodes_of c) states start device old)
      (found_answer (file_trial (F.setup_of c) (F.nodes_of c) states start device))

  unfoldable pub file_trial_buffer : Outcome F.Inside → ℕ → ℕ → List ℕ → List ℕ → List ℕ
  file_trial_buffer (refused p) states start device old = old
  file_trial_buffer (contents c) states start device old =
      buffer_unless (file_trial_refusal (F.setup_of c) (F.nodes_of c) states start device old)
      (first_failure (file_trial (F.setup_of c) (F.nodes_of c) states start device)) old

-- ---- what the private functions of src/ ask and say

-- A table in bytes of so many states, at the front of a buffer.
abbrev pub front : ValueKind → ℕ → ℕ → List ℕ → List ℕ
front kind events n buffer = take (n * events * entry_width kind) buffer

-- A table in bytes of n states that events can be played by.
pub record Playable (kind : ValueKind) (events n : ℕ) (table : List ℕ) : Type 0 where
  pub few_events : events ≤ event_limit
  pub few_states : n ≤ state_limit
  pub some_states : 0 < n
  pub whole : n * events * entry_width kind ≤ length table
  pub nexts : (q e : ℕ) → q < n → e < events → (machine_of kind events table).next q e < n

-- And a sequence of its events, with room for its values.
pub record Runnable (kind : ValueKind) (events n : ℕ) (table word buffer : List ℕ) : Type 0 where
  pub playable : Playable kind events n table
  pub word_in : (i : ℕ) → i < length word → get_or word i 0 < events
  pub fits : length word * value_width kind ≤ length buffer

-- Answer and buffer of a replay by a table.
pub record Replays (kind : ValueKind) (events : ℕ) (table word old new : List ℕ) (r : Result (Unit {0}) Refusal) : Type 0 where
  pub answer : r ≡ judgement (word_refusal kind events word old)
  pub buffer : new ≡ put_unless (word_refusal kind events word old) (played kind events table word) old

-- The kind of values of so many bytes.
abbrev pub kind_of_width : ℕ → ValueKind
kind_of_width width = cond (eqb width 1) (Numbered 0) (Register 0)

-- The set-up that was made of a file, whose meet entries stand at the front of a buffer; a register has none.
abbrev pub entries_of_kind : ValueKind → List ℕ → List ℕ
entries_of_kind (Numbered values) meet = meet
entries_of_kind (Register lines) meet = []

abbrev pub held_setup : Made → List ℕ → Setup
held_setup m meet = setup_of_kind m.events m.kind (top_of m.kind m.top) (entries_of_kind m.kind (take m.entries meet))

-- The table that was made of it stands at the front of a buffer.
pub record Holds (m : Made) (buffer : List ℕ) : Type 0 where
  pub few_events : m.events ≤ event_limit
  pub few_states : m.states ≤ state_limit
  pub whole : m.states * m.events * entry_width m.kind ≤ length buffer

-- A trial against the table at the front of a buffer.
abbrev pub held_trial : Setup → ℕ → List ℕ → ℕ → ℕ → List ℕ → TrialInput
held_trial s k table states start device = input s k (front s.kind s.events k table) states start device

-- ---- the two forms of files
abbrev pub file_form : Form → FileForm
file_form NumberForm = number_file
file_form RegisterForm = register_file

abbrev pub reader : (form : Form) → List ℕ → Outcome (file_form form).Inside
reader NumberForm = read_file
reader RegisterForm = read_register_file

-- Every table of the form has room in so many bytes.
abbrev pub HasRoom : Form → ℕ → Type 0
HasRoom form size = (c : (file_form form).Inside) → table_room ((file_form form).setup_of c).kind ≤ size

-- A register's file has no meet entries, and no buffer for them.
abbrev pub meet_buffer : Form → List ℕ → List ℕ
meet_buffer NumberForm meet = meet
meet_buffer RegisterForm meet = []

-- What is made of the numbers that are answered.
abbrev pub made_of : (form : Form) → FileTable (file_form form).Numbers → Made
made_of NumberForm file =
    record {
      events = file.numbers.events;
      kind = Numbered file.numbers.values;
      top = file.numbers.top;
      entries = file.numbers.entries;
      states = file.states;
    }
made_of RegisterForm file =
    record { events = file.numbers.events; kind = Register file.numbers.lines; top = 0; entries = 0; states = file.states }

abbrev pub made_answer : (form : Form) → Result (FileTable (file_form form).Numbers) Refusal → Result Made Refusal
made_answer form (Ok file) = Ok (made_of form file)
made_answer form (Err refusal) = Err refusal

-- A call that makes the table of a text.
pub record Compiles (form : Form) (t meet to meet' to' : List ℕ) (r : Result Made Refusal) : Type 0 where
  pub file : Result (FileTable (file_form form).Numbers) Refusal
  pub by_form : CompilesBy (file_form form) (reader form) t (meet_buffer form meet) to (meet_buffer form meet') to' file
  pub made : r ≡ made_answer form file
