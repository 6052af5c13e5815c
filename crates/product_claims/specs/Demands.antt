-- The user's three demands, each as one record over document 01's definitions and the functions that contracts state; proved in proofs/Demands.
use mathlib.Core.{Path.{◌≡◌}, Logic.{◌↔◌}, List.{List, map}, Option.{Option, none, some}}
use Rattle.std.specs.Prelude.{ℕ, zero, ◌*◌, ◌≤◌, ◌<◌, length, take, Result}
use Rattle.limits.specs.Limits.{node_limit, state_limit, device_limit, table_limit, word_limit}
use Rattle.theory.specs.{Formula.{Formula, size}, MealyMachine.{Machine, Word, after, States, Satisfies}}
use Rattle.refusal.specs.{declared.Refusal.{Refusal}, declared.Refusal.TheVariants.{BufferLength, ToolContents}}
use Rattle.refusal.specs.{Refusal.{Judged, JudgedCall, refusal_of, yield_of, put}, RefusalAnswers.{judgement}}
use Rattle.values.specs.{Setup.{Setup, setup, register_setup, setup_meet, setup_conditions}, SetupTests.{setup_refusal}}
use Rattle.machines.specs.TableBytes.{table_bytes, entry_width, entry_bytes, machine_of}
use Rattle.formulas.specs.RuleConditions.{encode_formula, node_bytes}
use Rattle.synthesis.specs.TableOfRule.{compile_conditions, IsRuleTable}
use Rattle.synthesis.specs.Compilation.{compile_answer, compile_contents}
use Rattle.characteristic.specs.{RuleOfTable.{write_conditions, IsWritten}, RuleWriting.{write_answer, write_contents}}
use Rattle.conformance.specs.Trial.{TrialInput, input, DeviceInOrder, trial_conditions, Passes, FailsBy, Passed, word_length}
use Rattle.conformance.specs.TrialAnswer.{trial_answer, trial_buffer}
use Rattle.channel_log.specs.Distance.{Occurrence, Reading}
use Rattle.channel_log.specs.Calls.{Call, load, event, accepted, returned, refused, reply_refusal, replies, final, event_calls, last_returned}
use Rattle.channel_log.specs.{Calls.{accepted_on, replies_on}, Rows.{other_rows}}
use Rattle.recorder.specs.Store.{Store, AllCells, ToolSetup, tool_setup_conditions, setup_of, tool_setup_of, channels, rows, StoreClaim}
use Rattle.recorder.specs.{Store.{call_conditions, replay_conditions}, Called.{called, set_up_called}, Replay.{replayed}}
use Rattle.recorder_claims.specs.ChannelLog.{AsLogged, LoadedAs}
use Rattle.channel_file.specs.{ChannelFile.{TokensBy}, Reading.{read_file, tokens_stretch}}
use Rattle.channel_file.specs.RegisterReading.{read_file as read_register_file, tokens_stretch as register_tokens}
use Rattle.channel_io.specs.FileConditions.{FileForm, JudgedText, read_conditions, ReadsAs, write_file_conditions, WritesAs}
use Rattle.channel_io.specs.{FileConditions.{number_file}, RegisterFiles.{register_file}}
use Rattle.channel_io.specs.{FileReading.{ReadsFile, ReadsRegisterFile}, FileWriting.{WritesFile, WritesRegisterFile}}
use Rattle.table_report.specs.{PrintedTable.{Prints, report_conditions}, Report.{Reports, RegisterReports}}

-- The calls on files of a form, by what their contracts state: channel_io `read_file`, and the set-up and the nodes that the numbers of its answer
-- say are in its two buffers; `write_file`, by the set-up handed in; table_report `report`; channel_file `tokens`.
pub record FileCalls : Type 1 where
  pub form : FileForm
  pub Reads : (t meet rule meet' rule' : List ℕ) → Result form.Numbers Refusal → Type 0
  pub setup_from : form.Numbers → List ℕ → Setup
  pub nodes_from : form.Numbers → List ℕ → List ℕ
  pub Writes : Setup → (rule old new : List ℕ) → Result ℕ Refusal → Type 0
  pub Reports_by : (t old new : List ℕ) → Result ℕ Refusal → Type 0
  pub tokens : List ℕ → List ℕ

-- Those of document 01's file.
pub data WritesNumbers (rule old new : List ℕ) (r : Result ℕ Refusal) : Setup → Type 0 where
  writes : (events values top : ℕ) (meet : List ℕ) → WritesFile events values top meet rule old new r →
      WritesNumbers rule old new r (setup events values top meet)

abbrev pub number_calls : FileCalls
number_calls =
    record {
      form = number_file;
      Reads = ReadsFile;
      setup_from = λ n meet. setup n.events n.values n.top (take n.entries meet);
      nodes_from = λ n rule. take (3 * n.nodes) rule;
      Writes = λ s rule old new r. WritesNumbers rule old new r s;
      Reports_by = Reports;
      tokens = λ t. tokens_stretch t (read_file t);
    }

-- Those of a register's, of the modules `registers` (document 02, F-7). There are no meet entries: what `read_file` states is this with an empty
-- buffer for them.
pub data WritesRegister (rule old new : List ℕ) (r : Result ℕ Refusal) : Setup → Type 0 where
  writes : (events lines : ℕ) → WritesRegisterFile events lines rule old new r → WritesRegister rule old new r (register_setup events lines)

abbrev pub register_calls : FileCalls
register_calls =
    record {
      form = register_file;
      Reads = ReadsRegisterFile;
      setup_from = λ n meet. register_setup n.events n.lines;
      nodes_from = λ n rule. take (6 * n.nodes) rule;
      Writes = λ s rule old new r. WritesRegister rule old new r s;
      Reports_by = RegisterReports;
      tokens = λ t. register_tokens t (read_register_file t);
    }

-- Demand 1 of the calls on files.
pub record FilesJudged (C : FileCalls) : Type 1 where
  pub reading : (t meet rule meet' rule' : List ℕ) (r : Result C.form.Numbers Refusal) → C.Reads t meet rule meet' rule' r →
      JudgedText {M = List ℕ × List ℕ} C.form t (read_conditions meet rule) (refusal_of r) (meet, rule) (meet', rule')
  pub writing : (s : Setup) (rule old new : List ℕ) (r : Result ℕ Refusal) → C.Writes s rule old new r →
      JudgedCall (write_file_conditions C.form s rule old) (refusal_of r) old new
  pub reporting : (t old new : List ℕ) (r : Result ℕ Refusal) → C.Reports_by t old new r → JudgedCall (report_conditions C.form t old) (refusal_of r) old new

-- Demand 1: "any public entry takes any input of its type: the call .. accepts or refuses by document 01's list, and a refusal changes no
-- lent memory." That calls end and do nothing undefined is what a proved crate is; no public function has a requires.
pub record DemandOne : Type 1 where
  -- values `SetUp::check`: of both kinds of values (document 02, F-7), here and below
  pub checking_a_set_up : (s : Setup) → Judged (setup_conditions s) (refusal_of (judgement (setup_refusal s)))
  -- synthesis `compile`
  pub compiling : (s : Setup) (rule old : List ℕ) →
      JudgedCall (compile_conditions state_limit s rule old) (refusal_of (compile_answer state_limit s rule old)) old
      (compile_contents state_limit s rule old)
  -- characteristic `write_rule`
  pub writing_a_rule : (s : Setup) (states start : ℕ) (table old : List ℕ) →
      JudgedCall (write_conditions table_limit node_limit s states start table (length old))
      (refusal_of (write_answer table_limit node_limit s states start table old)) old (write_contents table_limit node_limit s states start table old)
  -- conformance `trial`
  pub trying : (x : TrialInput) (old : List ℕ) →
      JudgedCall (trial_conditions device_limit table_limit x old) (refusal_of (trial_answer device_limit table_limit x old)) old
      (trial_buffer device_limit table_limit x old)
  -- recorder `set_up`; `load`, `event`, `restart`, `restart_all` and `clear`; `replay`; of both kinds of tools
  pub setting_up : (s : ToolSetup) → Judged (tool_setup_conditions s) (reply_refusal (set_up_called s).0)
  pub calling : (t : Store) (call : Call Occurrence) → JudgedCall (call_conditions t call) (reply_refusal (called call t).0) t (called call t).1
  pub replaying : (t : Store) (c : ℕ) (word : List Occurrence) (old : List ℕ) →
      JudgedCall {M = Store × List ℕ} (replay_conditions t c word old) (reply_refusal (replayed t c word old).0.0) (t, old)
      ((replayed t c word old).0.1, (replayed t c word old).1)
  -- channel_io `read_file` and `write_file`, table_report `report`; and those of their modules `registers`
  pub files : FilesJudged number_calls
  pub register_files : FilesJudged register_calls

-- The rule of a table, handed to `compile`: nothing but 13 refuses it, and its table has the start's values on every event sequence.
pub record Recompiled (s : Setup) (start : ℕ) (table rule to : List ℕ) : Type 0 where
  pub only_13 : (r : Refusal) → refusal_of (compile_answer state_limit s rule to) ≡ some r → r ≡ BufferLength
  pub same_values : refusal_of (compile_answer state_limit s rule to) ≡ none → (w : List ℕ) → Word s.events w → (e : ℕ) → e < s.events →
      (machine_of s.kind s.events (compile_contents state_limit s rule to)).value
      (after (machine_of s.kind s.events (compile_contents state_limit s rule to)) zero w) e
      ≡ (machine_of s.kind s.events table).value (after (machine_of s.kind s.events table) start w) e

-- Demand 2 of the calls on files: what a file says is read; what is read is written as that file: "an accepted file written out again is the same
-- bytes"; what the program prints, and the tokens of a file.
pub record FilesAgree (C : FileCalls) : Type 0 where
  pub file_to_rule : (t meet rule meet' rule' : List ℕ) (r : Result C.form.Numbers Refusal) → C.Reads t meet rule meet' rule' r →
      (found : C.form.Numbers) → yield_of r ≡ some found → ReadsAs C.form t meet rule meet' rule' found
  pub rule_to_file : (s : Setup) (rule old new : List ℕ) (r : Result ℕ Refusal) → C.Writes s rule old new r →
      (n : ℕ) → yield_of r ≡ some n → WritesAs C.form s rule old new n
  pub file_to_rule_to_file : (t meet rule meet' rule' : List ℕ) (r : Result C.form.Numbers Refusal) → C.Reads t meet rule meet' rule' r →
      (found : C.form.Numbers) → yield_of r ≡ some found → (old new : List ℕ) (w : Result ℕ Refusal) →
      C.Writes (C.setup_from found meet') (C.nodes_from found rule') old new w →
      length t ≤ length old → (yield_of w ≡ some (length t)) × (new ≡ put t old)
  pub file_to_report : (t old new : List ℕ) (r : Result ℕ Refusal) → C.Reports_by t old new r → (n : ℕ) → yield_of r ≡ some n →
      (s : List ℕ) × Prints C.form t s × ((other : List ℕ) → Prints C.form t other → other ≡ s) × (n ≡ length s) × (new ≡ put s old)
  pub file_to_tokens : (t : List ℕ) → TokensBy C.form.Shown C.form.tokens_of t (C.tokens t)
      × ((other : List ℕ) → TokensBy C.form.Shown C.form.tokens_of t other → other ≡ C.tokens t)

-- Demand 2: "rule to table, table to rule, file to rule agree with source 000 and document 01".
pub record DemandTwo : Type 0 where
  -- "the table has the rule's values on every event sequence"
  pub rule_to_table : (s : Setup) (rule old : List ℕ) (n : ℕ) → yield_of (compile_answer state_limit s rule old) ≡ some n →
      (t : Machine ℕ ℕ) × IsRuleTable s rule n t × (compile_contents state_limit s rule old ≡ put (table_bytes (entry_bytes s.kind) s.events t n) old)
  -- "a rule written from a table has the table's values"
  pub table_to_rule : (s : Setup) (states start : ℕ) (table old : List ℕ) (n : ℕ) →
      yield_of (write_answer table_limit node_limit s states start table old) ≡ some n → (φ : Formula ℕ) × IsWritten s start table φ × (n ≡ size φ)
      × (write_contents table_limit node_limit s states start table old ≡ put (encode_formula (node_bytes s.kind) φ) old)
  -- and handed to `compile` it is refused for room alone, and its table has the start's values
  pub table_to_rule_to_table : (s : Setup) (states start : ℕ) (table old : List ℕ) (n : ℕ) →
      yield_of (write_answer table_limit node_limit s states start table old) ≡ some n →
      (φ : Formula ℕ) → IsWritten s start table φ → (to : List ℕ) → Recompiled s start table (encode_formula (node_bytes s.kind) φ) to
  -- "file to rule", of both forms of files
  pub files : FilesAgree number_calls
  pub register_files : FilesAgree register_calls

-- A device's trial against the table of n states that `compile` stored for a rule.
abbrev pub rule_trial_input : Setup → List ℕ → List ℕ → ℕ → ℕ → ℕ → List ℕ → TrialInput
rule_trial_input s rule to n states start device =
    input s n (take (n * s.events * entry_width s.kind) (compile_contents state_limit s rule to)) states start device

-- Demand 3: "the channel's record is its rule's meaning", for every list of calls; "channels are independent"; "a device passes trial
-- exactly if its start satisfies the rule by the set definition, which builds no table".
pub record DemandThree : Type 1 where
  pub record_of_calls : (s : ToolSetup) → reply_refusal (set_up_called s).0 ≡ none → (calls : List (Call Occurrence)) →
      AsLogged s calls (replies called calls (set_up_called s).1) (tool_setup_of (final called calls (set_up_called s).1))
      (channels (final called calls (set_up_called s).1))
  -- document 02, F-12: "from equal set-ups, after the same accepted loads and calls on a channel in the same order, restart all being one on every
  -- channel, its events answer the same whatever calls named the others"; so did those calls, and the channel is the same
  pub independence : (s : ToolSetup) → reply_refusal (set_up_called s).0 ≡ none → (c : ℕ) (calls others : List (Call Occurrence)) →
      accepted_on c calls (replies called calls (set_up_called s).1) ≡ accepted_on c others (replies called others (set_up_called s).1) →
      (replies_on c calls (replies called calls (set_up_called s).1) ≡ replies_on c others (replies called others (set_up_called s).1))
      × (channels (final called calls (set_up_called s).1) c ≡ channels (final called others (set_up_called s).1) c)
      × ((i : Occurrence) →
      (called (event c i) (final called calls (set_up_called s).1)).0 ≡ (called (event c i) (final called others (set_up_called s).1)).0)
  -- "Whether a load is accepted may depend on the row totals of others, and on nothing else of theirs"
  pub load_independence : (s : ToolSetup) → reply_refusal (set_up_called s).0 ≡ none → (c : ℕ) (rule : List ℕ) (calls others : List (Call Occurrence)) →
      other_rows c (rows (final called calls (set_up_called s).1)) ≡ other_rows c (rows (final called others (set_up_called s).1)) →
      (called (load c rule) (final called calls (set_up_called s).1)).0 ≡ (called (load c rule) (final called others (set_up_called s).1)).0
  -- on any tool, not only one that a list of calls made: what a load leaves, and a replay is its event calls
  pub loading : (t : Store) → AllCells t → (c : ℕ) (rule : List ℕ) → (called (load c rule) t).0 ≡ accepted →
      LoadedAs (setup_of t) c rule (channels t) (channels (called (load c rule) t).1)
  pub replaying : (t : Store) → AllCells t → (c : ℕ) (word : List Occurrence) (old : List ℕ) → reply_refusal (replayed t c word old).0.0 ≡ none →
      (readings : List (Reading ℕ)) × (replies called (event_calls c word) t ≡ map returned readings) × (length readings ≡ length word)
      × ((replayed t c word old).0 ≡ (last_returned readings, final called (event_calls c word) t))
      × ((replayed t c word old).1 ≡ put (map (λ r. r.value) readings) old)
  -- what a refused set-up hands back is of no use, and a store says all of a tool
  pub refused_set_up : (s : ToolSetup) (r : Refusal) → reply_refusal (set_up_called s).0 ≡ some r → (call : Call Occurrence) →
      called call (set_up_called s).1 ≡ (refused ToolContents, (set_up_called s).1)
  pub one_tool : StoreClaim
  -- a trial of any two tables in order
  pub passes : (x : TrialInput) (old : List ℕ) → refusal_of (trial_answer device_limit table_limit x old) ≡ none →
      Passed (trial_answer device_limit table_limit x old) ↔ Passes x
  pub pass_keeps :
      (x : TrialInput) (old : List ℕ) → Passed (trial_answer device_limit table_limit x old) → trial_buffer device_limit table_limit x old ≡ old
  pub fails : (x : TrialInput) (old : List ℕ) (n : ℕ) → word_length (trial_answer device_limit table_limit x old) ≡ some n →
      FailsBy x word_limit old (trial_buffer device_limit table_limit x old) n
  -- "for every accepted set-up and rule, every well-formed device and every word buffer that is long enough"
  pub rule_trial : (s : Setup) (rule to : List ℕ) (n : ℕ) → yield_of (compile_answer state_limit s rule to) ≡ some n →
      (states start : ℕ) (device word : List ℕ) →
      DeviceInOrder device_limit table_limit (rule_trial_input s rule to n states start device) word → word_limit ≤ length word →
      (φ : Formula ℕ) → rule ≡ encode_formula (node_bytes s.kind) φ →
      Passed (trial_answer device_limit table_limit (rule_trial_input s rule to n states start device) word)
      ↔ Satisfies (setup_meet s) (States states) (machine_of s.kind s.events device) φ start
