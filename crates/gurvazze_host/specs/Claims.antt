-- What is claimed of the codes and of each exported function; each claim is inhabited in proofs/Claims and proofs/HostClaims.
use mathlib.Core.{Path.{◌≡◌}, Logic.{◌↔◌}, Bool.{true, cond}, List.{List, [], ◌∷◌, ◌++◌, flat_map}, Option.{Option, none, some}}
use Rattle.std.specs.Prelude.{ℕ, ◌*◌, ◌/◌, ◌%◌, ◌^◌, ◌≤◌, ◌<◌, length, get_or, take, Some, None, Result}
use Rattle.theory.specs.{Formula.{Formula, size, Answers}, MealyMachine.{Machine, Word}, MachineRuns.{word_values}, TableSatisfaction.{TableSatisfies}}
use Rattle.refusal.specs.{declared.Refusal.{Refusal}, declared.Refusal.TheVariants.{BufferLength, EventNumber}}
use Rattle.refusal.specs.Refusal.{put, Condition, plain, has_place, First, part_of, condition_numbers, right_places, JudgedCall, refusal_of, yield_of}
use Rattle.refusal.specs.{RefusalClaims.{ListedRefusal}, Refusal.{refusal_number, refusal_place}}
use Rattle.formulas.specs.{RuleConditions.{encode_formula, node_bytes}, Claims.{AcceptedFormula}}
use Rattle.text_format.specs.Format.{Outcome}
use Rattle.channel_file.specs.Reading.{read_file}
use Rattle.channel_file.specs.RegisterReading as register_reading
use Rattle.machines.specs.TableBytes.{table_bytes, entry_width, entry_bytes, machine_of, table_condition}
use Rattle.values.specs.Setup.{Setup, SetupValue, setup_meet, setup_top, value_width, value_bytes}
use Rattle.synthesis.specs.{TableOfRule.{compile_conditions, pair_table_conditions, IsRuleTable}, Compilation.{compile_answer, compile_contents}}
use Rattle.characteristic.specs.{RuleOfTable.{write_conditions}, RuleWriting.{write_answer, write_contents}, Claims.{RuleWritten}}
use Rattle.conformance.specs.Trial.{TrialInput, Answer, input, Passes, EndsSame, trial_conditions, FailsBy, Passed}
use Rattle.conformance.specs.{declared.Grade.TheVariants.{Same, Stricter}, Trial.{grade, word_length}}
use Rattle.conformance.specs.TrialAnswer.{trial_answer, trial_buffer}
use Rattle.channel_io.specs.{FileConditions.{FileForm, number_file, ConditionsBy, JudgedText}, RegisterFiles.{register_file}}
use Rattle.gurvazze_host.specs.Codes.{code, answer_code, verdict_code, replay_code, table_numbers, told_values, told_top, SmallNumbers}
use Rattle.gurvazze_host.specs.FileCalls.{pair_machine, file_replay_refusal, file_trial, file_trial_refusal, file_trial_answer, file_trial_buffer}
use Rattle.gurvazze_host.specs.FileCalls.{table_answer, table_after, replay_answer, replay_after}
use Rattle.limits.specs.Limits.{state_limit, device_limit, table_limit, word_limit, node_limit}

-- ---- what a caller reads from a code

-- The low byte is 0 exactly if nothing is refused. Else it is the refusal's refusal-number, and the refusal-place, if that refusal-number has one, stands
-- above it.
pub record TellsRefusal (answer : Option Refusal) (r : ℕ) : Type 0 where
  pub accepted : (answer ≡ none) ↔ (r % 256 ≡ 0)
  pub number_is : (refusal : Refusal) → answer ≡ some refusal → refusal_number refusal ≡ r % 256
  pub place_is : (refusal : Refusal) → answer ≡ some refusal → refusal_place refusal ≡ cond (has_place (r % 256)) (Some (r / 256)) None

-- Beside no refusal, the count stands above the low byte.
pub record TellsCount (answer : Result ℕ Refusal) (r : ℕ) : Type 0 where
  pub refusal : TellsRefusal (refusal_of answer) r
  pub count_is : (n : ℕ) → (yield_of answer ≡ some n) ↔ ((r % 256 ≡ 0) × (r / 256 ≡ n))

-- So does the length of a failing word, which is not 0 and no more than the longest; 0 says that the device passed as same, and 65,536
-- above the low byte that it passed as stricter.
pub record TellsVerdict (answer : Answer) (r : ℕ) : Type 0 where
  pub refusal : TellsRefusal (refusal_of answer) r
  pub same : (grade answer ≡ some Same) ↔ (r ≡ 0)
  pub stricter : (grade answer ≡ some Stricter) ↔ ((r % 256 ≡ 0) × (r / 256 ≡ 65536))
  pub word_length_is : (n : ℕ) → (word_length answer ≡ some n) ↔ ((r % 256 ≡ 0) × (r / 256 ≡ n) × (1 ≤ n) × (n ≤ word_limit))

-- The numbers of a table, from what stands above the low byte.
pub record TellsNumbers (states events values top x : ℕ) : Type 0 where
  pub states_are : x % 2 ^ 16 ≡ states
  pub events_are : x / 2 ^ 16 % 2 ^ 8 ≡ events
  pub values_are : x / 2 ^ 24 % 2 ^ 8 ≡ values
  pub top_is : x / 2 ^ 32 ≡ top

-- Those of a table over a set-up.
abbrev pub TellsTable : Setup → ℕ → ℕ → Type 0
TellsTable s states x = TellsNumbers states s.events (told_values s.kind) (told_top s.kind s.top) x

-- An answer whose refusal, if it has one, is of the list: its refusal-number is not 0 and fits a byte (refusal's ListedRefusalClaim).
abbrev pub ListedAnswer : Option Refusal → Type 0
ListedAnswer answer = (refusal : Refusal) → answer ≡ some refusal → ListedRefusal refusal

-- A code says all of an answer.
pub record CodeClaim : Type 0 where
  pub refusals : (answer : Option Refusal) (yield : ℕ) → TellsRefusal answer (code answer yield)
  pub yields : (answer : Option Refusal) (yield : ℕ) → answer ≡ none → code answer yield / 256 ≡ yield
  pub counts : (answer : Result ℕ Refusal) → TellsCount answer (answer_code answer)
  pub verdicts :
      (answer : Answer) → ((n : ℕ) → word_length answer ≡ some n → (1 ≤ n) × (n ≤ word_limit)) → TellsVerdict answer (verdict_code answer)
  pub numbers :
      (states events values top : ℕ) → SmallNumbers states events values top →
      TellsNumbers states events values top (table_numbers states events values top)

-- ---- events replayed by a rule

-- The conditions of a replay: those of the set-up and 5 to 10; then 16, which the set-up's event count decides; then 13.
abbrev pub file_replay_conditions : List ℕ → List ℕ → Setup → List ℕ → List Condition
file_replay_conditions word old s nodes =
    pair_table_conditions s nodes ++ (plain EventNumber (¬ Word s.events word) ∷ plain BufferLength (length old < length word * value_width s.kind) ∷ [])

-- They stand in an order of their own: a tool has its set-up before its events, but without the file's rule there are no events to be
-- too large for. So 16 stands behind 10, and not before 4 as in document 01's order.
unfoldable pub replay_order : List ℕ
replay_order = 4 ∷ 1 ∷ 2 ∷ 3 ∷ 20 ∷ 5 ∷ 6 ∷ 7 ∷ 8 ∷ 23 ∷ 9 ∷ 10 ∷ 16 ∷ 13 ∷ []

-- What refusal's Judged says, in that order.
pub record JudgedReplay (cs : List Condition) (answer : Option Refusal) : Type 0 where
  pub first : First cs answer
  pub only : (other : Option Refusal) → First cs other → other ≡ answer
  pub ordered : part_of (condition_numbers cs) replay_order ≡ true
  pub placed : right_places cs ≡ true

-- The values that a replay writes are the rule's: on each event its value after the events before it, by followers (`Answers`).
pub record Replayed (s : Setup) (nodes word values : List ℕ) : Type 0 where
  pub rule : Formula ℕ
  pub rule_is : AcceptedFormula s.events s.kind nodes rule
  pub same_length : length values ≡ length word
  pub answers : (i : ℕ) → i < length word → Answers (setup_meet s) (setup_top s) rule (take i word) (get_or word i 0) (get_or values i 0)

abbrev pub FileReplayClaim : Type 0
FileReplayClaim =
    (s : Setup) (nodes word old : List ℕ) → file_replay_refusal s nodes word old ≡ none →
    Replayed s nodes word (word_values (pair_machine s nodes) 0 word)

-- ---- trial against a rule

-- The conditions of a trial against a file's rule: those of the set-up and 5 to 10; then 11 for the device; then 13. The rule's own table never
-- meets 11.
abbrev pub file_trial_conditions : ℕ → ℕ → List ℕ → List ℕ → Setup → List ℕ → List Condition
file_trial_conditions states start device old s nodes =
    pair_table_conditions s nodes
    ++ (table_condition (entry_width s.kind) device_limit s.events (SetupValue s) states start device (machine_of s.kind s.events device)
    ∷ plain BufferLength (length old < word_limit)
    ∷ [])

-- It passes exactly if the device's start satisfies the rule by the set definition.
pub record Tried (s : Setup) (nodes : List ℕ) (states start : ℕ) (device old : List ℕ) : Type 0 where
  pub rule : Formula ℕ
  pub rule_is : AcceptedFormula s.events s.kind nodes rule
  pub passes :
      Passed (trial_answer device_limit table_limit (file_trial s nodes states start device) old)
      ↔ TableSatisfies (setup_meet s) states (machine_of s.kind s.events device) rule start

abbrev pub FileTrialClaim : Type 0
FileTrialClaim =
    (s : Setup) (nodes : List ℕ) (states start : ℕ) (device old : List ℕ) → file_trial_refusal s nodes states start device old ≡ none →
    Tried s nodes states start device old

-- ---- each exported function: the conditions that it is judged by, what its code tells, that beside a refusal the lent buffer is as
-- before, and what an accepted call yields

-- An accepted trial: a device passes exactly if its start is simulated, as same or as stricter, and then the word buffer is as before; else
-- it shows the word.
pub record TrialMade (x : TrialInput) (old new : List ℕ) (v : Answer) : Type 1 where
  pub passes : Passed v ↔ Passes x
  pub same : (grade v ≡ some Same) ↔ EndsSame x
  pub stricter : (grade v ≡ some Stricter) ↔ (Passes x × ¬ EndsSame x)
  pub kept : Passed v → new ≡ old
  pub fails : (n : ℕ) → word_length v ≡ some n → FailsBy x word_limit old new n

-- What is said of a text, for any form of files; what is of a register's file is in brackets.
module _ (F : FileForm) where
  -- The list that a text is judged by, with conditions of the set-up and the nodes that it shows.
  abbrev pub TextConditions : List ℕ → (Setup → List ℕ → List Condition) → List Condition → Type 1
  TextConditions t conditions = ConditionsBy F.Shown t (λ c. conditions (F.setup_of c) (F.nodes_of c))

  -- An accepted gurvazze_table [gurvazze_register_table]: the table of the text's rule, and its numbers.
  pub record TableMade (t old new : List ℕ) (r : ℕ) : Type 0 where
    pub inside : F.Inside
    pub shown : F.Shown inside t
    pub states : ℕ
    pub table : Machine ℕ ℕ
    pub is_table : IsRuleTable (F.setup_of inside) (F.nodes_of inside) states table
    pub table_put : new ≡ put (table_bytes (entry_bytes (F.setup_of inside).kind) (F.setup_of inside).events table states) old
    pub numbers : TellsTable (F.setup_of inside) states (r / 256)

  -- 4, 1 to 3 [1, 20], 5 to 10, 13.
  pub record TableCall (t old new : List ℕ) (r : ℕ) : Type 1 where
    pub answer : Option Refusal
    pub judged : JudgedText F t (λ s nodes. compile_conditions state_limit s nodes old) answer old new
    pub of_list : ListedAnswer answer
    pub told : TellsRefusal answer r
    pub made : answer ≡ none → TableMade t old new r

  -- An accepted gurvazze_replay [gurvazze_register_replay]: the values of the text's rule, one for each event, in bytes.
  pub record ReplayMade (t word old new : List ℕ) : Type 0 where
    pub inside : F.Inside
    pub shown : F.Shown inside t
    pub values : List ℕ
    pub replayed : Replayed (F.setup_of inside) (F.nodes_of inside) word values
    pub values_put : new ≡ put (flat_map (value_bytes (F.setup_of inside).kind) values) old

  -- 4, 1 to 3 [1, 20], 5 to 10, 16, 13, in its own order.
  pub record ReplayCall (t word old new : List ℕ) (r : ℕ) : Type 1 where
    pub answer : Option Refusal
    pub listed : (cs : List Condition) × TextConditions t (file_replay_conditions word old) cs
    pub judged : (cs : List Condition) → TextConditions t (file_replay_conditions word old) cs → JudgedReplay cs answer
    pub kept : (refusal : Refusal) → answer ≡ some refusal → new ≡ old
    pub of_list : ListedAnswer answer
    pub told : TellsRefusal answer r
    pub yields_zero : answer ≡ none → r ≡ 0
    pub made : answer ≡ none → ReplayMade t word old new

  -- An accepted gurvazze_trial [gurvazze_register_trial]: that of the device against the table of the text's rule; it passes exactly if the
  -- device satisfies it.
  pub record FileTrialMade (t : List ℕ) (states start : ℕ) (device old new : List ℕ) (v : Answer) : Type 1 where
    pub inside : F.Inside
    pub shown : F.Shown inside t
    pub rule_states : ℕ
    pub table : List ℕ
    pub is_table :
        IsRuleTable (F.setup_of inside) (F.nodes_of inside) rule_states (machine_of (F.setup_of inside).kind (F.setup_of inside).events table)
    pub made : TrialMade (input (F.setup_of inside) rule_states table states start device) old new v
    pub satisfies :
        Passed v
        ↔ TableSatisfies (setup_meet (F.setup_of inside)) states (machine_of (F.setup_of inside).kind (F.setup_of inside).events device)
        is_table.formula start

  -- 4, 1 to 3 [1, 20], 5 to 10, 11, 13.
  pub record FileTrialCall (t : List ℕ) (states start : ℕ) (device old new : List ℕ) (r : ℕ) : Type 1 where
    pub answer : Answer
    pub judged : JudgedText F t (file_trial_conditions states start device old) (refusal_of answer) old new
    pub of_list : ListedAnswer (refusal_of answer)
    pub told : TellsVerdict answer r
    pub made : refusal_of answer ≡ none → FileTrialMade t states start device old new answer

  -- For every input of the three functions on a text, and the code and the later buffer that its contract gives, by the form's reader.
  pub record FileCallClaim (read : List ℕ → Outcome F.Inside) : Type 1 where
    pub table : (t old new : List ℕ) (r : ℕ) → r ≡ answer_code (table_answer F (read t) old) → new ≡ table_after F (read t) old → TableCall t old new r
    pub replay :
        (t word old new : List ℕ) (r : ℕ) → r ≡ replay_code (replay_answer F (read t) word old) → new ≡ replay_after F (read t) word old →
        ReplayCall t word old new r
    pub trial :
        (t : List ℕ) (states start : ℕ) (device old new : List ℕ) (r : ℕ) → r ≡ verdict_code (file_trial_answer F (read t) states start device old) →
        new ≡ file_trial_buffer F (read t) states start device old → FileTrialCall t states start device old new r

-- gurvazze_trial_table: 1 to 3, 11, 13; gurvazze_register_trial_table: 1, 20, 11, 13.
pub record TrialCall (x : TrialInput) (old new : List ℕ) (r : ℕ) : Type 1 where
  pub answer : Answer
  pub judged : JudgedCall (trial_conditions device_limit table_limit x old) (refusal_of answer) old new
  pub of_list : ListedAnswer (refusal_of answer)
  pub told : TellsVerdict answer r
  pub made : refusal_of answer ≡ none → TrialMade x old new answer

-- An accepted gurvazze_compile or gurvazze_register_compile: the table of the rule, and its count of states.
pub record CompileMade (s : Setup) (rule old new : List ℕ) (answer : Result ℕ Refusal) : Type 0 where
  pub states : ℕ
  pub table : Machine ℕ ℕ
  pub is_table : IsRuleTable s rule states table
  pub count_is : yield_of answer ≡ some states
  pub table_put : new ≡ put (table_bytes (entry_bytes s.kind) s.events table states) old

-- gurvazze_compile: 1 to 3, 5 to 10, 13; gurvazze_register_compile: 1, 20, 5 to 10, 13.
pub record CompileCall (s : Setup) (rule old new : List ℕ) (r : ℕ) : Type 1 where
  pub answer : Result ℕ Refusal
  pub judged : JudgedCall (compile_conditions state_limit s rule old) (refusal_of answer) old new
  pub of_list : ListedAnswer (refusal_of answer)
  pub told : TellsCount answer r
  pub made : refusal_of answer ≡ none → CompileMade s rule old new answer

-- An accepted gurvazze_rule or gurvazze_register_rule: the rule of the table, and its node count.
pub record RuleMade (s : Setup) (start : ℕ) (table old new : List ℕ) (answer : Result ℕ Refusal) : Type 0 where
  pub rule : Formula ℕ
  pub rule_written : RuleWritten s start table rule
  pub count_is : yield_of answer ≡ some (size rule)
  pub nodes_put : new ≡ put (encode_formula (node_bytes s.kind) rule) old

-- gurvazze_rule: 1 to 3, 11, 12, 23, 13; gurvazze_register_rule: 1, 20, 11, 12, 23, 13.
pub record RuleCall (s : Setup) (states start : ℕ) (table old new : List ℕ) (r : ℕ) : Type 1 where
  pub answer : Result ℕ Refusal
  pub judged : JudgedCall (write_conditions table_limit node_limit s states start table (length old)) (refusal_of answer) old new
  pub of_list : ListedAnswer (refusal_of answer)
  pub told : TellsCount answer r
  pub made : refusal_of answer ≡ none → RuleMade s start table old new answer

-- For every input of each function, and the code and the later buffer that its contract gives. What takes a text is claimed of both forms of
-- files; what takes a set-up is claimed of every set-up: gurvazze_compile, gurvazze_trial_table and gurvazze_rule are the instances at `setup`,
-- gurvazze_register_compile, gurvazze_register_trial_table and gurvazze_register_rule those at `register_setup`.
pub record HostClaim : Type 1 where
  pub codes : CodeClaim
  pub gurvazze_file : FileCallClaim number_file read_file
  pub gurvazze_register_file : FileCallClaim register_file register_reading.read_file
  pub gurvazze_compile :
      (s : Setup) (rule old new : List ℕ) (r : ℕ) → r ≡ answer_code (compile_answer state_limit s rule old) →
      new ≡ compile_contents state_limit s rule old → CompileCall s rule old new r
  pub gurvazze_trial_table :
      (x : TrialInput) (old new : List ℕ) (r : ℕ) → r ≡ verdict_code (trial_answer device_limit table_limit x old) →
      new ≡ trial_buffer device_limit table_limit x old → TrialCall x old new r
  pub gurvazze_rule :
      (s : Setup) (states start : ℕ) (table old new : List ℕ) (r : ℕ) →
      r ≡ answer_code (write_answer table_limit node_limit s states start table old) →
      new ≡ write_contents table_limit node_limit s states start table old → RuleCall s states start table old new r
