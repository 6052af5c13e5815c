-- Document 01, "Marked for proof": the twelve cases in its order, the seventh as document 02 changes it, and what it is for a case to hold, by
-- the documents' definitions; then cases of our own for document 02's requests. Two events; the four-value set, or a register in its form.
use mathlib.Core.{Path.{◌≡◌}, Logic.{Lift}, List.{List, [], ◌∷◌, ◌++◌, map}, Option.{Option, none, some}}
use Rattle.std.specs.Prelude.{ℕ, zero, suc, ◌*◌, ◌/◌, ◌%◌}
use Rattle.limits.specs.Limits.{device_limit, table_limit}
use Rattle.theory.specs.ValueSets.{four_value_meet, pack, top_masks}
use Rattle.theory.specs.Formula.{Formula, size, Answers, Node, truth_node, variable_node, transition_node, output_node, conjunction_node, greatest_node, nodes}
use Rattle.theory.specs.{ReachableStates.{IsTableOf}, CharacteristicFormula.{Writes}}
use Rattle.theory.specs.MealyMachine.{Machine, States, Simulated, SameValues, FirstCounterexample, Implies}
use Rattle.refusal.specs.{declared.Refusal.{Refusal}, Refusal.{First}}
use Rattle.values.specs.{declared.ValueKind.{ValueKind}, declared.ValueKind.TheVariants.{Numbered, Register}}
use Rattle.values.specs.Setup.{Setup, setup_of_kind, register_setup, SetupValue, setup_meet, setup_top, setup_conditions, mask_bytes}
use Rattle.formulas.specs.{RuleConditions.{encode_all, node_bytes, byte_conditions}, RuleCases.{below_binders}}
use Rattle.machines.specs.TableBytes.{table_bytes, entry_bytes, entry_width, machine_of, table_condition}
use Rattle.text_format.specs.Texts.{ascii}
use Rattle.channel_io.specs.{FileConditions.{FileForm, number_file}, RegisterFiles.{register_file}}
use Rattle.table_report.specs.PrintedTable.{Prints}
use Rattle.channel_log.specs.Distance.{wheel_of_turn, distance, TotalAbove}
use Rattle.refusal.specs.declared.Refusal.TheVariants.{BinderDepth, NodeFields, NodeTree, SetupEvents}
use Rattle.refusal.specs.declared.Refusal.TheVariants.{SetupLines, TableLimits, UnboundVariable, UnprotectedVariable}

-- Items of a rule, as the channel file has them.
abbrev pub T : Node ℕ
T = truth_node

abbrev pub X : ℕ → Node ℕ
X n = variable_node n

abbrev pub G : ℕ → Node ℕ
G e = transition_node e

abbrev pub O : ℕ → ℕ → Node ℕ
O e v = output_node e v

abbrev pub A : Node ℕ
A = conjunction_node

abbrev pub «V» : Node ℕ
«V» = greatest_node

-- A case: what is given, and what document 01 says of it. Values are those of the four-value set; rows are value and next state, by state,
-- then event.
pub data Case : Type 0 where
  -- the rule is accepted and its table has so many states and these rows
  tabled : List (Node ℕ) → ℕ → List ℕ → Case
  -- the program prints the second text for the first, both by the kind of values
  printed : (ValueKind → List ℕ) → (ValueKind → List ℕ) → Case
  -- this event repeated gives the first value, then the second for ever
  repeated : List (Node ℕ) → (event first later : ℕ) → Case
  -- the rule is refused
  refused : List (Node ℕ) → Refusal → Case
  -- the rule of these rows of so many states from state 0 has so many nodes, and that rule's table is these rows
  written : ℕ → List ℕ → ℕ → Case
  -- a device of these rows of so many states from state 0 fails against the rule's table, with this word first
  failing : ℕ → List ℕ → List (Node ℕ) → List ℕ → Case
  -- a device of one state with this value on both events passes every rule
  passing : ℕ → Case
  -- a device of these rows of so many states from state 0 passes against the rule's table as same; as stricter (document 02, F-5)
  passing_same : ℕ → List ℕ → List (Node ℕ) → Case
  passing_stricter : ℕ → List ℕ → List (Node ℕ) → Case
  -- the first rule implies the second; it does not, and its table as a device fails against the second with this word first (document 02, F-14)
  implying : List (Node ℕ) → List (Node ℕ) → Case
  not_implying : List (Node ℕ) → List (Node ℕ) → List ℕ → Case
  -- with a wheel of so many pulses and millimetres per turn a total is so many millimetres, with this remainder; a total with more pulses is
  -- within the limit of 19; it is above (document 02, F-6)
  measured : (pulses millimetres total whole remainder : ℕ) → Case
  total_within : (total pulses : ℕ) → Case
  total_above : (total pulses : ℕ) → Case
  -- where a table may have so many states, one of so many, each with both values 3 and back to state 0, is taken or refused so (document 02, F-12)
  handed : (most states : ℕ) → Option Refusal → Case
  -- a register's set-up is accepted or refused so; and over two events and so many lines the rule O 1 with these masks (document 02, F-7)
  registered : (events lines : ℕ) → Option Refusal → Case
  masked : (lines low high : ℕ) → Option Refusal → Case

-- An event so many times.
abbrev pub times : ℕ → ℕ → List ℕ
times zero e = []
times (suc k) e = e ∷ times k e

-- The rows of one state with this value on both events; of so many states, each with both values 3 and back to state 0.
abbrev pub both : ℕ → List ℕ
both v = v ∷ 0 ∷ v ∷ 0 ∷ []

abbrev pub rows_to_0 : ℕ → List ℕ
rows_to_0 zero = []
rows_to_0 (suc n) = both 3 ++ rows_to_0 n

-- A form of the cases: a set of values, and how a value of the four-value set is one of them.
pub record Form : Type 0 where
  pub kind : ValueKind
  pub top : ℕ
  pub meet : List ℕ
  pub value : ℕ → ℕ

-- Document 01's.
abbrev pub four_values : Form
four_values = record { kind = Numbered 4; top = 3; meet = four_value_meet; value = λ v. v }

-- A register of sixteen lines (document 02, F-7), all of which show the value: may be low for 1 and 3, may be high for 2 and 3.
abbrev pub sixteen_lines : Form
sixteen_lines =
    record { kind = Register 16; top = pack (top_masks 16); meet = []; value = λ v. pack (record { low = v % 2 * 65535; high = v / 2 * 65535 }) }

-- The form of files for a kind of values.
abbrev pub file_form : ValueKind → FileForm
file_form (Numbered values) = number_file
file_form (Register lines) = register_file

module _ (f : Form) where
  abbrev pub s : Setup
  s = setup_of_kind 2 f.kind f.top f.meet

  -- A rule, and rows in bytes.
  abbrev pub node_in : Node ℕ → Node ℕ
  node_in truth_node = truth_node
  node_in (variable_node n) = variable_node n
  node_in (transition_node e) = transition_node e
  node_in (output_node e v) = output_node e (f.value v)
  node_in conjunction_node = conjunction_node
  node_in greatest_node = greatest_node

  abbrev pub rule_in : List (Node ℕ) → List (Node ℕ)
  rule_in rule = map node_in rule

  abbrev pub rows_in : List ℕ → List ℕ
  rows_in [] = []
  rows_in (v ∷ []) = []
  rows_in (v ∷ t ∷ rows) = entry_bytes f.kind (f.value v) t ++ rows_in rows

  -- φ is the rule of these nodes, accepted by 5 to 9.
  pub record IsRule (rule : List (Node ℕ)) (φ : Formula ℕ) : Type 0 where
    pub of_nodes : nodes φ ≡ rule
    pub accepted : First (byte_conditions s.events s.kind (encode_all (node_bytes s.kind) rule)) none

  -- t is the table of the rule φ, of n states.
  abbrev pub TableOf : Formula ℕ → ℕ → Machine ℕ ℕ → Type 0
  TableOf φ n t = IsTableOf (setup_meet s) (setup_top s) s.events φ n t

  abbrev pub rows_of : Machine ℕ ℕ → ℕ → List ℕ
  rows_of t n = table_bytes (entry_bytes s.kind) s.events t n

  -- The device of these rows.
  abbrev pub device : List ℕ → Machine ℕ ℕ
  device rows = machine_of s.kind s.events (rows_in rows)

  unfoldable pub Holds : Case → Type 1
  Holds (tabled rule n rows) =
      Lift {0, 1} ((φ : Formula ℕ) × IsRule (rule_in rule) φ × ((t : Machine ℕ ℕ) × TableOf φ n t × (rows_of t n ≡ rows_in rows)))
  Holds (printed text output) = Lift {0, 1} (Prints (file_form f.kind) (text f.kind) (output f.kind))
  Holds (repeated rule e first later) =
      Lift {0, 1}
      ((φ : Formula ℕ) × IsRule (rule_in rule) φ × Answers (setup_meet s) (setup_top s) φ [] e (f.value first)
      × ((k : ℕ) → Answers (setup_meet s) (setup_top s) φ (times (suc k) e) e (f.value later)))
  Holds (refused rule refusal) = Lift {0, 1} (First (byte_conditions s.events s.kind (encode_all (node_bytes s.kind) (rule_in rule))) (some refusal))
  Holds (written n rows count) =
      Lift {0, 1}
      ((φ : Formula ℕ) × Writes (device rows) s.events [] 0 φ × (size φ ≡ count)
      × ((t : Machine ℕ ℕ) × TableOf φ n t × (rows_of t n ≡ rows_in rows)))
  Holds (failing k rows rule word) =
      Lift {0, 1}
      ((φ : Formula ℕ) × IsRule (rule_in rule) φ × ((n : ℕ) (t : Machine ℕ ℕ) → TableOf φ n t →
      FirstCounterexample s.events (setup_meet s) (device rows) t 0 0 word))
  Holds (passing v) =
      (any : List (Node ℕ)) (φ : Formula ℕ) → IsRule any φ → (n : ℕ) (t : Machine ℕ ℕ) → TableOf φ n t →
      Simulated s.events (setup_meet s) (States 1) (device (both v)) (States n) t 0 0
  Holds (passing_same k rows rule) =
      Lift {0, 1}
      ((φ : Formula ℕ) × IsRule (rule_in rule) φ × ((n : ℕ) (t : Machine ℕ ℕ) → TableOf φ n t → SameValues s.events (device rows) t 0 0))
  Holds (passing_stricter k rows rule) =
      (φ : Formula ℕ) × Lift {0, 1} (IsRule (rule_in rule) φ) × ((n : ℕ) (t : Machine ℕ ℕ) → TableOf φ n t →
      Simulated s.events (setup_meet s) (States k) (device rows) (States n) t 0 0 × ¬ SameValues s.events (device rows) t 0 0)
  Holds (implying first second) =
      (φ : Formula ℕ) × (χ : Formula ℕ) × Lift {0, 1} (IsRule (rule_in first) φ) × Lift {0, 1} (IsRule (rule_in second) χ)
      × Implies s.events (SetupValue s) (setup_meet s) φ χ
  Holds (not_implying first second word) =
      (φ : Formula ℕ) × (χ : Formula ℕ) × Lift {0, 1} (IsRule (rule_in first) φ) × Lift {0, 1} (IsRule (rule_in second) χ)
      × (¬ Implies s.events (SetupValue s) (setup_meet s) φ χ)
      × ((n : ℕ) (m : Machine ℕ ℕ) → TableOf φ n m → (k : ℕ) (t : Machine ℕ ℕ) → TableOf χ k t →
      Lift {0, 1} (FirstCounterexample s.events (setup_meet s) m t 0 0 word))
  Holds (measured pulses millimetres total whole remainder) = Lift {0, 1} (distance (wheel_of_turn pulses millimetres) total ≡ (whole, remainder))
  Holds (total_within total pulses) = Lift {0, 1} (¬ TotalAbove (some total) pulses)
  Holds (total_above total pulses) = Lift {0, 1} (TotalAbove (some total) pulses)
  Holds (handed most n answer) =
      Lift {0, 1}
      (First (table_condition (entry_width s.kind) most s.events (SetupValue s) n 0 (rows_in (rows_to_0 n)) (device (rows_to_0 n)) ∷ []) answer)
  Holds (registered events lines answer) = Lift {0, 1} (First (setup_conditions (register_setup events lines)) answer)
  Holds (masked lines low high answer) =
      Lift {0, 1} (First (byte_conditions 2 (Register lines) (3 ∷ 1 ∷ (mask_bytes low ++ mask_bytes high))) answer)

-- The file above, and its rows. A register's file has the same rule, with all sixteen lines low where document 01's has the value 1.
abbrev pub second_file : ValueKind → List ℕ
second_file (Numbered values) = ascii "events=2\nvalues=4\ntop=3\nmeet=0 0 0 0 0 1 0 1 0 0 2 2 0 1 2 3\nrule=A O1.1 V G1 X0\n"
second_file (Register lines) = ascii "events=2\nlines=16\nrule=A O1.65535.0 V G1 X0\n"

abbrev pub second_rows : ValueKind → List ℕ
second_rows (Numbered values) = ascii "events=2\nstates=3\nrow=0 0 3 1\nrow=0 1 1 2\nrow=1 0 3 1\nrow=1 1 3 1\nrow=2 0 3 1\nrow=2 1 3 2\n"
second_rows (Register lines) =
    ascii "events=2\nstates=3\nrow=0 0 65535 65535 1\nrow=0 1 65535 0 2\nrow=1 0 65535 65535 1\n"
    ++ ascii "row=1 1 65535 65535 1\nrow=2 0 65535 65535 1\nrow=2 1 65535 65535 2\n"

abbrev pub cases : List Case
cases =
    -- 1. one state, values 3 and 3
    tabled (T ∷ []) 1 (3 ∷ 0 ∷ 3 ∷ 0 ∷ [])
    -- 2. the file above: its rows
    ∷ printed second_file second_rows
    -- 3. two states; event 0 first gives 0
    ∷ tabled (A ∷ O 0 1 ∷ O 0 2 ∷ []) 2 (0 ∷ 1 ∷ 3 ∷ 1 ∷ 3 ∷ 1 ∷ 3 ∷ 1 ∷ [])
    -- 4. three states; event 1 repeated gives 3, then 1 for ever
    ∷ tabled («V» ∷ A ∷ G 1 ∷ O 1 1 ∷ G 1 ∷ X 0 ∷ []) 3 (3 ∷ 1 ∷ 3 ∷ 2 ∷ 3 ∷ 1 ∷ 3 ∷ 1 ∷ 3 ∷ 1 ∷ 1 ∷ 2 ∷ [])
    ∷ repeated («V» ∷ A ∷ G 1 ∷ O 1 1 ∷ G 1 ∷ X 0 ∷ []) 1 3 1
    -- 5 to 9; 7 is accepted, with three states (document 02, F-2)
    ∷ refused (X 0 ∷ []) (UnboundVariable 0)
    ∷ refused («V» ∷ X 0 ∷ []) (UnprotectedVariable 1)
    ∷ tabled («V» ∷ G 0 ∷ «V» ∷ A ∷ X 1 ∷ G 0 ∷ X 0 ∷ []) 3 (3 ∷ 1 ∷ 3 ∷ 2 ∷ 3 ∷ 1 ∷ 3 ∷ 2 ∷ 3 ∷ 2 ∷ 3 ∷ 2 ∷ [])
    ∷ refused (A ∷ T ∷ []) (NodeTree 2)
    ∷ refused (T ∷ T ∷ []) (NodeTree 1)
    -- 10. two states
    ∷ tabled («V» ∷ «V» ∷ G 0 ∷ X 1 ∷ []) 2 (3 ∷ 0 ∷ 3 ∷ 1 ∷ 3 ∷ 1 ∷ 3 ∷ 1 ∷ [])
    -- 11. 19 nodes, and the same rows
    ∷ written 2 (1 ∷ 0 ∷ 2 ∷ 1 ∷ 2 ∷ 1 ∷ 1 ∷ 1 ∷ []) 19
    -- 12. both values 3, against case 3: fails, word 0; both values 0: passes every rule
    ∷ failing 1 (both 3) (A ∷ O 0 1 ∷ O 0 2 ∷ []) (0 ∷ [])
    ∷ passing 0
    ∷ []

-- Cases of our own for document 02, which marks none.
abbrev pub request_cases : List Case
request_cases =
    -- F-1. the first word: the smaller event; the smaller at the first difference; the shortest
    failing 1 (both 3) (A ∷ O 0 1 ∷ O 1 1 ∷ []) (0 ∷ [])
    ∷ failing 1 (both 3) (A ∷ G 0 ∷ O 1 1 ∷ G 1 ∷ O 0 1 ∷ []) (0 ∷ 1 ∷ [])
    ∷ failing 1 (both 3) (A ∷ G 1 ∷ O 0 1 ∷ G 0 ∷ G 0 ∷ O 0 1 ∷ []) (1 ∷ 0 ∷ [])
    -- F-5. T has both values 3; both 0 are stricter; the table of A O0.1 O0.2 is stricter than O0.1, the table of O0.1 fails against the other;
    -- the table of A O1.1 V G1 X0, of three states, has the values of O1.1
    ∷ passing_same 1 (both 3) (T ∷ [])
    ∷ passing_stricter 1 (both 0) (T ∷ [])
    ∷ passing_stricter 2 (0 ∷ 1 ∷ 3 ∷ 1 ∷ 3 ∷ 1 ∷ 3 ∷ 1 ∷ []) (O 0 1 ∷ [])
    ∷ failing 2 (1 ∷ 1 ∷ 3 ∷ 1 ∷ 3 ∷ 1 ∷ 3 ∷ 1 ∷ []) (A ∷ O 0 1 ∷ O 0 2 ∷ []) (0 ∷ [])
    ∷ passing_same 3 (3 ∷ 1 ∷ 1 ∷ 2 ∷ 3 ∷ 1 ∷ 3 ∷ 1 ∷ 3 ∷ 1 ∷ 3 ∷ 2 ∷ []) (O 1 1 ∷ [])
    -- F-14. O0.0 and A O0.1 O0.2 imply each other; value 1 as long as event 0 repeats implies value 1 on the first two, not the reverse;
    -- T implies O0.3, since 3 is top
    ∷ implying (O 0 0 ∷ []) (A ∷ O 0 1 ∷ O 0 2 ∷ [])
    ∷ implying (A ∷ O 0 1 ∷ O 0 2 ∷ []) (O 0 0 ∷ [])
    ∷ implying («V» ∷ A ∷ O 0 1 ∷ G 0 ∷ X 0 ∷ []) (A ∷ O 0 1 ∷ G 0 ∷ O 0 1 ∷ [])
    ∷ not_implying (A ∷ O 0 1 ∷ G 0 ∷ O 0 1 ∷ []) («V» ∷ A ∷ O 0 1 ∷ G 0 ∷ X 0 ∷ []) (0 ∷ 0 ∷ 0 ∷ [])
    ∷ implying (T ∷ []) (O 0 3 ∷ [])
    -- F-2. no G between X1 and the first V; the G is above the V of X0; it is beside X0; and it protects X1 below an inner V
    ∷ refused («V» ∷ «V» ∷ X 1 ∷ []) (UnprotectedVariable 2)
    ∷ refused («V» ∷ G 0 ∷ «V» ∷ X 0 ∷ []) (UnprotectedVariable 3)
    ∷ refused («V» ∷ A ∷ G 0 ∷ X 0 ∷ X 0 ∷ []) (UnprotectedVariable 4)
    ∷ tabled («V» ∷ G 0 ∷ «V» ∷ X 1 ∷ []) 2 (3 ∷ 0 ∷ 3 ∷ 1 ∷ 3 ∷ 1 ∷ 3 ∷ 1 ∷ [])
    -- F-9. twelve V nodes in a row; thirteen; and thirteen in the second part of an A
    ∷ tabled (below_binders 12 (T ∷ [])) 1 (3 ∷ 0 ∷ 3 ∷ 0 ∷ [])
    ∷ refused (below_binders 13 (T ∷ [])) BinderDepth
    ∷ refused (A ∷ T ∷ below_binders 13 (T ∷ [])) BinderDepth
    ∷ []

-- Cases on limits, which no form changes.
abbrev pub limit_cases : List Case
limit_cases =
    -- F-6. 30 seventh parts of a millimetre; the largest total with the smallest and the largest wheels; totals at the limit, and one above:
    -- 4,294,967,295 pulses 256 times leave room for 256
    measured 7 10 3 4 2
    ∷ measured 1 1 1099511627776 1099511627776 0
    ∷ measured 65535 1 1099511627776 16777472 256
    ∷ measured 1 65535 1099511627776 72056494526300160 0
    ∷ measured 65535 65534 1099511627776 1099494850303 65279
    ∷ total_within 1099511627775 1
    ∷ total_within 1099511627520 256
    ∷ total_above 1099511627520 257
    ∷ total_above 1099511627776 1
    -- F-12. devices of 64 states and of 65; other tables of 256 and of 257
    ∷ handed device_limit 64 none
    ∷ handed device_limit 65 (some TableLimits)
    ∷ handed table_limit 256 none
    ∷ handed table_limit 257 (some TableLimits)
    -- F-7. lines 0, 1, 16 and 17, and 1 before 20; the masks of one line and of sixteen, and a bit at the line count
    ∷ registered 2 0 (some SetupLines)
    ∷ registered 2 1 none
    ∷ registered 2 16 none
    ∷ registered 2 17 (some SetupLines)
    ∷ registered 0 17 (some SetupEvents)
    ∷ masked 1 1 1 none
    ∷ masked 1 2 0 (some (NodeFields 0))
    ∷ masked 15 0 32768 (some (NodeFields 0))
    ∷ masked 15 32767 32767 none
    ∷ masked 16 65535 65535 none
    ∷ []

unfoldable pub AllHold : Form → List Case → Type 1
AllHold f [] = Unit {1}
AllHold f (c ∷ cs) = Holds f c × AllHold f cs

-- The cases hold, in both forms.
pub record MarkedCasesClaim : Type 1 where
  pub numbers : AllHold four_values cases
  pub registers : AllHold sixteen_lines cases

pub record RequestCasesClaim : Type 1 where
  pub numbers : AllHold four_values request_cases
  pub registers : AllHold sixteen_lines request_cases
  pub limits : AllHold four_values limit_cases
