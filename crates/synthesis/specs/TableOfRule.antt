-- The table of a rule in bytes (document 01, "Table of a rule", refusals 10 and 13; document 02, F-7): the conditions that compiling meets.
use mathlib.Core.{Path.{◌≡◌}, List.{List, [], ◌∷◌, ◌++◌}}
use Rattle.std.specs.Prelude.{ℕ, zero, ◌*◌, ◌<◌, length}
use Rattle.theory.specs.{Formula.{Formula, Answers}, MealyMachine.{Machine, Word, after}, ReachableStates.{IsTableOf, StatesAtMost}}
use Rattle.limits.specs.Limits.{state_limit}
use Rattle.refusal.specs.{Refusal.{Condition, plain}, declared.Refusal.TheVariants.{BufferLength, StateCount}}
use Rattle.values.specs.{declared.ValueKind.{ValueKind}, Setup.{Setup, setup_meet, setup_top, setup_conditions}}
use Rattle.formulas.specs.RuleConditions.{node_bytes, encode_formula, OfFormula, byte_conditions}
use Rattle.machines.specs.TableBytes.{entry_width}

module _ (meet : ℕ → ℕ → ℕ) (top events : ℕ) (kind : ValueKind) where
  -- The buffer is shorter than the output: so many bytes an entry of the formula's table.
  pub record TableShort (φ : Formula ℕ) (old : List ℕ) : Type 0 where
    pub states : ℕ
    pub table : Machine ℕ ℕ
    pub is_table : IsTableOf meet top events φ states table
    pub shorter : length old < states * events * entry_width kind

  -- 10: over the limit of states.
  abbrev pub states_condition : List ℕ → ℕ → Condition
  states_condition rule limit = plain StateCount (OfFormula (node_bytes kind) rule (λ φ. ¬ StatesAtMost meet top events φ limit))

  -- 13: lent buffer shorter than the output.
  abbrev pub buffer_condition : List ℕ → List ℕ → Condition
  buffer_condition rule old = plain BufferLength (OfFormula (node_bytes kind) rule (λ φ. TableShort φ old))

-- The conditions of compiling, in order: those of the set-up, 5 to 9, 10, 13.
abbrev pub compile_conditions : ℕ → Setup → List ℕ → List ℕ → List Condition
compile_conditions limit s rule old = setup_conditions s ++ (byte_conditions s.events s.kind rule
    ++ (states_condition (setup_meet s) (setup_top s) s.events s.kind rule limit
    ∷ buffer_condition (setup_meet s) (setup_top s) s.events s.kind rule old
    ∷ []))

-- Of a rule whose table is made: 5 to 9, then 10; of a set-up and a rule: those of the set-up, then 5 to 9, and 10 where the table is made.
abbrev pub rule_conditions_of : Setup → List ℕ → List Condition
rule_conditions_of s rule =
    byte_conditions s.events s.kind rule ++ (states_condition (setup_meet s) (setup_top s) s.events s.kind rule state_limit ∷ [])

abbrev pub pair_conditions : Setup → List ℕ → List Condition
pair_conditions s rule = setup_conditions s ++ byte_conditions s.events s.kind rule

abbrev pub pair_table_conditions : Setup → List ℕ → List Condition
pair_table_conditions s rule = setup_conditions s ++ rule_conditions_of s rule

-- What is made of a rule: the table of the one formula whose code the bytes are, which has that formula's values on every event sequence.
pub record IsRuleTable (s : Setup) (rule : List ℕ) (n : ℕ) (t : Machine ℕ ℕ) : Type 0 where
  pub formula : Formula ℕ
  pub code : rule ≡ encode_formula (node_bytes s.kind) formula
  pub only : (χ : Formula ℕ) → rule ≡ encode_formula (node_bytes s.kind) χ → χ ≡ formula
  pub is_table : IsTableOf (setup_meet s) (setup_top s) s.events formula n t
  pub answers : (w : List ℕ) → Word s.events w → (e : ℕ) → e < s.events → Answers (setup_meet s) (setup_top s) formula w e (t.value (after t zero w) e)
