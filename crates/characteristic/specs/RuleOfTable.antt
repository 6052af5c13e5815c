-- Document 01, "Rule of a table", refusals 12, 23 (document 02, F-9) and 13: the conditions that writing a rule meets at any limits of states and nodes.
use mathlib.Core.{Path.{◌≡◌}, List.{List, [], ◌∷◌, ◌++◌}, Option.{none}}
use Rattle.std.specs.Prelude.{ℕ, ◌<◌, length}
use Rattle.theory.specs.{Formula.{Formula, size, Answers}, MealyMachine.{Word, after}, CharacteristicFormula.{Writes}}
use Rattle.refusal.specs.{Refusal.{Condition, plain, First}, declared.Refusal.TheVariants.{BinderDepth, BufferLength, WrittenSize}}
use Rattle.values.specs.{declared.ValueKind.{ValueKind}, Setup.{Setup, SetupValue, setup_meet, setup_top, setup_conditions}}
use Rattle.limits.specs.Limits.{binder_limit}
use Rattle.formulas.specs.RuleConditions.{encode_formula, node_bytes, TooDeep, byte_conditions}
use Rattle.machines.specs.TableBytes.{entry_width, machine_of, table_condition}

-- φ is the rule of the table from the start: `Writes` of theory, with no state open yet.
abbrev pub IsRuleOf : (events : ℕ) → ValueKind → (start : ℕ) → List ℕ → Formula ℕ → Type 0
IsRuleOf events kind start table φ = Writes (machine_of kind events table) events [] start φ

module _ (table_most node_most : ℕ) (s : Setup) (states start : ℕ) (table : List ℕ) where
  -- 12: written rule over the limit of nodes.
  abbrev pub TooManyNodes : Type 0
  TooManyNodes = (φ : Formula ℕ) × IsRuleOf s.events s.kind start table φ × (node_most < size φ)

  -- 23: "A written rule obeys it too": a path of it with more than twelve V nodes.
  abbrev pub WrittenTooDeep : Type 0
  WrittenTooDeep = (φ : Formula ℕ) × IsRuleOf s.events s.kind start table φ × TooDeep φ binder_limit

  -- 13: lent buffer shorter than the output.
  abbrev pub BufferTooShort : ℕ → Type 0
  BufferTooShort room = (φ : Formula ℕ) × IsRuleOf s.events s.kind start table φ × (room < length (encode_formula (node_bytes s.kind) φ))

  -- The conditions that a call with a buffer of `room` bytes meets, in document 01's order: those of the set-up, 11, 12, 23, 13.
  unfoldable pub write_conditions : ℕ → List Condition
  write_conditions room = setup_conditions s
      ++ (table_condition (entry_width s.kind) table_most s.events (SetupValue s) states start table (machine_of s.kind s.events table)
      ∷ plain WrittenSize TooManyNodes
      ∷ plain BinderDepth WrittenTooDeep
      ∷ plain BufferLength (BufferTooShort room)
      ∷ [])

-- "Each rule so written is accepted as a rule and its values are the start state's on every event sequence."
pub record IsWritten (s : Setup) (start : ℕ) (table : List ℕ) (φ : Formula ℕ) : Type 0 where
  pub is_rule : IsRuleOf s.events s.kind start table φ
  pub only : (χ : Formula ℕ) → IsRuleOf s.events s.kind start table χ → χ ≡ φ
  pub accepted : First (byte_conditions s.events s.kind (encode_formula (node_bytes s.kind) φ)) none
  pub same_values : (w : List ℕ) → Word s.events w → (e : ℕ) → e < s.events → Answers (setup_meet s) (setup_top s) φ w e
      ((machine_of s.kind s.events table).value (after (machine_of s.kind s.events table) start w) e)
