-- What is claimed of the compiler (document 01, "Table of a rule", refusals 1 to 3, 5 to 10 and 13; document 02, F-7): the conditions that a call
-- meets, and what an accepted call yields. Each claim is a proposition, inhabited in proofs/.
use mathlib.Core.{Path.{◌≡◌}, List.{List}, Option.{none, some}}
use Rattle.std.specs.Prelude.{ℕ, zero, ◌*◌, ◌≤◌, ◌<◌, length, drop}
use Rattle.theory.specs.{Formula.{Formula, Answers}, MealyMachine.{Machine, Word, after}, ReachableStates.{IsTableOf}}
use Rattle.refusal.specs.{declared.Refusal.{Refusal}, Refusal.{Judged}}
use Rattle.values.specs.{declared.ValueKind.{ValueKind}, Setup.{Setup, setup_meet, setup_top}}
use Rattle.formulas.specs.{RuleConditions.{node_bytes, encode_formula}, Claims.{AcceptedFormula}}
use Rattle.machines.specs.TableBytes.{entry_width, machine_of}
use Rattle.synthesis.specs.Compilation.{setup_states, compile_refusal, compile_contents}
use Rattle.synthesis.specs.TableOfRule.{compile_conditions}

-- A call is judged as document 01 asks, at every limit.
abbrev pub CompileRefusalClaim : Type 0
CompileRefusalClaim =
    (limit : ℕ) (s : Setup) (rule old : List ℕ) → Judged (compile_conditions limit s rule old) (compile_refusal limit s rule old)

-- The table t of n states is that of the rule in these bytes: of the one formula whose code they are, with that formula's values on
-- every event sequence.
pub record RuleTable (meet : ℕ → ℕ → ℕ) (top events : ℕ) (kind : ValueKind) (rule : List ℕ) (n : ℕ) (t : Machine ℕ ℕ) : Type 0 where
  pub formula : Formula ℕ
  pub code : AcceptedFormula events kind rule formula
  pub only : (χ : Formula ℕ) → rule ≡ encode_formula (node_bytes kind) χ → χ ≡ formula
  pub is_table : IsTableOf meet top events formula n t
  pub answers : (w : List ℕ) → Word events w → (e : ℕ) → e < events → Answers meet top formula w e (t.value (after t zero w) e)

-- An accepted `compile`: the buffer is as long as it was, what lies after the output is as it was, and its bytes are the rule's table.
pub record CompiledBytes (limit : ℕ) (s : Setup) (rule old : List ℕ) (n : ℕ) (contents : List ℕ) : Type 0 where
  pub few : n ≤ limit
  pub same_length : length contents ≡ length old
  pub kept : drop (n * s.events * entry_width s.kind) contents ≡ drop (n * s.events * entry_width s.kind) old
  pub table :
      RuleTable (setup_meet s) (setup_top s) s.events s.kind rule n
      (machine_of s.kind s.events contents)

-- A refused one changes nothing.
pub record CompileClaim : Type 0 where
  pub accepted :
      (limit : ℕ) (s : Setup) (rule old : List ℕ) → compile_refusal limit s rule old ≡ none →
      CompiledBytes limit s rule old (setup_states limit s rule) (compile_contents limit s rule old)
  pub refused :
      (limit : ℕ) (s : Setup) (rule old : List ℕ) (r : Refusal) → compile_refusal limit s rule old ≡ some r →
      compile_contents limit s rule old ≡ old
