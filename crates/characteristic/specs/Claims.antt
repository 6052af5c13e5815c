-- What is claimed of the rule of a table (document 01, "Rule of a table" and refusals 12 and 13; document 02, F-7 and F-9); proofs/Claims has a proof of each.
use mathlib.Core.{Path.{◌≡◌}, Option.{none, some}, List.{List}}
use Rattle.std.specs.Prelude.{ℕ, suc, ◌+◌, ◌*◌, ◌≤◌, ◌<◌, length, Err, Ok}
use Rattle.theory.specs.{Formula.{Formula, size, Answers}, FormulaClasses.{binders, Accepted}, MealyMachine.{Machine, Word, after}}
use Rattle.theory.specs.ReachableStates.{IsTableOf, StatesAtMost}
use Rattle.refusal.specs.{declared.Refusal.{Refusal}, Refusal.{Judged, put}}
use Rattle.values.specs.Setup.{Setup, SetupValue, setup_meet, setup_top}
use Rattle.formulas.specs.{RuleConditions.{encode_formula, node_width, node_bytes}, RuleRefusal.{rule_refusal}}
use Rattle.machines.specs.TableBytes.{machine_of}
use Rattle.characteristic.specs.{RuleOfTable.{IsRuleOf, write_conditions}, RuleWriting.{write_refusal, write_answer, write_contents}}
use Rattle.limits.specs.Limits.{node_limit, binder_limit, state_limit, table_limit}

-- A call is judged as document 01 asks, at every limit.
abbrev pub WriteRefusalClaim : Type 0
WriteRefusalClaim =
    (table_most node_most : ℕ) (s : Setup) (states start : ℕ) (table : List ℕ) (room : ℕ)
    → Judged (write_conditions table_most node_most s states start table room) (write_refusal table_most node_most s states start table room)

module _ (s : Setup) (start : ℕ) (table : List ℕ) where
  -- What a written rule is: the rule of the table, and no other is; accepted as a rule, by refusals 5 to 9 too; its node count
  -- follows from its V nodes; its table has one state for each V node, at most 63, so that it never meets 10; and its values are the
  -- start's on every event sequence.
  pub record RuleWritten (φ : Formula ℕ) : Type 0 where
    pub is_rule : IsRuleOf s.events s.kind start table φ
    pub only_rule : (χ : Formula ℕ) → IsRuleOf s.events s.kind start table χ → χ ≡ φ
    pub accepted : Accepted node_limit binder_limit s.events (SetupValue s) φ
    pub accepted_bytes : rule_refusal s.events s.kind (encode_formula (node_bytes s.kind) φ) ≡ none
    pub few_binders : binders φ ≤ 63
    pub size_by_binders : size φ + binders φ ≡ suc (5 * (s.events * binders φ))
    pub one_state_a_binder : (n : ℕ) (t : Machine ℕ ℕ) → IsTableOf (setup_meet s) (setup_top s) s.events φ n t → n ≡ binders φ
    pub few_states : StatesAtMost (setup_meet s) (setup_top s) s.events φ state_limit
    pub same_values :
        (w : List ℕ) → Word s.events w → (e : ℕ) → e < s.events
        → Answers (setup_meet s) (setup_top s) φ w e
        ((machine_of s.kind s.events table).value (after (machine_of s.kind s.events table) start w) e)
    pub byte_count : length (encode_formula (node_bytes s.kind) φ) ≡ size φ * node_width s.kind

-- A refused call answers that refusal, and the buffer is as it was.
abbrev pub RefusedClaim : Type 0
RefusedClaim =
    (table_most node_most : ℕ) (s : Setup) (states start : ℕ) (table old : List ℕ) (refusal : Refusal)
    → write_refusal table_most node_most s states start table (length old) ≡ some refusal
    → (write_answer table_most node_most s states start table old ≡ Err refusal)
    × (write_contents table_most node_most s states start table old ≡ old)

-- An accepted call answers the node count of the written rule, and the buffer gets its nodes.
pub record Written (s : Setup) (states start : ℕ) (table old : List ℕ) : Type 0 where
  pub rule : Formula ℕ
  pub rule_written : RuleWritten s start table rule
  pub count_is_size : write_answer table_limit node_limit s states start table old ≡ Ok (size rule)
  pub bytes_put : write_contents table_limit node_limit s states start table old ≡ put (encode_formula (node_bytes s.kind) rule) old

abbrev pub WrittenClaim : Type 0
WrittenClaim =
    (s : Setup) (states start : ℕ) (table old : List ℕ)
    → write_refusal table_limit node_limit s states start table (length old) ≡ none → Written s states start table old
