-- Twin of TableOfRule, pinned by product_claims DemandTwo.
-- What the compiler answers: the computing twins of the conditions and claims in `Claims`.
use mathlib.Core.{List.{List}, Option.{Option}}
use Rattle.std.specs.Prelude.{ℕ, ◌*◌, ◌/◌, ◌%◌, Result}
use lib.{Dec.{leb}, ListN.{length}}
use Rattle.theory.specs.MealyMachine.{Machine}
use Rattle.refusal.specs.{declared.Refusal.{Refusal}, declared.Refusal.TheVariants.{BufferLength, StateCount}}
use Rattle.refusal.specs.RefusalAnswers.{or_else, plain_unless, answered, put_unless}
use Rattle.values.specs.{declared.ValueKind.{ValueKind}, Setup.{meet_of, Setup, setup_top}, SetupTests.{setup_refusal}}
use Rattle.formulas.specs.{RuleRefusal.{rule_refusal, formula_of}, NodeArrays.{padded}}
use Rattle.machines.specs.TableBytes.{table_bytes, entry_width, entry_bytes}
use Rattle.synthesis.specs.FormulaTable.{formula_states, formula_table}

-- The rule in these bytes, over values of a kind with a meet table and top.
module _ (kind : ValueKind) (events top : ℕ) (table rule : List ℕ) where
  -- Its count of states and its table, for a limit of states.
  abbrev pub rule_states : ℕ → ℕ
  rule_states limit = formula_states (meet_of kind table) top (formula_of kind rule) events limit

  abbrev pub rule_table : ℕ → Machine ℕ ℕ
  rule_table limit = formula_table (meet_of kind table) top (formula_of kind rule) events limit

  -- 5 to 10.
  unfoldable pub rule_table_refusal : ℕ → Option Refusal
  rule_table_refusal limit = or_else (rule_refusal events kind rule) (plain_unless (leb (rule_states limit) limit) StateCount)

-- Entries by state and then event, and zeros after them.
unfoldable pub flat : (ℕ → ℕ → ℕ) → ℕ → ℕ → ℕ → List ℕ
flat f events entries size = padded (λ x. f (x / events) (x % events)) entries size 0

-- The answer of `compile` for a set-up of either kind, a rule and what the lent buffer held.
module _ (limit : ℕ) (s : Setup) (rule : List ℕ) where
  abbrev pub setup_states : ℕ
  setup_states = rule_states s.kind s.events (setup_top s) s.meet rule limit

  abbrev pub setup_table : Machine ℕ ℕ
  setup_table = rule_table s.kind s.events (setup_top s) s.meet rule limit

  module _ (old : List ℕ) where
    -- 1 to 3, or 1 and 20; 5 to 10; 13.
    unfoldable pub compile_refusal : Option Refusal
    compile_refusal =
        or_else (setup_refusal s)
        (or_else (rule_table_refusal s.kind s.events (setup_top s) s.meet rule limit)
        (plain_unless (leb (setup_states * s.events * entry_width s.kind) (length old)) BufferLength))

    -- The count of states, or the refusal.
    abbrev pub compile_answer : Result ℕ Refusal
    compile_answer = answered compile_refusal setup_states

    -- The buffer afterwards: the table's bytes, and what lies after them as it was; beside a refusal all as it was.
    unfoldable pub compile_contents : List ℕ
    compile_contents = put_unless compile_refusal (table_bytes (entry_bytes s.kind) s.events setup_table setup_states) old
