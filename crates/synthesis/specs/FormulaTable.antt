-- Twin of ReachableStates, pinned by theory TableClaim.
-- The table of a formula as the computing twin gives it (theory's Exploration), for a limit of states. Contracts cite these two;
-- theory's `TableClaim` says what they are.
use Rattle.std.specs.Prelude.{ℕ}
use Rattle.limits.specs.Limits.{node_limit}
use Rattle.theory.specs.Formula.{Formula}
use Rattle.theory.specs.MealyMachine.{Machine}
use Rattle.theory.specs.Exploration.{state_count, table_of}

-- How many states a formula of at most node-limit nodes has, where that is within the limit; above the limit otherwise.
unfoldable pub formula_states : (ℕ → ℕ → ℕ) → ℕ → Formula ℕ → ℕ → ℕ → ℕ
formula_states meet top φ events limit = state_count node_limit meet top φ events limit

-- Its table, where its states are within the limit.
unfoldable pub formula_table : (ℕ → ℕ → ℕ) → ℕ → Formula ℕ → ℕ → ℕ → Machine ℕ ℕ
formula_table meet top φ events limit = table_of node_limit meet top φ events limit
