-- Cases on the rule of a table (document 01, "Marked for proof", those that are run only, as document 02, F-9, changes them), with the
-- four-value set.
use mathlib.Core.{Path.{◌≡◌}, List.{List, [], ◌∷◌}}
use Rattle.std.specs.Prelude.{ℕ, zero, suc, ◌≤◌, length, Err, Ok}
use Rattle.limits.specs.Limits.{table_limit, node_limit}
use Rattle.theory.specs.ValueSets.{four_value_meet}
use Rattle.values.specs.Setup.{Setup, setup}
use Rattle.characteristic.specs.RuleWriting.{write_answer}
use Rattle.refusal.specs.declared.Refusal.TheVariants.{BinderDepth, WrittenSize}

abbrev pub four_values : ℕ → Setup
four_values events = setup events 4 3 four_value_meet

-- One event, a chain from state l on: c states that lead to the next one, and a last one that returns to itself.
unfoldable pub chain_rows : (c l : ℕ) → List ℕ
chain_rows zero l = 3 ∷ l ∷ []
chain_rows (suc c) l = 3 ∷ suc l ∷ chain_rows c (suc l)

-- The chain of 12 states: 49 nodes; of 13 and of 63 states: 23, and of 64: 12, whatever the buffer.
pub record ChainClaim : Type 0 where
  pub twelve : (old : List ℕ) → 147 ≤ length old → write_answer table_limit node_limit (four_values 1) 12 0 (chain_rows 11 0) old ≡ Ok 49
  pub thirteen : (old : List ℕ) → write_answer table_limit node_limit (four_values 1) 13 0 (chain_rows 12 0) old ≡ Err BinderDepth
  pub sixty_three : (old : List ℕ) → write_answer table_limit node_limit (four_values 1) 63 0 (chain_rows 62 0) old ≡ Err BinderDepth
  pub sixty_four : (old : List ℕ) → write_answer table_limit node_limit (four_values 1) 64 0 (chain_rows 63 0) old ≡ Err WrittenSize
