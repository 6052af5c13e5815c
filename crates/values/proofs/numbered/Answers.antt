-- `values::numbered` meets its contract: at most 16 values and a top below them fit.
use native.Mathlib.Omega.{arith}
use Rattle.values.proofs.Setups.{values_small, top_below}
use Rattle.values.proofs.numbered.Goals as goal

pub overflow_cast-count : goal.overflow_cast-count
overflow_cast-count c = omega (arith, values_small _ _ c.requires)

pub overflow_cast-top : goal.overflow_cast-top
overflow_cast-top c = omega (arith, values_small _ _ c.requires, top_below _ _ c.requires)
