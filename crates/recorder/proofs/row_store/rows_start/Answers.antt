-- `recorder::row_store::rows_start` meets its contract: the product fits.
use mathlib.Core.Path.{ap₂}
use Prim.Native.Nat.{◌*◌, ◌≤◌}
use native.Mathlib.{Nat.{mul-le-mul}, Omega.{arith}}
use borrow.Author.Rules.{rules}
use Rattle.recorder.specs.Store.{rows_start}
use Rattle.recorder.proofs.row_store.rows_start.Goals as goal

pub overflow_mul-result : goal.overflow_mul-result
overflow_mul-result c =
    let h : c.from.result ≤ 255 = search rules in
    omega (arith, mul-le-mul c.rows_before.ensures.1 h)

pub returns : goal.returns
unfolding rows_start
returns c = ap₂ ◌*◌ c.rows_before.ensures.0 c.from.ensures
