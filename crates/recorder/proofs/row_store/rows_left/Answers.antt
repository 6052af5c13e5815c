-- `recorder::row_store::rows_left` meets its contract: a channel's own rows are among all.
use mathlib.Core.Path.{◌≡◌, ap}
use Prim.Native.Nat.{◌+◌, ◌-◌}
use native.Mathlib.Omega.{arith}
use lib.{Dec.{leb}, ListN.{set}}
use Rattle.limits.specs.Limits.{row_limit}
use Rattle.recorder.specs.Splicing.{row_count}
use Rattle.recorder.proofs.RowTotals.{own_in_all, others_and}
use Rattle.recorder.proofs.row_store.rows_left.Goals as goal

pub overflow_sub-result : goal.overflow_sub-result
overflow_sub-result c =
    omega (arith, c.from-own.ensures, c.rows_before-rows.ensures.0, own_in_all c.args.states.now c.args.channel (omega arith))

pub returns : goal.returns
returns c =
    let e : c.rows_before-rows.result - c.from-own.result + c.args.new ≡ row_count (set c.args.states.now c.args.channel c.args.new) =
    omega (arith, c.from-own.ensures, c.rows_before-rows.ensures.0, others_and c.args.states.now c.args.channel (omega arith) c.args.new (omega arith)) in
    ap (λ x. leb x row_limit) e
