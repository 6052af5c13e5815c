-- `recorder::row_store::rows_before` meets its contract: the loop's invariant: the counts before i are summed.
use mathlib.Core.Path.{◌≡◌}
use Prim.Native.Nat.{◌-◌, ◌*◌, ◌≤◌}
use Rattle.recorder.specs.Splicing.{rows_before}
use Rattle.recorder.proofs.row_store.rows_before.Given as goal

abbrev pub invariant-loop-i : goal.invariant-loop-i
invariant-loop-i l = (l.i ≤ l.count) × (l.rows ≡ rows_before l.states l.i) × (l.rows ≤ l.i * 65535)

abbrev pub decreases-loop-i : goal.decreases-loop-i
decreases-loop-i l = l.count - l.i
