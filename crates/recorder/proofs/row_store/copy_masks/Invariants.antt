-- `recorder::row_store::copy_masks` meets its contract: the loop's invariant: the values of the first i entries are copied.
use mathlib.Core.Path.{◌≡◌}
use Prim.Native.Nat.{◌-◌, ◌≤◌}
use lib.Seq.{paste}
use Rattle.recorder.specs.Splicing.{mask_column}
use Rattle.recorder.proofs.row_store.copy_masks.Given as goal

abbrev pub invariant-loop-i : goal.invariant-loop-i
invariant-loop-i l = (l.i ≤ l.count) × (l.store ≡ paste l.initial.store l.at (mask_column l.table l.count) l.i)

abbrev pub decreases-loop-i : goal.decreases-loop-i
decreases-loop-i l = l.count - l.i
