-- `recorder::row_store::largest` meets its contract: the loop's invariant: the largest of the first i entries.
use mathlib.Core.{Path.{◌≡◌}}
use Prim.Native.Nat.{◌+◌, ◌-◌, ◌≤◌, max}
use lib.ListN.{get_or}
use Rattle.limits.specs.Limits.{store_limit}
use Rattle.recorder.specs.Decisions.{together}
use Rattle.recorder.proofs.row_store.largest.Given as goal

abbrev pub invariant-loop-i : goal.invariant-loop-i
invariant-loop-i l = (l.i ≤ l.i-end) × (l.i-end ≤ store_limit - l.from) × (l.most ≡ together max l.i (λ j. get_or l.entries (l.from + j) 0))

abbrev pub decreases-loop-i : goal.decreases-loop-i
decreases-loop-i l = l.i-end - l.i
