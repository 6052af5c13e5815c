-- `recorder::row_store::all_bits` meets its contract: the loop's invariant: the bits of the first i values.
use mathlib.Core.Path.{◌≡◌}
use Prim.Native.Nat.{◌+◌, ◌-◌, ◌≤◌}
use lib.{Bits.{bit_or}, ListN.{get_or}}
use Rattle.limits.specs.Limits.{store_limit}
use Rattle.recorder.specs.Decisions.{together}
use Rattle.recorder.proofs.row_store.all_bits.Given as goal

abbrev pub invariant-loop-i : goal.invariant-loop-i
invariant-loop-i l = (l.i ≤ l.i-end) × (l.i-end ≤ store_limit - l.from) × (l.bits ≡ together bit_or l.i (λ j. get_or l.values (l.from + j) 0))

abbrev pub decreases-loop-i : goal.decreases-loop-i
decreases-loop-i l = l.i-end - l.i
