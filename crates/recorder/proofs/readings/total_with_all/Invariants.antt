-- `recorder::readings::total_with_all` meets its contract: the loop's invariant: the sum has the pulses of i events, and is within the limit.
use mathlib.Core.Path.{◌≡◌}
use Prim.Native.Nat.{◌+◌, ◌-◌, ◌≤◌, min}
use lib.ListN.{length, take}
use Rattle.limits.specs.Limits.{total_limit}
use Rattle.recorder.specs.Decisions.{sum_of}
use Rattle.recorder.proofs.readings.total_with_all.Given as goal

abbrev pub invariant-loop-i : goal.invariant-loop-i
invariant-loop-i l =
    (l.i ≤ l.end) × (l.end ≡ min l.count (length l.pulses)) × (l.sum ≡ l.total + sum_of (take l.i l.pulses)) × (l.sum ≤ total_limit)

abbrev pub decreases-loop-i : goal.decreases-loop-i
decreases-loop-i l = l.end - l.i
