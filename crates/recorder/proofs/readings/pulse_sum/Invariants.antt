-- `recorder::readings::pulse_sum` meets its contract: the loop's invariant: the sum has the pulses before, each below 2^32.
use mathlib.Core.Path.{◌≡◌}
use Prim.Native.Nat.{◌*◌, ◌≤◌}
use lib.ListN.{take}
use Rattle.recorder.specs.Decisions.{sum_of}
use Rattle.recorder.proofs.readings.pulse_sum.Given as goal

abbrev pub invariant-loop-p : goal.invariant-loop-p
invariant-loop-p l = (l.sum ≡ sum_of (take l.p-index l.pulses)) × (l.sum ≤ l.p-index * 4294967295)
