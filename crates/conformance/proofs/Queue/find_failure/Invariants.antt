-- `find_failure` meets its contract. The loop's invariant: the queue holds the words found when i pairs have been taken, and none of these
-- failed; the flag says whether all their values are equal.
use Prim.Native.Nat.{◌-◌}
use mathlib.Core.List.{[], ◌∷◌}
use Rattle.conformance.specs.PairQueue.{Ready, HoldsPairs, input_of}
use Rattle.conformance.proofs.Progress.{Progress}
use Rattle.conformance.proofs.Queue.find_failure.Given as goal

abbrev pub invariant-loop-i : goal.invariant-loop-i
invariant-loop-i g l =
    (ready : Ready g.row.SIZE (input_of l.pairing)) (held : HoldsPairs (input_of l.pairing) ([] ∷ []) l.initial.self) →
    Progress ready held l.i l.same l.self

abbrev pub decreases-loop-i : goal.decreases-loop-i
decreases-loop-i g l = g.row.SIZE - l.i
