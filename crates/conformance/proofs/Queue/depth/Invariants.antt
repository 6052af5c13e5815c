-- `depth` meets its contract. The loop's invariant: what is counted and the word of place j make up the word.
use mathlib.Core.{Path.{◌≡◌}, List.{[]}}
use Prim.Native.Nat.{◌+◌, ◌<◌}
use lib.ListN.{length, get_or}
use Rattle.conformance.specs.PairQueue.{Reaches}
use Rattle.conformance.proofs.Queue.depth.Given as goal

abbrev pub invariant-loop-j : goal.invariant-loop-j
invariant-loop-j g l = (x : Reaches l.place l.self.pairs) → (l.j < length x.words) ×
    (l.n + length (get_or x.words l.j []) ≡ length (get_or x.words l.place []))

abbrev pub decreases-loop-j : goal.decreases-loop-j
decreases-loop-j g l = l.j
