-- `clear` meets its contract. The loop's invariant: the sets passed are empty.
use mathlib.Core.Path.{◌≡◌}
use Prim.Native.Nat.{ℕ, ◌<◌}
use lib.ListN.{length}
use Rattle.limits.specs.Limits.{event_limit}
use Rattle.theory.specs.DemandSets.{empty}
use Rattle.synthesis.specs.NodeWords.{row}
use Rattle.synthesis.proofs.exploration.clear.Given as goal

abbrev pub invariant-loop-e : goal.invariant-loop-e
invariant-loop-e l = (length l.sets ≡ event_limit) × ((i : ℕ) → i < l.e → row l.sets i ≡ empty)
