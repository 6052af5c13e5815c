-- `find` meets its contract. The loop's invariant: a state that is the set is linked to from state j on.
use mathlib.Core.Path.{◌≡◌}
use Prim.Native.Nat.{ℕ, ◌<◌}
use Rattle.synthesis.specs.{NodeWords.{set_bits, bits_at}, StatePlaces.{Linked}}
use Rattle.synthesis.proofs.exploration.Places.find.Given as goal

abbrev pub invariant-loop-n : goal.invariant-loop-n
invariant-loop-n l = (l.j < l.n) × ((i : ℕ) → i < l.n → bits_at l.states i ≡ set_bits l.set → Linked l.self.links l.j i)

abbrev pub decreases-loop-n : goal.decreases-loop-n
decreases-loop-n l = l.j
