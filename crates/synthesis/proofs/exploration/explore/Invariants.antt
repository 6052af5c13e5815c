-- `explore` meets its contract. The loop's invariant: the states kept and the entries are those of the sequences explored so far,
-- no two states are the same, and each is linked to from the head of its place.
use Prim.Native.Nat.{◌≤◌, ◌-◌, ◌*◌}
use mathlib.Core.Path.{◌≡◌}
use lib.ListN.{length}
use Rattle.synthesis.specs.{NodeWords.{bits_at}, Exploring.{next_bits, Kept}}
use Rattle.synthesis.specs.StatePlaces.{Different, Chained}
use Rattle.synthesis.proofs.{Exploring.{all_to}}
use Rattle.synthesis.proofs.exploration.explore.Given as goal

abbrev pub invariant-loop-i : goal.invariant-loop-i
invariant-loop-i l =
    (l.i ≤ l.n) × (l.n ≤ l.limit) × (length l.states ≡ length l.initial.states) × (length l.nexts ≡ length l.initial.nexts)
    × Kept (next_bits l.nodes.kinds l.nodes.firsts l.rows l.nodes.count) (bits_at l.rows 0) l.events
    (all_to (next_bits l.nodes.kinds l.nodes.firsts l.rows l.nodes.count) l.rows l.events l.i)
    l.n (l.i * l.events) l.states l.nexts × Different l.n l.states × Chained l.n l.states l.places.heads l.places.links

abbrev pub decreases-loop-i : goal.decreases-loop-i
decreases-loop-i l = l.limit - l.i
