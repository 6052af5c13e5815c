-- `MeetTable::down_sets` meets its contract. The loop's invariant: the sets of the values before a are stored.
use mathlib.Core.Path.{◌≡◌}
use Prim.Native.Nat.{ℕ, ◌≤◌, ◌<◌, ◌-◌}
use lib.ListN.{length, get_or}
use Rattle.limits.specs.Limits.{value_limit}
use Rattle.values.specs.DownSets.{down_set}
use Rattle.values.proofs.MeetTable.down_sets.Given as goal

abbrev pub invariant-loop-a : goal.invariant-loop-a
invariant-loop-a l =
    (l.a ≤ l.self.values) × (length l.sets ≡ value_limit) × ((k : ℕ) → k < l.a → get_or l.sets k 0 ≡ down_set l.self.values l.self.entries.now k)

abbrev pub decreases-loop-a : goal.decreases-loop-a
decreases-loop-a l = l.self.values - l.a
