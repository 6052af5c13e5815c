-- `MeetTable::down_set` meets its contract. The loop's invariant: the set has the values before b.
use mathlib.Core.{Path.{◌≡◌}}
use Prim.Native.Nat.{◌≤◌, ◌-◌}
use lib.Dec.{eqb}
use Rattle.theory.specs.ValueSets.{meet_at}
use Rattle.values.specs.DownSets.{mask}
use Rattle.values.proofs.MeetTable.down_set.Given as goal

abbrev pub invariant-loop-b : goal.invariant-loop-b
invariant-loop-b l = (l.b ≤ l.self.values) × (l.set ≡ mask l.b (λ k. eqb (meet_at l.self.values l.self.entries.now l.a k) k))

abbrev pub decreases-loop-b : goal.decreases-loop-b
decreases-loop-b l = l.self.values - l.b
