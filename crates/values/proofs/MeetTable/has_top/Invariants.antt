-- `MeetTable::has_top` meets its contract. The loop's invariant: the law holds at every value before a.
use mathlib.Core.{Path.{◌≡◌}, Bool.{true}}
use Prim.Native.Nat.{◌≤◌, ◌-◌}
use lib.Dec.{eqb}
use Rattle.theory.specs.ValueSets.{meet_at}
use Rattle.theory.specs.ValueSetTests.{every}
use Rattle.values.proofs.MeetTable.has_top.Given as goal

abbrev pub invariant-loop-a : goal.invariant-loop-a
invariant-loop-a l = (l.a ≤ l.self.values) × (every l.a (λ k. eqb (meet_at l.self.values l.self.entries.now k l.top) k) ≡ true)

abbrev pub decreases-loop-a : goal.decreases-loop-a
decreases-loop-a l = l.self.values - l.a
