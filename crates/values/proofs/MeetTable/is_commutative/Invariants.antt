-- `MeetTable::is_commutative` meets its contract. The loops' invariants: the law holds at every pair before (a, b).
use mathlib.Core.{Path.{◌≡◌}, Bool.{true}}
use Prim.Native.Nat.{◌≤◌, ◌-◌}
use lib.Dec.{eqb}
use Rattle.theory.specs.ValueSets.{meet_at}
use Rattle.theory.specs.ValueSetTests.{every}
use Rattle.values.proofs.MeetTable.is_commutative.Given as goal

abbrev pub invariant-loop-b : goal.invariant-loop-b
invariant-loop-b l = (l.b ≤ l.self.values) × (every l.b (λ j. eqb (meet_at l.self.values l.self.entries.now l.a j)
    (meet_at l.self.values l.self.entries.now j l.a)) ≡ true)

abbrev pub decreases-loop-b : goal.decreases-loop-b
decreases-loop-b l = l.self.values - l.b

abbrev pub invariant-loop-a : goal.invariant-loop-a
invariant-loop-a l =
    (l.a ≤ l.self.values) × (every l.a (λ i. every l.self.values (λ j. eqb (meet_at l.self.values l.self.entries.now i j)
    (meet_at l.self.values l.self.entries.now j i))) ≡ true)

abbrev pub decreases-loop-a : goal.decreases-loop-a
decreases-loop-a l = l.self.values - l.a
