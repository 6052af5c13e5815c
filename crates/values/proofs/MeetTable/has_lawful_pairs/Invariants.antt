-- `MeetTable::has_lawful_pairs` meets its contract. The loops' invariants: every pair before (a, b) passes.
use mathlib.Core.{Path.{◌≡◌}, Bool.{true}}
use Prim.Native.Nat.{◌≤◌, ◌-◌}
use Rattle.theory.specs.ValueSetTests.{every}
use Rattle.values.specs.DownSets.{pair_test}
use Rattle.values.proofs.MeetTable.has_lawful_pairs.Given as goal

abbrev pub invariant-loop-b : goal.invariant-loop-b
invariant-loop-b l = (l.b ≤ l.a) × (every l.b (λ j. pair_test l.self.values l.self.entries.now l.a j) ≡ true)

abbrev pub decreases-loop-b : goal.decreases-loop-b
decreases-loop-b l = l.a - l.b

abbrev pub invariant-loop-a : goal.invariant-loop-a
invariant-loop-a l = (l.a ≤ l.self.values) × (every l.a (λ i. every i (λ j. pair_test l.self.values l.self.entries.now i j)) ≡ true)

abbrev pub decreases-loop-a : goal.decreases-loop-a
decreases-loop-a l = l.self.values - l.a
