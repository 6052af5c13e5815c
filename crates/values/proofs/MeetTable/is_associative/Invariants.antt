-- `MeetTable::is_associative` meets its contract. The loops' invariants: the law holds at every triple before (a, b, c).
use mathlib.Core.{Path.{◌≡◌}, Bool.{true}}
use Prim.Native.Nat.{◌≤◌, ◌-◌}
use lib.Dec.{eqb}
use Rattle.theory.specs.ValueSets.{meet_at}
use Rattle.theory.specs.ValueSetTests.{every}
use Rattle.values.proofs.MeetTable.is_associative.Given as goal

abbrev pub invariant-loop-c : goal.invariant-loop-c
invariant-loop-c l =
    (l.c ≤ l.self.values) × (l.holds ≡ true) × (every l.c (λ k. eqb (meet_at l.self.values l.self.entries.now
    (meet_at l.self.values l.self.entries.now l.a l.b) k)
    (meet_at l.self.values l.self.entries.now l.a (meet_at l.self.values l.self.entries.now l.b k))) ≡ true)

abbrev pub decreases-loop-c : goal.decreases-loop-c
decreases-loop-c l = l.self.values - l.c

abbrev pub invariant-loop-b : goal.invariant-loop-b
invariant-loop-b l =
    (l.b ≤ l.self.values) × (l.holds ≡ true) × (every l.b (λ j. every l.self.values (λ k. eqb (meet_at l.self.values l.self.entries.now
    (meet_at l.self.values l.self.entries.now l.a j) k)
    (meet_at l.self.values l.self.entries.now l.a (meet_at l.self.values l.self.entries.now j k)))) ≡ true)

abbrev pub decreases-loop-b : goal.decreases-loop-b
decreases-loop-b l = l.self.values - l.b

abbrev pub invariant-triples : goal.invariant-triples
invariant-triples l =
    (l.a ≤ l.self.values) × (l.holds ≡ true) × (every l.a (λ i. every l.self.values (λ j. every l.self.values
    (λ k. eqb (meet_at l.self.values l.self.entries.now (meet_at l.self.values l.self.entries.now i j) k)
    (meet_at l.self.values l.self.entries.now i (meet_at l.self.values l.self.entries.now j k))))) ≡ true)

abbrev pub decreases-triples : goal.decreases-triples
decreases-triples l = l.self.values - l.a
