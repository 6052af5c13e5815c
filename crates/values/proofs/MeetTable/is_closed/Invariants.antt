-- `MeetTable::is_closed` meets its contract. The loop's invariant: the test passes at every entry before.
use mathlib.Core.{Path.{◌≡◌}, Bool.{true}}
use lib.{Dec.{ltb}, ListN.{get_or}}
use Rattle.theory.specs.ValueSetTests.{every}
use Rattle.values.proofs.MeetTable.is_closed.Given as goal

abbrev pub invariant-loop-entry : goal.invariant-loop-entry
invariant-loop-entry l = every l.entry-index (λ k. ltb (get_or l.self.entries.now k 0) l.self.values) ≡ true
