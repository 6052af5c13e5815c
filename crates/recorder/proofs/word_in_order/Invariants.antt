-- `recorder::word_in_order` meets its contract: the loop's invariant: the test passes at every event before.
use mathlib.Core.{Bool.{true}, Path.{◌≡◌}}
use lib.{Dec.{ltb}, ListN.{get_or}}
use Rattle.theory.specs.ValueSetTests.{every}
use Rattle.recorder.proofs.word_in_order.Given as goal

abbrev pub invariant-loop-event : goal.invariant-loop-event
invariant-loop-event l = every l.event-index (λ j. ltb (get_or l.word j 0) l.events) ≡ true
