-- `word_in_order` meets its contract. The invariant: the test of the events passed.
use mathlib.Core.Path.{◌≡◌}
use lib.{ListN.{get_or}, Dec.{ltb}}
use Rattle.theory.specs.ValueSetTests.{every}
use Rattle.gurvazze_host.proofs.word_in_order.Given as goal

abbrev pub invariant-loop-event : goal.invariant-loop-event
invariant-loop-event l = l.in_order ≡ every l.event-index (λ j. ltb (get_or l.word j 0) l.events)
