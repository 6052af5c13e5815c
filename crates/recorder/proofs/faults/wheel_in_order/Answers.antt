-- `recorder::faults::wheel_in_order` meets its contract: the pulses' test, then the millimetres'.
use mathlib.Core.Path.{sym, ◌∙◌}
use Rattle.theory.proofs.ValueSets.{and_passed, and_failed}
use Rattle.recorder.specs.ToolTests.{wheel_test}
use Rattle.recorder.proofs.faults.wheel_in_order.Goals as goal

pub returns-then-turn_in_order : goal.returns-then-turn_in_order
unfolding wheel_test
returns-then-turn_in_order c = c.turn_in_order-then-turn_in_order.ensures ∙ sym (and_passed (sym c.turn_in_order.ensures ∙ c.if-turn_in_order.true))

pub returns-else-turn_in_order : goal.returns-else-turn_in_order
unfolding wheel_test
returns-else-turn_in_order c =
    c.if-turn_in_order.false ∙ sym (and_failed _ (sym c.turn_in_order.ensures ∙ c.if-turn_in_order.false))
