-- `recorder::word_in_order` meets its contract: an event that is too large is the first that fails the test.
use mathlib.Core.Path.{sym}
use borrow.Author.{Rules.{rules}, Tests.{lt-ltb, le-ltb}}
use Rattle.theory.proofs.ValueSets.{every_none, every_more, every_not, every_done}
use Rattle.recorder.proofs.word_in_order.Goals as goal

pub loop-event-init : goal.loop-event-init
loop-event-init c = every_none _

pub returns-then-events-event : goal.returns-then-events-event
returns-then-events-event c = sym (every_not _ _ c.loop-event.event-index (search rules) (le-ltb _ _ c.if-events-event.true))

pub loop-event-preserved : goal.loop-event-preserved
loop-event-preserved c = every_more _ _ c.loop-event.invariant (lt-ltb _ _ c.if-events-event.false)

pub returns : goal.returns
returns c = sym (every_done _ _ _ (search rules) (search rules) c.loop-event.invariant)
