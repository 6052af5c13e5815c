-- `MeetTable::is_closed` meets its contract. The loop's invariant: the test passes at every entry before.
use mathlib.Core.Path.{sym}
use borrow.Author.Tests.{lt-ltb, le-ltb}
use Rattle.theory.proofs.ValueSets.{every_none, every_more, every_not, every_done}
use Rattle.values.specs.SetupTests.{entries_test}
use Rattle.values.proofs.MeetTable.is_closed.Goals as goal

pub loop-entry-init : goal.loop-entry-init
loop-entry-init c = every_none _

pub returns-then-self-from : goal.returns-then-self-from
unfolding entries_test
returns-then-self-from c = sym
    (every_not _ _ c.loop-entry.entry-index c.loop-entry-test.true (le-ltb _ _ (rw c.from.ensures at c.if-self-from.true)))

pub loop-entry-preserved : goal.loop-entry-preserved
loop-entry-preserved c = every_more _ _ c.loop-entry.invariant (lt-ltb _ _ (rw c.from.ensures at c.if-self-from.false))

pub returns : goal.returns
unfolding entries_test
returns c = sym (every_done _ _ _ c.loop-entry.auto.entry-index-end c.loop-entry-test.false c.loop-entry.invariant)
