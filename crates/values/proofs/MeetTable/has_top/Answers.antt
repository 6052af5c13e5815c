-- `MeetTable::has_top` meets its contract. The loop's invariant: the law holds at every value before a.
use mathlib.Core.{Path.{sym, ◌∙◌}}
use native.Mathlib.Omega.{arith}
use borrow.Author.Tests.{eq-eqb, ne_eqb}
use Rattle.theory.specs.ValueSetTests.{neutral_test}
use Rattle.theory.proofs.ValueSets.{every_none, every_more, every_not, every_done}
use Rattle.values.proofs.MeetTable.has_top.Goals as goal

pub loop-a-init : goal.loop-a-init
loop-a-init c = (omega arith, every_none _)

pub returns-then-meet-a : goal.returns-then-meet-a
unfolding neutral_test
returns-then-meet-a c = sym
    (every_not _ _ c.loop-a.a c.loop-a-test.true
    (ne_eqb _ _ (λ e. c.if-meet-a.true (c.meet.ensures ∙ e))))

pub loop-a-preserved : goal.loop-a-preserved
loop-a-preserved c = (omega arith, every_more _ _ c.loop-a.invariant.1 (eq-eqb _ _ (sym c.meet.ensures ∙ c.if-meet-a.false)))

pub returns : goal.returns
unfolding neutral_test
returns c = sym (every_done _ _ _ c.loop-a.invariant.0 c.loop-a-test.false c.loop-a.invariant.1)
