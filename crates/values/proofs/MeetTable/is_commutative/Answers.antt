-- `MeetTable::is_commutative` meets its contract. The loops' invariants: the law holds at every pair before (a, b).
use mathlib.Core.{Path.{sym, ◌∙◌}}
use native.Mathlib.Omega.{arith}
use borrow.Author.Tests.{eq-eqb, ne_eqb}
use Rattle.theory.specs.ValueSetTests.{commutative_test}
use Rattle.theory.proofs.ValueSets.{every_none, every_more, every_not, every_done}
use Rattle.values.proofs.MeetTable.is_commutative.Goals as goal

pub loop-a-init : goal.loop-a-init
loop-a-init c = (omega arith, every_none _)

pub loop-b-init : goal.loop-b-init
loop-b-init c = (omega arith, every_none _)

pub returns-then-meet : goal.returns-then-meet
unfolding commutative_test
returns-then-meet c = sym
    (every_not _ _ c.loop-a.a c.loop-a-test.true
    (every_not _ _ c.loop-b.b c.loop-b-test.true
    (ne_eqb _ _ (λ e. c.if-meet.true (c.meet.ensures ∙ e ∙ sym c.meet-in-loop-b.ensures)))))

pub loop-b-preserved : goal.loop-b-preserved
loop-b-preserved c = (
  omega arith,
  every_more _ _ c.loop-b.invariant.1 (eq-eqb _ _
      (sym c.meet.ensures ∙ c.if-meet.false ∙ c.meet-in-loop-b.ensures)),
)

pub loop-a-preserved : goal.loop-a-preserved
loop-a-preserved c = (
  omega arith,
  every_more _ _ c.loop-a.invariant.1 (every_done _ _ _ c.loop-b.invariant.0 c.loop-b-test.false c.loop-b.invariant.1),
)

pub returns : goal.returns
unfolding commutative_test
returns c = sym (every_done _ _ _ c.loop-a.invariant.0 c.loop-a-test.false c.loop-a.invariant.1)
