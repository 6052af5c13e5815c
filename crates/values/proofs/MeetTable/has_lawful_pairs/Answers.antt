-- `MeetTable::has_lawful_pairs` meets its contract. The loops' invariants: every pair before (a, b) passes.
use mathlib.Core.{Path.{sym, ◌∙◌}}
use native.Mathlib.Omega.{arith}
use Rattle.theory.proofs.ValueSets.{every_none, every_more, every_not, every_done}
use Rattle.values.specs.DownSets.{pairs_test}
use Rattle.values.proofs.MeetTable.has_lawful_pairs.Goals as goal

pub loop-a-init : goal.loop-a-init
loop-a-init c = (omega arith, every_none _)

pub loop-b-init : goal.loop-b-init
loop-b-init c = (omega arith, every_none _)

pub returns-then-not-is_lawful_pair : goal.returns-then-not-is_lawful_pair
unfolding pairs_test
returns-then-not-is_lawful_pair c = sym
    (every_not _ _ c.loop-a.a c.loop-a-test.true
    (every_not _ _ c.loop-b.b c.loop-b-test.true
    (sym c.is_lawful_pair.ensures ∙ c.if-not-is_lawful_pair.true)))

pub loop-b-preserved : goal.loop-b-preserved
loop-b-preserved c = (
  omega arith,
  every_more _ _ c.loop-b.invariant.1 (sym c.is_lawful_pair.ensures ∙ c.if-not-is_lawful_pair.false),
)

pub loop-a-preserved : goal.loop-a-preserved
loop-a-preserved c = (
  omega arith,
  every_more _ _ c.loop-a.invariant.1 (every_done _ _ _ c.loop-b.invariant.0 c.loop-b-test.false c.loop-b.invariant.1),
)

pub returns : goal.returns
unfolding pairs_test
returns c = sym (every_done _ _ _ c.loop-a.invariant.0 c.loop-a-test.false c.loop-a.invariant.1)
