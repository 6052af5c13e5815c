-- `MeetTable::is_associative` meets its contract. The loops' invariants: the law holds at every triple before (a, b, c).
use Rattle.values.proofs.MeetTables.{square}
use mathlib.Core.{Path.{sym, ◌∙◌, refl}}
use native.Mathlib.Omega.{arith}
use borrow.Author.Tests.{eq-eqb, ne_eqb}
use Rattle.theory.specs.ValueSetTests.{associative_test}
use Rattle.theory.proofs.ValueSets.{every_none, every_more, every_not, every_done}
use Rattle.values.proofs.Setups.{meet_below, grouped}
use Rattle.values.proofs.MeetTable.is_associative.Goals as goal

pub triples-init : goal.triples-init
triples-init c = (omega arith, refl, every_none _)

pub loop-b-init : goal.loop-b-init
loop-b-init c = (omega arith, c.triples.invariant.1, every_none _)

pub loop-c-init : goal.loop-c-init
loop-c-init c = (omega arith, c.loop-b.invariant.1, every_none _)

pub meet-requires-in-loop-c : goal.meet-requires-in-loop-c
meet-requires-in-loop-c c = (
  rw c.meet.ensures (meet_below _ _ (square c.args.self)
      c.requires c.triples-test.true
      c.loop-b-test.true),
  c.loop-c-test.true,
)

pub meet-requires-in-loop-c-3 : goal.meet-requires-in-loop-c-3
meet-requires-in-loop-c-3 c = (
  c.triples-test.true,
  rw c.meet-in-loop-c-2.ensures (meet_below _ _ (square c.args.self)
      c.requires c.loop-b-test.true
      c.loop-c-test.true),
)

pub loop-c-preserved : goal.loop-c-preserved
loop-c-preserved c = (
  omega arith,
  c.loop-c.invariant.1,
  every_more _ _ c.loop-c.invariant.2
      (eq-eqb _ _
      ((grouped _ _ _ _ _ c.meet.ensures c.meet-in-loop-c.ensures
      c.meet-in-loop-c-2.ensures c.meet-in-loop-c-3.ensures
      ).0 c.if-meet.false)),
)

pub loop-b-preserved : goal.loop-b-preserved
loop-b-preserved c = (
  omega arith,
  c.loop-c.invariant.1,
  every_more _ _ c.loop-b.invariant.2 (every_done _ _ _ c.loop-c.invariant.0 c.loop-c-test.false c.loop-c.invariant.2),
)

pub triples-preserved : goal.triples-preserved
triples-preserved c = (
  omega arith,
  c.loop-b.invariant.1,
  every_more _ _ c.triples.invariant.2 (every_done _ _ _ c.loop-b.invariant.0 c.loop-b-test.false c.loop-b.invariant.2),
)

pub returns-after-triples : goal.returns-after-triples
unfolding associative_test
returns-after-triples c = c.triples.invariant.1
    ∙ sym (every_done _ _ _ c.triples.invariant.0 c.triples-test.false c.triples.invariant.2)

pub returns-then-meet : goal.returns-then-meet
unfolding associative_test
returns-then-meet c = sym
    (every_not _ _ c.triples.a
    c.triples-test.true
    (every_not _ _ c.loop-b.b
    c.loop-b-test.true
    (every_not _ _ c.loop-c.c c.loop-c-test.true
    (ne_eqb _ _ (λ e. c.if-meet.true ((grouped _ _ _ _ _ c.meet.ensures c.meet-in-loop-c.ensures
    c.meet-in-loop-c-2.ensures c.meet-in-loop-c-3.ensures).1 e))))))
