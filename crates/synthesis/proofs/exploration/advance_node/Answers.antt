use native.Mathlib.Omega.{arith}
use Rattle.synthesis.proofs.NextSets.{passed_far, passed_here}
use Rattle.synthesis.proofs.exploration.advance_node.Goals as goal

pub returns-then-event-events : goal.returns-then-event-events
returns-then-event-events c =
    passed_here c.args.nodes.now.firsts c.args.rows.now c.args.events c.args.node c.args.sets.now c.from-event.result c.unite.result c.from-event.ensures
    (omega arith) c.unite.ensures

pub returns-else-event-events : goal.returns-else-event-events
returns-else-event-events c =
    passed_far c.args.nodes.now.firsts c.args.rows.now c.args.events c.args.node c.args.sets.now
    (omega (arith, c.if-event-events.false, c.from-event.ensures))
