use native.Mathlib.Omega.{arith}
use Rattle.values.specs.Setup.{meet_of}
use Rattle.synthesis.proofs.TableEntries.{met_far, met_here}
use borrow.Author.Rules.{rules}
use Rattle.synthesis.proofs.entries.meet_node.Goals as goal

pub returns-then-event-events : goal.returns-then-event-events
returns-then-event-events c =
    met_here (meet_of c.args.value_set.kind c.args.value_set.meet.now) c.args.nodes.now.firsts c.args.nodes.now.values c.args.events c.args.state
    c.args.node c.args.to.now
    c.from-event.result c.entry_at-at.result c.meet_of.result c.from-event.ensures c.if-event-events.true c.entry_at-at.ensures (search rules)
    c.meet_of.ensures

pub returns-else-event-events : goal.returns-else-event-events
returns-else-event-events c =
    met_far (meet_of c.args.value_set.kind c.args.value_set.meet.now) c.args.nodes.now.firsts c.args.nodes.now.values c.args.events c.args.state
    c.args.node c.args.to.now
    (omega (arith, c.if-event-events.false, c.from-event.ensures))
