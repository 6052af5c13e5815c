-- `meet_word` meets its contract. The loop's invariant: the nodes from bit `end` on came, and the bits below it are left.
use mathlib.Core.Path.{◌≡◌}
use lib.{ListN.{length}}
use Rattle.values.specs.Setup.{meet_of}
use Rattle.synthesis.specs.TableEntries.{Met}
use Rattle.synthesis.proofs.MarkedNodes.{WordWalk}
use Rattle.synthesis.proofs.entries.meet_word.Given as goal

abbrev pub invariant-loop-rest : goal.invariant-loop-rest
invariant-loop-rest l =
    (length l.to ≡ length l.initial.to) × WordWalk (Met (meet_of l.value_set.kind l.value_set.meet.now) l.nodes.firsts l.nodes.values l.events l.state)
    l.word l.base l.initial.to l.rest l.end l.to

abbrev pub decreases-loop-rest : goal.decreases-loop-rest
decreases-loop-rest l = l.end
