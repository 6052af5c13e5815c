-- `advance_word` meets its contract. The loop's invariant: the nodes from bit `end` on came, and the bits below it are left.
use Rattle.synthesis.specs.Exploring.{PassedStates}
use Rattle.synthesis.proofs.MarkedNodes.{WordWalk}
use Rattle.synthesis.proofs.exploration.advance_word.Given as goal

abbrev pub invariant-loop-rest : goal.invariant-loop-rest
invariant-loop-rest l =
    WordWalk (PassedStates l.nodes.firsts l.rows l.events) l.word l.base l.initial.sets l.rest l.end l.sets

abbrev pub decreases-loop-rest : goal.decreases-loop-rest
decreases-loop-rest l = l.end
