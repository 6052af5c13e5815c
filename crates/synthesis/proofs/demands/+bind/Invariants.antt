-- The nodes left fall.
use Rattle.synthesis.proofs.demands.+bind.Given as goal

abbrev pub decreases-bind : goal.decreases-bind
decreases-bind l = l.left
