-- The nodes left fall.
use Rattle.synthesis.proofs.demands.+gather.Given as goal

abbrev pub decreases-gather : goal.decreases-gather
decreases-gather l = l.left
