-- The measure is the number of nodes left.
use Rattle.formulas.proofs.+closed_position_open_position.Given as goal

abbrev pub decreases-closed_position : goal.decreases-closed_position
decreases-closed_position l = l.left

abbrev pub decreases-open_position : goal.decreases-open_position
decreases-open_position l = l.left
