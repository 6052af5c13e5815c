use native.Mathlib.Omega.{arith}
use Rattle.synthesis.proofs.Bits.{last_set}
use Rattle.synthesis.proofs.node_sets.last_set.Goals as goal

pub overflow_cast-result : goal.overflow_cast-result
overflow_cast-result c = omega (arith, (last_set c.args.word c.requires c.ranges.word.fits).0)

pub overflow_sub-result : goal.overflow_sub-result
overflow_sub-result c = omega (arith, (last_set c.args.word c.requires c.ranges.word.fits).0)

pub returns : goal.returns
returns c = (last_set c.args.word c.requires c.ranges.word.fits).1
