use native.Mathlib.Nat.{mod-eq_of_lt, one-mul}
use lib.Pow.{pow-lt}
use Rattle.synthesis.proofs.node_sets.power.Goals as goal

pub returns : goal.returns
returns c = rw (one-mul) (mod-eq_of_lt (pow-lt {j = 64} c.requires))
