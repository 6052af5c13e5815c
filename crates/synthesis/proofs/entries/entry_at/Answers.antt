use mathlib.Core.Path.{refl}
use native.Mathlib.{Nat.{mul-le-mul_left}, Omega.{arith}}
use Rattle.synthesis.proofs.entries.entry_at.Goals as goal

pub overflow_mul-result : goal.overflow_mul-result
overflow_mul-result c = omega (arith, mul-le-mul_left c.args.state c.requires.2, c.requires.0)

pub overflow_add-result : goal.overflow_add-result
overflow_add-result c = omega (arith, mul-le-mul_left c.args.state c.requires.2, c.requires.0)

pub returns : goal.returns
returns c = refl
