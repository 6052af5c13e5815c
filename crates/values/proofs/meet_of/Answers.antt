-- `values::meet_of` meets its contract: the place of two 32-bit values fits 64 bits, and each arm is `meet_of`'s.
use native.Mathlib.Omega.{arith}
use Rattle.theory.specs.ValueSets.{meet_at}
use Rattle.values.specs.Setup.{meet_of}
use Rattle.values.proofs.Setups.{place_fits}
use Rattle.values.proofs.meet_of.Goals as goal

pub overflow_mul-a : goal.overflow_mul-a
overflow_mul-a c = omega (
  arith,
  place_fits c.args.a c.in-Numbered.n c.args.b
      (omega arith) (omega arith) (omega arith),
)

pub overflow_add-a : goal.overflow_add-a
overflow_add-a c = record {
  fits = place_fits c.args.a c.in-Numbered.n c.args.b (omega arith)
      (omega arith) (omega arith);
}

pub returns-in-Numbered : goal.returns-in-Numbered
unfolding meet_of meet_at
returns-in-Numbered c = rw c.in-Numbered.is c.entry.ensures

pub returns-in-Register : goal.returns-in-Register
unfolding meet_of
returns-in-Register c = rw c.in-Register.is
