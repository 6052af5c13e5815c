-- `values::values_in_limits` meets its contract: each answer is the test's.
use native.Mathlib.Omega.{arith}
use borrow.Author.Tests.{le-leb, lt-leb}
use Rattle.values.specs.SetupTests.{values_test}
use Rattle.values.proofs.values_in_limits.Goals as goal

pub returns-then-values-lt1 : goal.returns-then-values-lt1
unfolding values_test
returns-then-values-lt1 c = rw (lt-leb 1 c.args.values (omega arith))

pub returns-then-values-gt-VALUE_LIMIT : goal.returns-then-values-gt-VALUE_LIMIT
unfolding values_test
returns-then-values-gt-VALUE_LIMIT c = rw (le-leb 1 c.args.values (omega arith), lt-leb c.args.values 16 (omega arith))

pub returns : goal.returns
unfolding values_test
returns c = rw (le-leb 1 c.args.values (omega arith), le-leb c.args.values 16 (omega arith))
