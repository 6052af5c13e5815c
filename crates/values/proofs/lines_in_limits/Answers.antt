-- `values::lines_in_limits` meets its contract: each answer is the test's.
use native.Mathlib.Omega.{arith}
use borrow.Author.Tests.{le-leb, lt-leb}
use Rattle.values.specs.SetupTests.{lines_test}
use Rattle.values.proofs.lines_in_limits.Goals as goal

pub returns-then-lines-lt1 : goal.returns-then-lines-lt1
unfolding lines_test
returns-then-lines-lt1 c = rw (lt-leb 1 c.args.lines (omega arith))

pub returns : goal.returns
unfolding lines_test
returns c = rw (le-leb 1 c.args.lines (omega arith))
