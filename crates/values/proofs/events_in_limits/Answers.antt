-- `values::events_in_limits` meets its contract: each answer is the test's.
use native.Mathlib.Omega.{arith}
use borrow.Author.Tests.{le-leb, lt-leb}
use Rattle.values.specs.SetupTests.{events_test}
use Rattle.values.proofs.events_in_limits.Goals as goal

pub returns-then-events-lt1 : goal.returns-then-events-lt1
unfolding events_test
returns-then-events-lt1 c = rw (lt-leb 1 c.args.events (omega arith))

pub returns : goal.returns
unfolding events_test
returns c = rw (le-leb 1 c.args.events (omega arith))
