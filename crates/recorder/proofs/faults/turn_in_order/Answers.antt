-- `recorder::faults::turn_in_order` meets its contract: below 1, or what the upper limit says.
use mathlib.Core.Path.{sym, ◌∙◌}
use native.Mathlib.Omega.{arith}
use borrow.Author.Tests.{le-leb, lt-leb}
use Rattle.theory.proofs.ValueSets.{and_passed, and_failed}
use Rattle.recorder.specs.ToolTests.{turn_test}
use Rattle.recorder.proofs.faults.turn_in_order.Goals as goal

pub returns-else-n-ge1 : goal.returns-else-n-ge1
unfolding turn_test
returns-else-n-ge1 c = lt-leb 1 c.args.n (omega arith) ∙ sym (and_failed _ (lt-leb 1 c.args.n (omega arith)))

pub returns-then-n-ge1 : goal.returns-then-n-ge1
unfolding turn_test
returns-then-n-ge1 c = sym (and_passed (le-leb 1 c.args.n (omega arith)))
