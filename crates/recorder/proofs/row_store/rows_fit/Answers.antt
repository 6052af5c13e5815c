-- `recorder::row_store::rows_fit` meets its contract: all rows, against the limit.
use mathlib.Core.Path.{ap}
use lib.Dec.{leb}
use Rattle.limits.specs.Limits.{row_limit}
use Rattle.recorder.proofs.row_store.rows_fit.Goals as goal

pub returns : goal.returns
returns c = ap (λ x. leb x row_limit) c.rows_before.ensures.0
