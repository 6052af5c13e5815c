-- `main` keeps within its arrays: the report of a text fits a buffer of the limit's length.
use Prim.Native.Nat.{ℕ}
use mathlib.Core.Path.{sym}
use native.Mathlib.Omega.{arith}
use lib.{ListN.{length-replicate}, Seq.{length-take-le}}
use Rattle.table_report.specs.Report.{register_report_limit}
use Rattle.table_report.proofs.Answers.{count_within}
use Rattle.register_table.proofs.main.Goals as goal

pub slice_bounds-out-end : goal.slice_bounds-out-end
slice_bounds-out-end c =
    let room = length-replicate {A = ℕ} register_report_limit 0 in
    omega (arith, count_within c.report-answer.ensures (omega arith) c.in-Ok.is)

pub slice_bounds-write_all-end : goal.slice_bounds-write_all-end
slice_bounds-write_all-end c =
    let room = length-replicate {A = ℕ} register_report_limit 0 in
    sym (length-take-le _ _ (omega (arith, count_within c.report-answer.ensures (omega arith) c.in-Ok.is)))
