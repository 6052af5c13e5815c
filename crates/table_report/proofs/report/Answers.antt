-- `report` meets its contract: the line of the refusal, or the rows of the table that was made.
use Prim.Native.Nat.{ℕ}
use mathlib.Core.Path.{sym, ap}
use native.Mathlib.Omega.{arith}
use lib.{ListN.{length-replicate}, Seq.{length-take-le}}
use Rattle.limits.specs.Limits.{meet_limit}
use Rattle.values.specs.declared.ValueKind.TheVariants.{Numbered}
use Rattle.channel_io.specs.{Claims.{table_bytes_limit}, declared.FileNumbers.{FileNumbers}}
use Rattle.channel_io.proofs.Callers.{few_entries, unmade, made_of, events_are, limits}
use Rattle.table_report.proofs.{ReportClaims.{one_report_claim}, Answers.{refused_reports, made_reports}}
use Rattle.table_report.proofs.report.Goals as goal

pub overflow_mul-table : goal.overflow_mul-table
overflow_mul-table c =
    omega (arith, (limits (made_of c.compile_file.ensures c.in-Ok.is)).table_in)

pub overflow_mul-table-in-Ok : goal.overflow_mul-table-in-Ok
overflow_mul-table-in-Ok c =
    omega (arith, (limits (made_of c.compile_file.ensures c.in-Ok.is)).table_in)

pub slice_bounds-table-end : goal.slice_bounds-table-end
slice_bounds-table-end c =
    (limits (made_of c.compile_file.ensures c.in-Ok.is)).table_in

pub slice_bounds-entries-end : goal.slice_bounds-entries-end
slice_bounds-entries-end c =
    sym (length-take-le _ _ (limits (made_of c.compile_file.ensures c.in-Ok.is)).table_in)

pub returns-in-Err : goal.returns-in-Err
returns-in-Err c =
    refused_reports one_report_claim.numbers (λ i ok. omega (arith, length-replicate {A = ℕ} meet_limit 0, few_entries i ok))
    (λ i. omega (arith, length-replicate {A = ℕ} table_bytes_limit 0))
    (unmade c.compile_file.ensures c.in-Err.is).0 c.render.ensures

pub returns-in-Ok : goal.returns-in-Ok
returns-in-Ok c =
    let w = made_of c.compile_file.ensures c.in-Ok.is in
    made_reports one_report_claim.numbers w (events_are w) (ap (λ (n : FileNumbers). Numbered n.values) w.numbers_are) (limits w).table_taken
    c.rows.ensures
