-- `registers::report` meets its contract: the line of the refusal, or the rows of the table that was made.
use Prim.Native.Nat.{ℕ}
use mathlib.Core.Path.{sym, ap}
use native.Mathlib.Omega.{arith}
use lib.{ListN.{length-replicate}, Seq.{length-take-le}}
use Rattle.values.specs.declared.ValueKind.TheVariants.{Register}
use Rattle.channel_io.specs.Claims.{register_bytes_limit}
use Rattle.channel_io.proofs.Callers.{register_unmade, register_made_of, register_events, register_lines, register_limits}
use Rattle.table_report.proofs.{ReportClaims.{one_report_claim}, Answers.{refused_reports, made_reports}}
use Rattle.table_report.proofs.registers.report.Goals as goal

pub overflow_mul-table : goal.overflow_mul-table
overflow_mul-table c =
    omega (arith, (register_limits (register_made_of c.compile_file.ensures c.in-Ok.is)).table_in)

pub overflow_mul-table-in-Ok : goal.overflow_mul-table-in-Ok
overflow_mul-table-in-Ok c =
    omega (arith, (register_limits (register_made_of c.compile_file.ensures c.in-Ok.is)).table_in)

pub slice_bounds-table-end : goal.slice_bounds-table-end
slice_bounds-table-end c =
    omega (arith, (register_limits (register_made_of c.compile_file.ensures c.in-Ok.is)).table_in)

pub slice_bounds-entries-end : goal.slice_bounds-entries-end
slice_bounds-entries-end c =
    sym (length-take-le _ _ (omega (arith, (register_limits (register_made_of c.compile_file.ensures c.in-Ok.is)).table_in)))

pub returns-in-Err : goal.returns-in-Err
returns-in-Err c =
    refused_reports one_report_claim.registers (λ i ok. omega arith) (λ i. omega (arith, length-replicate {A = ℕ} register_bytes_limit 0))
    (register_unmade c.compile_file.ensures c.in-Err.is).0 c.render.ensures

pub returns-in-Ok : goal.returns-in-Ok
returns-in-Ok c =
    let w = register_made_of c.compile_file.ensures c.in-Ok.is in
    made_reports one_report_claim.registers w (register_events w) (ap Register (register_lines w)) (register_limits w).table_taken
    c.rows.ensures
