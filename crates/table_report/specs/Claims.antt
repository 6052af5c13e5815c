-- What is claimed of the program's output, for both forms of files; inhabited in proofs/ReportClaims.
use Rattle.std.specs.Prelude.{ℕ, ◌≤◌, length}
use mathlib.Core.{Path.{◌≡◌}, List.{List}}
use Rattle.channel_io.specs.{FileConditions.{FileForm, number_file}, RegisterFiles.{register_file}}
use Rattle.table_report.specs.PrintedTable.{Prints}
use Rattle.table_report.specs.Report.{report_text, report_limit, register_report_text, register_report_limit}

-- What is printed for a text is the refusal, or the table of its rule; nothing else is printed for it; and it has room in so many bytes.
pub record ReportsAs (F : FileForm) (printed_for : List ℕ → List ℕ) (limit : ℕ) : Type 0 where
  pub prints : (t : List ℕ) → Prints F t (printed_for t)
  pub only : (t s : List ℕ) → Prints F t s → s ≡ printed_for t
  pub within : (t : List ℕ) → length (printed_for t) ≤ limit

pub record OneReportClaim : Type 0 where
  pub numbers : ReportsAs number_file report_text report_limit
  pub registers : ReportsAs register_file register_report_text register_report_limit
