-- Twin of PrintedTable, pinned by table_report OneReportClaim.
-- What is printed for a text: the table of its rule, or the refusal, where 4, those of the set-up, 5 to 9 and 10 are looked at in this order.
use Rattle.std.specs.Prelude.{ℕ, ◌≤◌, length, Result}
use mathlib.Core.{List.{List}, Option.{Option, none, some}}
use Rattle.refusal.specs.{declared.Refusal.{Refusal}, declared.Refusal.TheVariants.{TextForm}}
use Rattle.values.specs.Setup.{Setup}
use Rattle.text_format.specs.Format.{Outcome, contents, refused}
use Rattle.channel_file.specs.Reading.{read_file}
use Rattle.channel_file.specs.RegisterReading.{read_file as read_register_file}
use Rattle.table_rows.specs.{Rendering.{Renders}, Rows.{rows_text, rows_limit, register_rows_limit}}
use Rattle.channel_io.specs.{FileConditions.{FileForm, number_file}, RegisterFiles.{register_file}, FileRefusals.{pair_states, pair_table, pair_table_refusal}}
use Rattle.table_report.specs.PrintedTable.{refusal_text}

-- The lines for an answer: those of the table of a set-up and a rule's nodes, or of a refusal.
unfoldable pub answer_text : Option Refusal → Setup → List ℕ → List ℕ
answer_text none s nodes = rows_text s.events s.kind (pair_states s nodes) (pair_table s nodes)
answer_text (some refusal) s nodes = refusal_text refusal

-- For a text, by what the file reader says of it.
unfoldable pub outcome_text : (F : FileForm) → Outcome F.Inside → List ℕ
outcome_text F (refused p) = refusal_text (TextForm p)
outcome_text F (contents c) = answer_text (pair_table_refusal (F.setup_of c) (F.nodes_of c)) (F.setup_of c) (F.nodes_of c)

-- Answer and buffer of a call that renders such an output: its length, or 13, which a buffer of the limit's length never is.
pub record ReportsText (s : List ℕ) (limit : ℕ) (old new : List ℕ) (r : Result ℕ Refusal) : Type 0 where
  pub rendered : Renders none s old new r
  pub within : length s ≤ limit

-- Document 01's file, and a register's. Every output has room in so many bytes (Claims, ReportsAs).
abbrev pub report_text : List ℕ → List ℕ
report_text t = outcome_text number_file (read_file t)

abbrev pub report_limit : ℕ
report_limit = rows_limit

abbrev pub Reports : List ℕ → List ℕ → List ℕ → Result ℕ Refusal → Type 0
Reports t = ReportsText (report_text t) report_limit

abbrev pub register_report_text : List ℕ → List ℕ
register_report_text t = outcome_text register_file (read_register_file t)

abbrev pub register_report_limit : ℕ
register_report_limit = register_rows_limit

abbrev pub RegisterReports : List ℕ → List ℕ → List ℕ → Result ℕ Refusal → Type 0
RegisterReports t = ReportsText (register_report_text t) register_report_limit
