-- Entries beside document 01's, by the same definitions: the table of a file by one call, the rows and the digraph of a table that is handed
-- in, tokens without a file, and the static library for C and Rust. proofs/Extras has a proof.
use mathlib.Core.{Path.{◌≡◌}, List.{List}, Option.{some}}
use Rattle.std.specs.Prelude.{ℕ, length, Result}
use Rattle.refusal.specs.{declared.Refusal.{Refusal}, Refusal.{JudgedCall, refusal_of, yield_of}}
use Rattle.values.specs.declared.ValueKind.{ValueKind}
use Rattle.channel_file.specs.Claims.{TokenListOf, TokenListClaim}
use Rattle.channel_file.specs.{RegisterFile.{token_text, SmallToken}, RegisterReading.{read_file, read_tokens, tokens_stretch}}
use Rattle.channel_io.specs.{FileConditions.{FileForm, JudgedText, number_file}, RegisterFiles.{register_file}}
use Rattle.channel_io.specs.FileTables.{file_conditions, MakesTableOf}
use Rattle.channel_io.specs.FileCompilation.{CompilesFile, CompilesRegisterFile}
use Rattle.channel_io.specs.declared.FileTable.{FileTable}
use Rattle.table_rows.specs.{TableConditions.{rendering_conditions}, Rows.{rows_text, PrintsRows}}
use Rattle.table_graph.specs.Graph.{graph_conditions, Draws}
use Rattle.gurvazze_host.specs.Claims.{HostClaim}

-- The table of a file of a form by one call, by what its contract states: the refusal in its answer, and the numbers and states of what was made.
pub record TablesMade (F : FileForm) (Compiles : (t meet to meet' to' : List ℕ) → Result (FileTable F.Numbers) Refusal → Type 0) : Type 1 where
  pub judged : (t meet to meet' to' : List ℕ) (r : Result (FileTable F.Numbers) Refusal) → Compiles t meet to meet' to' r →
      JudgedText {M = List ℕ × List ℕ} F t (file_conditions meet to) (refusal_of r) (meet, to) (meet', to')
  pub made : (t meet to meet' to' : List ℕ) (r : Result (FileTable F.Numbers) Refusal) → Compiles t meet to meet' to' r →
      (found : FileTable F.Numbers) → yield_of r ≡ some found → MakesTableOf F t meet to meet' to' found.numbers found.states

pub record Extras : Type 1 where
  -- channel_io `compile_file`; and that of its module `registers`, where there are no meet entries
  pub files : TablesMade number_file CompilesFile
  pub register_files : TablesMade register_file CompilesRegisterFile
  -- table_rows `rows`, table_graph `dot`: for either kind of values
  pub printing_rows : (events : ℕ) (kind : ValueKind) (states : ℕ) (bytes old new : List ℕ) (r : Result ℕ Refusal)
      → PrintsRows events kind states bytes old new r →
      JudgedCall (rendering_conditions events kind 0 states bytes (rows_text events kind states bytes) (length old)) (refusal_of r) old new
  pub drawing : (events : ℕ) (kind : ValueKind) (top states : ℕ) (bytes old new : List ℕ) (r : Result ℕ Refusal)
      → Draws events kind top states bytes old new r →
      JudgedCall (graph_conditions events kind top states bytes (length old)) (refusal_of r) old new
  -- channel_file `read_tokens`, and that of its module `registers`
  pub tokens_alone : TokenListClaim
  pub register_tokens_alone : TokenListOf read_file (λ c. c.rule) token_text tokens_stretch SmallToken read_tokens
  -- gurvazze_host, each function
  pub static_library : HostClaim
