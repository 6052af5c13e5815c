-- Twin of FileTables, pinned by product_claims Extras.
-- The table of a file's rule (refusals 4, those of a set-up, 5 to 10 and 13): the answer, and what two lent buffers hold afterwards. For any form of
-- files.
use Rattle.std.specs.Prelude.{ℕ, Result, Err}
use mathlib.Core.{Path.{◌≡◌}, List.{List}}
use Rattle.refusal.specs.{declared.Refusal.{Refusal}, RefusalAnswers.{answered, put_unless}, declared.Refusal.TheVariants.{TextForm}}
use Rattle.text_format.specs.Format.{Outcome, contents, refused}
use Rattle.channel_file.specs.Reading.{read_file}
use Rattle.channel_file.specs.RegisterReading.{read_file as read_register_file}
use Rattle.channel_io.specs.declared.{FileNumbers.{FileNumbers}, FileTable.{FileTable}, registers.FileNumbers.{FileNumbers as RegisterNumbers}}
use Rattle.channel_io.specs.{FileConditions.{FileForm, number_file}, RegisterFiles.{register_file}}
use Rattle.channel_io.specs.FileRefusals.{pair_states, pair_table, pair_compile_refusal}

abbrev pub with_states : {N : Type 0} → N → ℕ → FileTable N
with_states numbers states = record { numbers = numbers; states = states }

module _ (F : FileForm) where
  -- The buffers afterwards: the meet entries, and the table.
  unfoldable pub entries_after : Outcome F.Inside → List ℕ → List ℕ → List ℕ
  entries_after (refused p) meet to = meet
  entries_after (contents c) meet to = put_unless (pair_compile_refusal (F.setup_of c) (F.nodes_of c) meet to) (F.setup_of c).meet meet

  unfoldable pub table_after : Outcome F.Inside → List ℕ → List ℕ → List ℕ
  table_after (refused p) meet to = to
  table_after (contents c) meet to =
      put_unless (pair_compile_refusal (F.setup_of c) (F.nodes_of c) meet to) (pair_table (F.setup_of c) (F.nodes_of c)) to

  -- The answer to a text: the numbers of the file and the states of its rule's table.
  unfoldable pub file_table_answer : Outcome F.Inside → List ℕ → List ℕ → Result (FileTable F.Numbers) Refusal
  file_table_answer (refused p) meet to = Err (TextForm p)
  file_table_answer (contents c) meet to =
      answered (pair_compile_refusal (F.setup_of c) (F.nodes_of c) meet to)
      (with_states (F.numbers_of c) (pair_states (F.setup_of c) (F.nodes_of c)))

  -- Answer and later contents of a call that makes the table of the text t, by what the file reader says of it.
  pub record CompilesBy (read : List ℕ → Outcome F.Inside) (t meet to meet' to' : List ℕ) (r : Result (FileTable F.Numbers) Refusal) : Type 0 where
    pub answer : r ≡ file_table_answer (read t) meet to
    pub meet_is : meet' ≡ entries_after (read t) meet to
    pub table_is : to' ≡ table_after (read t) meet to

-- Document 01's file, and a register's, of which `registers::compile_file` is this with [] for the meet entries.
abbrev pub CompilesFile : List ℕ → List ℕ → List ℕ → List ℕ → List ℕ → Result (FileTable FileNumbers) Refusal → Type 0
CompilesFile = CompilesBy number_file read_file

abbrev pub CompilesRegisterFile : List ℕ → List ℕ → List ℕ → List ℕ → List ℕ → Result (FileTable RegisterNumbers) Refusal → Type 0
CompilesRegisterFile = CompilesBy register_file read_register_file
