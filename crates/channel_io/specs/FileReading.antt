-- Twin of FileConditions, pinned by product_claims DemandTwo.
-- Reading a file (refusals 4, those of a set-up, 5 to 9 and 13): the answer, and what two lent buffers hold afterwards. For any form of files.
use Rattle.std.specs.Prelude.{ℕ, Result, Err}
use mathlib.Core.{Path.{◌≡◌}, List.{List}}
use Rattle.refusal.specs.{declared.Refusal.{Refusal}, RefusalAnswers.{answered, put_unless}, declared.Refusal.TheVariants.{TextForm}}
use Rattle.text_format.specs.Format.{Outcome, contents, refused}
use Rattle.channel_file.specs.Reading.{read_file}
use Rattle.channel_file.specs.RegisterReading.{read_file as read_register_file}
use Rattle.channel_io.specs.declared.{FileNumbers.{FileNumbers}, registers.FileNumbers.{FileNumbers as RegisterNumbers}}
use Rattle.channel_io.specs.{FileRefusals.{stored_refusal}, FileConditions.{FileForm, number_file}, RegisterFiles.{register_file}}

module _ (F : FileForm) where
  -- The buffers after a text was read: the meet entries, and the nodes of the rule.
  unfoldable pub meet_after : Outcome F.Inside → List ℕ → List ℕ → List ℕ
  meet_after (refused p) meet rule = meet
  meet_after (contents c) meet rule = put_unless (stored_refusal (F.setup_of c) (F.nodes_of c) meet rule) (F.setup_of c).meet meet

  unfoldable pub rule_after : Outcome F.Inside → List ℕ → List ℕ → List ℕ
  rule_after (refused p) meet rule = rule
  rule_after (contents c) meet rule = put_unless (stored_refusal (F.setup_of c) (F.nodes_of c) meet rule) (F.nodes_of c) rule

  -- The answer to a text.
  unfoldable pub read_answer : Outcome F.Inside → List ℕ → List ℕ → Result F.Numbers Refusal
  read_answer (refused p) meet rule = Err (TextForm p)
  read_answer (contents c) meet rule = answered (stored_refusal (F.setup_of c) (F.nodes_of c) meet rule) (F.numbers_of c)

  -- Answer and later contents of a call that reads the text t, by what the file reader says of it.
  pub record ReadsBy (read : List ℕ → Outcome F.Inside) (t meet rule meet' rule' : List ℕ) (r : Result F.Numbers Refusal) : Type 0 where
    pub answer : r ≡ read_answer (read t) meet rule
    pub meet_is : meet' ≡ meet_after (read t) meet rule
    pub rule_is : rule' ≡ rule_after (read t) meet rule

-- Document 01's file, and a register's. A register has no meet entries; `registers::read_file` is lent no buffer for them, which is this with [].
abbrev pub ReadsFile : List ℕ → List ℕ → List ℕ → List ℕ → List ℕ → Result FileNumbers Refusal → Type 0
ReadsFile = ReadsBy number_file read_file

abbrev pub ReadsRegisterFile : List ℕ → List ℕ → List ℕ → List ℕ → List ℕ → Result RegisterNumbers Refusal → Type 0
ReadsRegisterFile = ReadsBy register_file read_register_file
