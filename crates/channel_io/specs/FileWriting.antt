-- Twin of FileConditions, pinned by product_claims DemandTwo.
-- Writing a file from a set-up and the nodes of a rule (refusals of a set-up, 5 to 9 and 13): the answer, and what a lent buffer holds afterwards.
use Rattle.std.specs.Prelude.{ℕ, Result}
use mathlib.Core.{Path.{◌≡◌}, List.{List, []}, Option.{Option, none, some}}
use lib.{Dec.{leb}, ListN.{length}}
use Rattle.refusal.specs.{declared.Refusal.{Refusal}, RefusalAnswers.{or_else, plain_unless, answered, put_unless}, declared.Refusal.TheVariants.{BufferLength}}
use Rattle.values.specs.{Setup.{Setup, setup, register_setup}, declared.SetUp.{SetUp}, declared.Values.{Values}}
use Rattle.values.specs.declared.Values.TheVariants.{Numbered as NumberedValues, Register as RegisterValues}
use Rattle.channel_file.specs.{ChannelFile.{text}, RegisterFile.{text as register_text}}
use Rattle.channel_writer.specs.Writing.{contents_of, node_tokens}
use Rattle.channel_writer.specs.RegisterWriting.{contents_of as register_contents_of, node_tokens as register_tokens}
use Rattle.channel_io.specs.FileRefusals.{pair_refusal}

-- ---- a text that is written for a set-up and a rule
module _ (s : Setup) (rule text old : List ℕ) where
  -- The set-up's refusals, 5 to 9, then 13.
  unfoldable pub write_refusal : Option Refusal
  write_refusal = or_else (pair_refusal s rule) (plain_unless (leb (length text) (length old)) BufferLength)

  -- Answer and later contents of a call that writes it.
  pub record WritesText (new : List ℕ) (r : Result ℕ Refusal) : Type 0 where
    pub answer : r ≡ answered write_refusal (length text)
    pub buffer : new ≡ put_unless write_refusal text old

-- The text of contents; empty where there are none, which is never so where the set-up's refusals and 5 to 9 are not met (Claims).
abbrev pub text_or_empty : {A : Type 0} → (A → List ℕ) → Option A → List ℕ
text_or_empty text none = []
text_or_empty text (some c) = text c

-- ---- document 01's file
unfoldable pub file_text : ℕ → ℕ → ℕ → List ℕ → List ℕ → List ℕ
file_text events values top meet rule = text_or_empty text (contents_of events values top meet (node_tokens rule))

abbrev pub WritesFile : ℕ → ℕ → ℕ → List ℕ → List ℕ → List ℕ → List ℕ → Result ℕ Refusal → Type 0
WritesFile events values top meet rule old new r = WritesText (setup events values top meet) rule (file_text events values top meet rule) old new r

-- ---- a register's file
unfoldable pub register_file_text : ℕ → ℕ → List ℕ → List ℕ
register_file_text events lines rule = text_or_empty register_text (register_contents_of events lines (register_tokens rule))

abbrev pub WritesRegisterFile : ℕ → ℕ → List ℕ → List ℕ → List ℕ → Result ℕ Refusal → Type 0
WritesRegisterFile events lines rule old new r = WritesText (register_setup events lines) rule (register_file_text events lines rule) old new r

-- ---- the file of a set-up as it is handed in
abbrev pub WritesRule : SetUp → List ℕ → List ℕ → List ℕ → Result ℕ Refusal → Type 0
WritesRule s rule old new r = of_values s.values
  where
    of_values : Values → Type 0
    of_values (NumberedValues values top meet) = WritesFile s.events values top meet.now rule old new r
    of_values (RegisterValues lines) = WritesRegisterFile s.events lines rule old new r
