-- Twin of FileConditions, pinned by product_claims DemandOne.
-- Which refusal a file meets, computed, and the table of its rule: the twins of FileConditions' lists. For a set-up of either kind.
use Rattle.std.specs.Prelude.{ℕ}
use mathlib.Core.{List.{List}, Bool.{Bool, ◌&&◌}, Option.{Option, some}}
use lib.{Dec.{leb}, ListN.{length}}
use Rattle.limits.specs.Limits.{state_limit}
use Rattle.refusal.specs.{declared.Refusal.{Refusal}, RefusalAnswers.{or_else, plain_unless}, declared.Refusal.TheVariants.{BufferLength, TextForm}}
use Rattle.values.specs.{Setup.{Setup, setup_top}, SetupTests.{setup_refusal}}
use Rattle.formulas.specs.RuleRefusal.{rule_refusal}
use Rattle.machines.specs.TableBytes.{table_bytes, entry_bytes}
use Rattle.synthesis.specs.Compilation.{rule_states, rule_table, rule_table_refusal}
use Rattle.text_format.specs.Format.{Outcome, contents, refused}
use Rattle.channel_file.specs.ChannelFile.{Contents, rule_numbers}
use Rattle.channel_io.specs.FileConditions.{file_setup}

-- ---- a set-up and a rule
module _ (s : Setup) (rule : List ℕ) where
  -- The set-up's refusals, 1 to 3 or 1 and 20; 5 to 9.
  unfoldable pub pair_refusal : Option Refusal
  pair_refusal = or_else (setup_refusal s) (rule_refusal s.events s.kind rule)

  -- Two buffers that held these, one for the meet entries and one for the nodes, have room for their outputs.
  unfoldable pub has_room : List ℕ → List ℕ → Bool
  has_room old_meet old_rule = leb (length s.meet) (length old_meet) && leb (length rule) (length old_rule)

  -- Then 13.
  unfoldable pub stored_refusal : List ℕ → List ℕ → Option Refusal
  stored_refusal old_meet old_rule = or_else pair_refusal (plain_unless (has_room old_meet old_rule) BufferLength)

  -- The states of the rule's table, and the table in bytes.
  abbrev pub pair_states : ℕ
  pair_states = rule_states s.kind s.events (setup_top s) s.meet rule state_limit

  abbrev pub pair_table : List ℕ
  pair_table =
      table_bytes (entry_bytes s.kind) s.events (rule_table s.kind s.events (setup_top s) s.meet rule state_limit) pair_states

  -- The set-up's refusals, 5 to 9, and 10, over the limit of states, "where the call makes a table".
  unfoldable pub pair_table_refusal : Option Refusal
  pair_table_refusal = or_else (setup_refusal s) (rule_table_refusal s.kind s.events (setup_top s) s.meet rule state_limit)

  -- Two buffers, one for the meet entries and one for the table, have room.
  unfoldable pub has_table_room : List ℕ → List ℕ → Bool
  has_table_room old_meet old_table = leb (length s.meet) (length old_meet) && leb (length pair_table) (length old_table)

  -- Then 13.
  unfoldable pub pair_compile_refusal : List ℕ → List ℕ → Option Refusal
  pair_compile_refusal old_meet old_table = or_else pair_table_refusal (plain_unless (has_table_room old_meet old_table) BufferLength)

-- ---- the same of the contents of document 01's file
module _ (c : Contents) where
  abbrev pub contents_refusal : Option Refusal
  contents_refusal = pair_refusal (file_setup c) (rule_numbers c)

  abbrev pub file_states : ℕ
  file_states = pair_states (file_setup c) (rule_numbers c)

  abbrev pub file_table : List ℕ
  file_table = pair_table (file_setup c) (rule_numbers c)

  -- Whether there is a table.
  abbrev pub contents_table_refusal : Option Refusal
  contents_table_refusal = pair_table_refusal (file_setup c) (rule_numbers c)

-- ---- a text, by what the file reader says of it: 4, or what its contents meet
unfoldable pub text_refusal : {A : Type 0} → (A → Option Refusal) → Outcome A → Option Refusal
text_refusal refusal (refused p) = some (TextForm p)
text_refusal refusal (contents c) = refusal c
