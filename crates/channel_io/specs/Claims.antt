-- What is claimed of reading, writing and compiling files; each claim is inhabited in proofs/.
use Rattle.std.specs.Prelude.{ℕ, ◌≤◌, ◌*◌, length}
use mathlib.Core.{Path.{◌≡◌}, List.{List, map}, Option.{none}}
use Rattle.limits.specs.Limits.{state_limit, entry_limit}
use Rattle.refusal.specs.Refusal.{Judged}
use Rattle.values.specs.{declared.ValueKind.{ValueKind}, declared.ValueKind.TheVariants.{Numbered}}
use Rattle.values.specs.{Setup.{Setup, setup, setup_meet, setup_top}, SetupTests.{setup_refusal}}
use Rattle.formulas.specs.RuleRefusal.{rule_refusal}
use Rattle.machines.specs.TableBytes.{entry_width, machine_of}
use Rattle.synthesis.specs.{TableOfRule.{pair_table_conditions}, Claims.{RuleTable}}
use Rattle.channel_file.specs.{ChannelFile.{Contents, rule_numbers}, Bytes.{clamp, meet_bytes, rule_bytes}}
use Rattle.channel_file.specs.RegisterFile as register
use Rattle.channel_file.specs.RegisterReading as register_reading
use Rattle.channel_io.specs.RegisterFiles as register_files
use Rattle.channel_io.specs.FileRefusals.{pair_refusal, pair_states, pair_table, pair_table_refusal, contents_refusal}

-- The bytes of the largest table, of numbers and of registers.
abbrev pub table_bytes_limit : ℕ
table_bytes_limit = entry_limit * 2

abbrev pub register_bytes_limit : ℕ
register_bytes_limit = entry_limit * 5

abbrev pub table_room : ValueKind → ℕ
table_room kind = entry_limit * entry_width kind

-- A byte holds a number above 255 as 255. No judgement is lost by that: of a meet table, of a rule, of a file.
pub record ClampedClaim : Type 0 where
  pub setup_same :
      (events values top : ℕ) (meet : List ℕ) → setup_refusal (setup events values top (map clamp meet)) ≡ setup_refusal (setup events values top meet)
  pub rule_same :
      (events values : ℕ) (rule : List ℕ) → events ≤ 255 → values ≤ 255
      → rule_refusal events (Numbered values) (map clamp rule) ≡ rule_refusal events (Numbered values) rule
  pub file_same :
      (c : Contents) → pair_refusal (setup c.events c.values c.top (meet_bytes c)) (rule_bytes c) ≡ contents_refusal c
  -- and of an accepted file nothing is clamped
  pub nothing_clamped :
      (c : Contents) → contents_refusal c ≡ none → (meet_bytes c ≡ c.meet) × (rule_bytes c ≡ rule_numbers c)

-- Whether a file's set-up and rule have a table: 1 to 3 or 1 and 20, 5 to 10.
abbrev pub ContentsTableClaim : Type 0
ContentsTableClaim = (s : Setup) (nodes : List ℕ) → Judged (pair_table_conditions s nodes) (pair_table_refusal s nodes)

-- Where these are not met, the table is that of the rule, with the rule's values on every event sequence, and has room in so many bytes.
pub record FileTableMade (s : Setup) (nodes : List ℕ) : Type 0 where
  pub few_states : pair_states s nodes ≤ state_limit
  pub few_bytes : length (pair_table s nodes) ≤ table_room s.kind
  pub table :
      RuleTable (setup_meet s) (setup_top s) s.events s.kind nodes (pair_states s nodes) (machine_of s.kind s.events (pair_table s nodes))

abbrev pub FileTableMadeClaim : Type 0
FileTableMadeClaim = (s : Setup) (nodes : List ℕ) → pair_table_refusal s nodes ≡ none → FileTableMade s nodes

-- What is stored of a register's file is judged as its numbers are, and of an accepted file nothing is changed.
pub record StoredRegisterClaim : Type 0 where
  pub stored_same :
      (c : register.Contents) → pair_refusal (register_files.file_setup c) (register_reading.rule_bytes c)
      ≡ pair_refusal (register_files.file_setup c) (register.rule_numbers c)
  pub nothing_changed :
      (c : register.Contents) → pair_refusal (register_files.file_setup c) (register.rule_numbers c) ≡ none
      → register_reading.rule_bytes c ≡ register.rule_numbers c
