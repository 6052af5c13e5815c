-- Twin of RegisterFile, pinned by channel_file RegisterClaim.
-- The answer to the text of a register's file, where its items stand, and the bytes stored from it.
use Rattle.std.specs.Prelude.{ℕ, ◌+◌, ◌*◌, ◌/◌, ◌%◌, Result, Ok, Err}
use mathlib.Core.{List.{List, [], ◌∷◌, ◌++◌}, Bool.{◌&&◌, cond}}
use lib.{Dec.{leb}, ListN.{length, replicate}}
use Rattle.limits.specs.Limits.{node_limit}
use Rattle.theory.specs.ValueSets.{Masks}
use Rattle.refusal.specs.{declared.Refusal.{Refusal}}
use Rattle.text_format.specs.{Format.{Outcome, contents, refused}, Texts.{ascii}}
use Rattle.channel_file.specs.{ChannelFile.{number, line, item_fields, encoded}, Reading.{read_limited, read_closed, stretch_by, checked_by, AnswersBy}}
use Rattle.channel_file.specs.{RegisterFile.{no_masks, Token, Contents, Shows}, RegisterFormat.{tokens, file}, Bytes.{clamp, put_front}}
use Rattle.channel_file.specs.declared.registers.{Form.{Form}, ReadArrays.{ReadArrays}}

abbrev pub AnswersFile : List ℕ → Outcome Contents → Type 0
AnswersFile = AnswersBy Shows

abbrev pub read_file : List ℕ → Outcome Contents
read_file t = read_limited file t

abbrev pub read_tokens : List ℕ → Outcome (List Token)
read_tokens t = read_closed tokens t

-- ---- offsets

-- The first two lines; where the rule's tokens start, after `rule=`; and their stretch.
abbrev pub head_text : Contents → List ℕ
head_text c = line (ascii "events=") (number c.events) ++ line (ascii "lines=") (number c.lines)

abbrev pub rule_start : Contents → ℕ
rule_start c = length (head_text c) + 5

abbrev pub tokens_stretch : List ℕ → Outcome Contents → List ℕ
tokens_stretch t x = stretch_by rule_start t x

-- ---- bytes

-- A mask in two bytes, cut to 16 bits.
abbrev pub mask_bytes : ℕ → List ℕ
mask_bytes m = m % 256 ∷ m / 256 % 256 ∷ []

-- The kind of a node with two masks: 255 where 16 bits do not hold both, which 6 refuses as it refuses the masks.
abbrev pub narrow_kind : ℕ → ℕ → ℕ → ℕ
narrow_kind kind low high = cond (leb low 65535 && leb high 65535) kind 255

-- The node in six bytes; another number above 255 stands as 255.
abbrev pub masked : ℕ → ℕ → ℕ → ℕ → List ℕ
masked kind first low high = narrow_kind kind low high ∷ clamp first ∷ (mask_bytes low ++ mask_bytes high)

-- A token's kind and numbers; 0 where it has none.
abbrev pub kind : Token → ℕ
kind x = (item_fields no_masks x).0

abbrev pub first : Token → ℕ
first x = (item_fields no_masks x).1

abbrev pub masks : Token → Masks
masks x = (item_fields no_masks x).2

abbrev pub node : Token → List ℕ
node x = masked (kind x) (first x) (masks x).low (masks x).high

abbrev pub rule_bytes : Contents → List ℕ
rule_bytes c = encoded node c.rule

-- ---- the answers as the code gives them

-- The numbers, how many items there are, and where they start.
abbrev pub form_of : Contents → Form
form_of c = record { events = c.events; lines = c.lines; items = length c.rule; rule_at = rule_start c }

abbrev pub checked : Outcome Contents → Result Form Refusal
checked x = checked_by form_of x

-- The buffer of the nodes afterwards.
abbrev pub stored_rule : Outcome Contents → List ℕ → List ℕ
stored_rule (contents c) rule = put_front (rule_bytes c) rule
stored_rule (refused p) rule = rule

-- What is read of a text: its form and an array that held 0 alone; or 4, and no array.
abbrev pub arrays_with : Result Form Refusal → List ℕ → Result ReadArrays Refusal
arrays_with (Ok form) rule = Ok (record { form = form; rule = rule })
arrays_with (Err refusal) rule = Err refusal

abbrev pub arrays_of : Outcome Contents → Result ReadArrays Refusal
arrays_of x = arrays_with (checked x) (stored_rule x (replicate (node_limit * 6) 0))
