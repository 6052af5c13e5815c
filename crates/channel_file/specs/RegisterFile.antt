-- The form of a register's channel file (document 02, F-7; document 01, "Channel file"), without its length limit; numbers are the text's,
-- neither judged nor cut.
use Rattle.std.specs.Prelude.{ℕ, ◌/◌, ◌%◌, ◌<◌}
use mathlib.Core.{Path.{◌≡◌}, List.{List, [], ◌∷◌, ◌++◌, map}}
use Rattle.theory.specs.ValueSets.{Masks}
use Rattle.text_format.specs.Texts.{ascii, decimal, separated, OneOrMore}
use Rattle.channel_file.specs.ChannelFile.{RuleItem, number, Small, item_text, SmallItem, line, item_fields, encoded}

-- "A value is two 16-bit masks, may-be-low and may-be-high"; both 0, where an item has none.
abbrev pub no_masks : Masks
no_masks = record { low = 0; high = 0 }

-- An item of the rule line, as in document 01's file, with masks for the value.
abbrev pub Token : Type 0
Token = RuleItem Masks

-- "Its channel file has `events`, `lines`, `rule`."
pub record Contents : Type 0 where
  pub events : ℕ
  pub lines : ℕ
  pub rule : List Token

-- "A mask has up to five digits and document 01's limit of 255 does not hold for masks; other numbers keep three digits."
abbrev pub mask : ℕ → List ℕ
mask m = decimal 4 m

pub record SmallMasks (m : Masks) : Type 0 where
  pub low : m.low < 100000
  pub high : m.high < 100000

-- "An O token is event.low.high."
abbrev pub masks_text : Masks → List ℕ
masks_text m = mask m.low ++ (ascii "." ++ mask m.high)

abbrev pub token_text : Token → List ℕ
token_text x = item_text masks_text x

abbrev pub SmallToken : Token → Type 0
SmallToken x = SmallItem SmallMasks x

-- Three lines ended by byte 10, in this order; "one space between items".
abbrev pub rule_text : Contents → List ℕ
rule_text c = separated (map token_text c.rule)

abbrev pub text : Contents → List ℕ
text c = line (ascii "events=") (number c.events) ++ (line (ascii "lines=") (number c.lines) ++ line (ascii "rule=") (rule_text c))

-- Every number has a text; at least one item.
pub record SmallContents (c : Contents) : Type 0 where
  pub events : Small c.events
  pub lines : Small c.lines
  pub rule : OneOrMore SmallToken c.rule

-- t is the text of the contents c.
pub record Shows (c : Contents) (t : List ℕ) : Type 0 where
  pub small : SmallContents c
  pub printed : text c ≡ t

-- "A node is six bytes: kind, first, low mask, high mask, each mask's low byte first." The numbers are the text's: of a mask that 16 bits do
-- not hold the second is no byte.
abbrev pub mask_numbers : ℕ → List ℕ
mask_numbers m = m % 256 ∷ m / 256 ∷ []

abbrev pub masks_numbers : Masks → List ℕ
masks_numbers m = mask_numbers m.low ++ mask_numbers m.high

abbrev pub node_numbers : Token → List ℕ
node_numbers x = (item_fields no_masks x).0 ∷ (item_fields no_masks x).1 ∷ masks_numbers (item_fields no_masks x).2

abbrev pub rule_numbers : Contents → List ℕ
rule_numbers c = encoded node_numbers c.rule
