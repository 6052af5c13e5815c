-- Twin of ChannelFile, pinned by channel_file AnswerClaim.
-- The computing twin of the form: the channel file as a two-way format. proofs/FileFormat shows that it keeps the laws and
-- prints exactly the texts of the form.
use Rattle.std.specs.Prelude.{ℕ, List, [], ◌∷◌}
use Rattle.text_format.specs.{Format.{Format}, Texts.{ascii}, Combinators.{sequence, mapped, choice, the, keyed}, Decimal.{numbered}}
use Rattle.text_format.specs.Series.{Separator, separator, number_item, series}
use Rattle.channel_file.specs.ChannelFile.{RuleItem, token_T, token_A, token_V, token_X, token_G, token_O, Token, Contents, item_fields}

-- ---- tokens, by their first letter

pub data Letter : Type 0 where
  letter_T letter_A letter_V letter_X letter_G letter_O : Letter

abbrev pub letter_byte : Letter → ℕ
letter_byte letter_T = 84
letter_byte letter_A = 65
letter_byte letter_V = 86
letter_byte letter_X = 88
letter_byte letter_G = 71
letter_byte letter_O = 79

abbrev pub letters : List Letter
letters = letter_A ∷ letter_V ∷ letter_X ∷ letter_G ∷ letter_O ∷ []

abbrev pub letter_of : {B : Type 0} → RuleItem B → Letter
letter_of token_T = letter_T
letter_of token_A = letter_A
letter_of token_V = letter_V
letter_of (token_X n) = letter_X
letter_of (token_G e) = letter_G
letter_of (token_O e v) = letter_O

abbrev pub number_dot : Format (ℕ × Unit {0})
number_dot = numbered 2 (the 46) tt []

abbrev pub number_line : Format (ℕ × Unit {0})
number_line = numbered 2 (the 10) tt []

-- Items with values of any kind: how a value stands with what is behind it, and what an item without one has in its place.
module _ {B : Type 0} (value : Format (B × Separator)) (unused : B) where
  abbrev pub item_first : RuleItem B → ℕ
  item_first x = (item_fields unused x).1

  abbrev pub item_value : RuleItem B → B
  item_value x = (item_fields unused x).2

  abbrev pub plain : RuleItem B → Format (RuleItem B × Separator)
  plain x = mapped separator (λ e. (x, e)) (λ q. q.1)

  -- What follows the letter.
  abbrev pub body : Letter → Format (RuleItem B × Separator)
  body letter_T = plain token_T
  body letter_A = plain token_A
  body letter_V = plain token_V
  body letter_X = mapped (number_item 2) (λ p. (token_X p.0, p.1)) (λ q. (item_first q.0, q.1))
  body letter_G = mapped (number_item 2) (λ p. (token_G p.0, p.1)) (λ q. (item_first q.0, q.1))
  body letter_O =
      mapped (sequence number_dot (λ _. value)) (λ p. (token_O p.0.0 p.1.0, p.1.1))
      (λ q. ((item_first q.0, tt), (item_value q.0, q.1)))

  -- An item and what stands behind it.
  abbrev pub rule_item : Format (RuleItem B × Separator)
  rule_item = choice letter_byte letter_T letters body (λ q. letter_of q.0)

  -- Items, to the line's end, and the rule's line.
  abbrev pub rule_items : Format (List (RuleItem B))
  rule_items = series rule_item token_T

  abbrev pub keyed_items : Format (List (RuleItem B))
  keyed_items = keyed (ascii "rule=") rule_items

-- A token's kind and numbers; 0 where it has none.
abbrev pub kind : Token → ℕ
kind x = (item_fields 0 x).0

abbrev pub first : Token → ℕ
first x = (item_fields 0 x).1

abbrev pub second : Token → ℕ
second x = (item_fields 0 x).2

-- A token and what stands behind it.
abbrev pub token_item : Format (Token × Separator)
token_item = rule_item (number_item 2) 0

-- ---- lines

abbrev pub tokens : Format (List Token)
tokens = rule_items (number_item 2) 0

abbrev pub entries : Format (List ℕ)
entries = series (number_item 2) 0

-- A key and a number, to the line's end.
abbrev pub field : List ℕ → Format ℕ
field key = keyed key (mapped number_line (λ p. p.0) (λ v. (v, tt)))

abbrev pub head : Format (ℕ × (ℕ × ℕ))
head = sequence (field (ascii "events=")) (λ _. sequence (field (ascii "values=")) (λ _. field (ascii "top=")))

abbrev pub meet_line : Format (List ℕ)
meet_line = keyed (ascii "meet=") entries

abbrev pub rule_line : Format (List Token)
rule_line = keyed_items (number_item 2) 0

-- ---- the file

abbrev pub file : Format Contents
file =
    mapped (sequence head (λ _. sequence meet_line (λ _. rule_line)))
    (λ p. record { events = p.0.0; values = p.0.1.0; top = p.0.1.1; meet = p.1.0; rule = p.1.1 })
    (λ c. ((c.events, (c.values, c.top)), (c.meet, c.rule)))
