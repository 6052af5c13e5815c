-- The form of a channel file (document 01, "Channel file"), without its length limit; numbers are the text's, neither judged nor clamped.
use Rattle.std.specs.Prelude.{ℕ, ◌≤◌, ◌<◌, length}
use mathlib.Core.{Path.{◌≡◌}, List.{List, [], ◌∷◌, ◌++◌, map}}
use Rattle.limits.specs.Limits.{file_limit}
use Rattle.text_format.specs.Texts.{ascii, decimal, separated, OneOrMore, Refused, FormOf}

-- An item of the rule line: T, A, V alone, X or G with one number, O with an event and a value.
pub data RuleItem (B : Type 0) : Type 0 where
  token_T token_A token_V : RuleItem B
  token_X token_G : ℕ → RuleItem B
  token_O : ℕ → B → RuleItem B

-- Here a value is a number.
abbrev pub Token : Type 0
Token = RuleItem ℕ

pub record Contents : Type 0 where
  pub events : ℕ
  pub values : ℕ
  pub top : ℕ
  pub meet : List ℕ
  pub rule : List Token

-- "Numbers have one to three digits, no leading zero": the numeral of a number below 1,000 (text_format's NumeralClaim).
abbrev pub number : ℕ → List ℕ
number v = decimal 2 v

abbrev pub Small : ℕ → Type 0
Small v = v < 1000

-- "Rule items are T, A, V alone, X or G with one number, O with two numbers and a dot between": the second of them by the texts of values.
abbrev pub item_text : {B : Type 0} → (B → List ℕ) → RuleItem B → List ℕ
item_text value token_T = ascii "T"
item_text value token_A = ascii "A"
item_text value token_V = ascii "V"
item_text value (token_X n) = ascii "X" ++ number n
item_text value (token_G e) = ascii "G" ++ number e
item_text value (token_O e v) = ascii "O" ++ (number e ++ (ascii "." ++ value v))

abbrev pub SmallItem : {B : Type 0} → (B → Type 0) → RuleItem B → Type 0
SmallItem SmallValue token_T = Unit {0}
SmallItem SmallValue token_A = Unit {0}
SmallItem SmallValue token_V = Unit {0}
SmallItem SmallValue (token_X n) = Small n
SmallItem SmallValue (token_G e) = Small e
SmallItem SmallValue (token_O e v) = Small e × SmallValue v

abbrev pub token_text : Token → List ℕ
token_text x = item_text number x

abbrev pub SmallToken : Token → Type 0
SmallToken x = SmallItem Small x

-- A line: its key, its text, byte 10.
abbrev pub line : List ℕ → List ℕ → List ℕ
line key s = key ++ (s ++ ascii "\n")

-- "Five lines ended by byte 10, in this order"; "one space between items".
abbrev pub text : Contents → List ℕ
text c = line (ascii "events=") (number c.events) ++ (line (ascii "values=") (number c.values) ++ (line (ascii "top=") (number c.top)
    ++ (line (ascii "meet=") (separated (map number c.meet)) ++ line (ascii "rule=") (separated (map token_text c.rule)))))

-- Every number has a text; "meet and rule have at least one item".
pub record SmallContents (c : Contents) : Type 0 where
  pub events : Small c.events
  pub values : Small c.values
  pub top : Small c.top
  pub meet : OneOrMore Small c.meet
  pub rule : OneOrMore SmallToken c.rule

-- t is the text of the contents c.
pub record Shows (c : Contents) (t : List ℕ) : Type 0 where
  pub small : SmallContents c
  pub printed : text c ≡ t

-- Refusal 4 at a place, where texts show some contents: "over 4,096 bytes: place 4,096, tested first"; else where the form refuses the text.
pub data RefusedBy {A : Type 0} (Shows : A → List ℕ → Type 0) (t : List ℕ) : ℕ → Type 0 where
  over_long : file_limit < length t → RefusedBy Shows t file_limit
  off_form : (p : ℕ) → length t ≤ file_limit → Refused (FormOf Shows) t p → RefusedBy Shows t p

-- "The rule line's tokens are handed out as a stretch of the lent text. It runs from after `rule=` to before the last byte 10, and is
-- empty for a text that 4 refuses." rule-text: the items with one space between.
pub data TokensBy {A : Type 0} (Shows : A → List ℕ → Type 0) (rule_text : A → List ℕ) (t : List ℕ) : List ℕ → Type 0 where
  of_contents : (c : A) (front tokens : List ℕ) → length t ≤ file_limit → Shows c t → t ≡ front ++ (ascii "rule=" ++ (tokens ++ ascii "\n")) →
      tokens ≡ rule_text c → TokensBy Shows rule_text t tokens
  of_refused : (p : ℕ) → RefusedBy Shows t p → TokensBy Shows rule_text t []

abbrev pub rule_text : Contents → List ℕ
rule_text c = separated (map token_text c.rule)

-- Kind, first and value of an item's node, "0 T, 1 X, 2 G, 3 O, 4 A, 5 V"; "an unused field is 0".
abbrev pub item_fields : {B : Type 0} → B → RuleItem B → ℕ × ℕ × B
item_fields unused token_T = (0, 0, unused)
item_fields unused (token_X n) = (1, n, unused)
item_fields unused (token_G e) = (2, e, unused)
item_fields unused (token_O e v) = (3, e, v)
item_fields unused token_A = (4, 0, unused)
item_fields unused token_V = (5, 0, unused)

abbrev pub token_fields : Token → ℕ × ℕ × ℕ
token_fields x = item_fields 0 x

-- The codes of all items, one after another.
abbrev pub encoded : {A : Type 0} → (A → List ℕ) → List A → List ℕ
encoded code [] = []
encoded code (a ∷ xs) = code a ++ encoded code xs

-- The rule of a file, three numbers a node, as the text has them: "In a rule item a number above 255 is 6 for an event or value, 8 for X".
abbrev pub node_numbers : Token → List ℕ
node_numbers x = (token_fields x).0 ∷ (token_fields x).1 ∷ (token_fields x).2 ∷ []

abbrev pub rule_numbers : Contents → List ℕ
rule_numbers c = encoded node_numbers c.rule
