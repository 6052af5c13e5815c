-- What the private functions of src/ say: each answer of the code as an answer of a parser, where an offset in the text
-- stands for what is left of the text there.
use Rattle.std.specs.Prelude.{ℕ, ◌+◌, ◌≤◌, ◌<◌, length, drop, Option, Result, Ok, Err}
use mathlib.Core.{Path.{◌≡◌}, List.{List, [], ◌∷◌, ◌++◌}, Bool.{Bool, true, false}}
use Rattle.text_format.specs.{Format.{Parsed, ok, bad, bind, Format, Outcome, contents}, Combinators.{the, word}, Decimal.{numbered_parse}}
use Rattle.text_format.specs.Series.{Separator, space, newline, separator, number_item}
use Rattle.channel_file.specs.ChannelFile.{RuleItem, token_T, token_A, token_V, token_X, token_G, token_O, Contents, encoded}
use Rattle.channel_file.specs.FileFormat.{rule_item, rule_items, keyed_items}
use Rattle.channel_file.specs.Reading.{form_of, answer_by}
use Rattle.channel_file.specs.Bytes.{node, meet_bytes, rule_bytes, put_front, token_reply}
use Rattle.theory.specs.ValueSets.{Masks}
use Rattle.channel_file.specs.{RegisterFile.{no_masks}, RegisterFormat.{masks_item}}
use Rattle.channel_file.specs.RegisterReading as register
use Rattle.channel_file.specs.{declared.Item.{Item}, declared.Behind.{Behind}, declared.Values.{Values}, declared.Form.{Form}}

-- ---- the kind of values

-- What a value of each kind is, how it stands in the text, what an item without one has in its place, and the bytes of an item's node.
abbrev pub ValueOf : Values → Type 0
ValueOf Values.Numbered = ℕ
ValueOf Values.Register = Masks

abbrev pub value_format : (k : Values) → Format (ValueOf k × Separator)
value_format Values.Numbered = number_item 2
value_format Values.Register = masks_item

abbrev pub unused : (k : Values) → ValueOf k
unused Values.Numbered = 0
unused Values.Register = no_masks

abbrev pub code : (k : Values) → RuleItem (ValueOf k) → List ℕ
code Values.Numbered = node
code Values.Register = register.node

abbrev pub item_format : (k : Values) → Format (RuleItem (ValueOf k) × Separator)
item_format k = rule_item (value_format k) (unused k)

abbrev pub items_format : (k : Values) → Format (List (RuleItem (ValueOf k)))
items_format k = rule_items (value_format k) (unused k)

abbrev pub rule_format : (k : Values) → Format (List (RuleItem (ValueOf k)))
rule_format k = keyed_items (value_format k) (unused k)

-- The value, the token and the separator that values of src/ stand for. A number stands as the first of two.
abbrev pub value_of : (k : Values) → ℕ → ℕ → ValueOf k
value_of Values.Numbered a b = a
value_of Values.Register a b = record { low = a; high = b }

abbrev pub token_of : (k : Values) → Item → RuleItem (ValueOf k)
token_of k Item.Truth = token_T
token_of k Item.Both = token_A
token_of k Item.Binder = token_V
token_of k (Item.Variable n) = token_X n
token_of k (Item.Next e) = token_G e
token_of k (Item.Output e a b) = token_O e (value_of k a b)

-- The kind and the numbers of an item; 0 where it has none.
abbrev pub item_kind : Item → ℕ
item_kind x = register.kind (token_of Values.Register x)

abbrev pub item_first : Item → ℕ
item_first x = register.first (token_of Values.Register x)

abbrev pub item_masks : Item → Masks
item_masks x = register.masks (token_of Values.Register x)

abbrev pub separator_of : Behind → Separator
separator_of Behind.Space = space
separator_of Behind.Newline = newline

-- The parser's answer is the one seen, and n is an offset in t.
pub record Saw {A : Type 0} (parsed seen : Parsed A) (t : List ℕ) (n : ℕ) : Type 0 where
  pub same : parsed ≡ seen
  pub within : n ≤ length t

-- The answer of a parser at an offset of t: what was read stands for a value, and the offset behind it for what is left; or the offset where
-- t cannot go on.
abbrev pub Sees : {A B : Type 0} → (B → A) → (List ℕ → Parsed A) → List ℕ → ℕ → Result (B × ℕ) ℕ → Type 0
Sees stands_for parse t at (Ok r) = Saw (parse (drop at t)) (ok (stands_for r.0) (drop r.1 t)) t r.1
Sees stands_for parse t at (Err p) = Saw (parse (drop at t)) (bad (drop p t)) t p

abbrev pub SawNumber : (List ℕ → Parsed ℕ) → List ℕ → ℕ → Result (ℕ × ℕ) ℕ → Type 0
SawNumber parse = Sees (λ v. v) parse

-- A number, with so many digits behind its first, and one certain byte behind it.
abbrev pub SawEnded : ℕ → ℕ → List ℕ → ℕ → Result (ℕ × ℕ) ℕ → Type 0
SawEnded k e = Sees (λ v. (v, tt)) (numbered_parse k (the e) (tt ∷ []))

abbrev pub SawEnd : List ℕ → ℕ → Result (Behind × ℕ) ℕ → Type 0
SawEnd = Sees separator_of separator.parse

abbrev pub SawEntry : List ℕ → ℕ → Result ((ℕ × Behind) × ℕ) ℕ → Type 0
SawEntry = Sees (λ p. (p.0, separator_of p.1)) (number_item 2).parse

abbrev pub SawItem : Values → List ℕ → ℕ → Result ((Item × Behind) × ℕ) ℕ → Type 0
SawItem k = Sees (λ p. (token_of k p.0, separator_of p.1)) (item_format k).parse

abbrev pub SawWord : List ℕ → List ℕ → ℕ → Result ℕ ℕ → Type 0
SawWord w t at (Ok n) = Saw ((word w).parse (drop at t)) (ok tt (drop n t)) t n
SawWord w t at (Err p) = Saw ((word w).parse (drop at t)) (bad (drop p t)) t p

-- The byte at an offset of t, or that t ends there.
abbrev pub SawByte : List ℕ → ℕ → Result ℕ ℕ → Type 0
SawByte t at (Ok b) = (at < length t) × (drop at t ≡ b ∷ drop (at + 1) t)
SawByte t at (Err p) = (p ≡ at) × (drop at t ≡ [])

-- What is left of a text at an offset; closed: where byte 10 stands behind the text.
abbrev pub left : Bool → List ℕ → ℕ → List ℕ
left false t i = drop i t
left true t i = drop i t ++ (10 ∷ [])

-- What is read and the separator behind it, from what is read and what is left behind it.
abbrev pub with_separator : {A : Type 0} → A → List ℕ → Parsed (A × Separator)
with_separator x s = bind (separator.parse s) (λ e r. ok (x, e) r)

-- What is seen of an item, whether or not the text is closed.
pub record SawHere {A : Type 0} (F : Format (A × Separator)) (t : List ℕ) (at : ℕ) (seen : Bool → Parsed (A × Separator)) (n : ℕ) : Type 0 where
  pub same : (closed : Bool) → F.parse (left closed t at) ≡ seen closed
  pub within : n ≤ length t

abbrev pub SeesHere : {A B : Type 0} → (B → A) → Format (A × Separator) → List ℕ → ℕ → Result (B × ℕ) ℕ → Type 0
SeesHere stands_for F t at (Ok r) = SawHere F t at (λ closed. with_separator (stands_for r.0) (left closed t r.1)) r.1
SeesHere stands_for F t at (Err p) = SawHere F t at (λ closed. bad (left closed t p)) p

abbrev pub SawValue : Values → List ℕ → ℕ → Result ((ℕ × ℕ) × ℕ) ℕ → Type 0
SawValue k = SeesHere (λ p. value_of k p.0 p.1) (value_format k)

abbrev pub SawToken : Values → List ℕ → ℕ → Result (Item × ℕ) ℕ → Type 0
SawToken k = SeesHere (token_of k) (item_format k)

-- How many values were read, behind n others.
abbrev pub counted : {A : Type 0} → ℕ → Parsed (List A) → Parsed ℕ
counted n (ok xs r) = ok (n + length xs) r
counted n (bad r) = bad r

abbrev pub count_of : {A : Type 0} → Format (List A) → List ℕ → Parsed ℕ
count_of F s = counted 0 (F.parse s)

-- The answer of a reader, which goes on to an offset where it is not at fault.
abbrev pub reached : {A : Type 0} → ℕ → Result A ℕ → Result (A × ℕ) ℕ
reached next (Ok a) = Ok (a, next)
reached next (Err p) = Err p

-- ---- series that are stored

-- The answer to the items that stand in t at an offset; where they can be read, the buffer has their codes, as far as there is room.
pub record StoresItems {A : Type 0} (F : Format (List A)) (code : A → List ℕ) (t : List ℕ) (at : ℕ) (old new : List ℕ) (r : Result (ℕ × ℕ) ℕ) : Type 0 where
  pub reply : SawNumber (count_of F) t at r
  pub buffer : (xs : List A) (rest : List ℕ) → F.parse (drop at t) ≡ ok xs rest → new ≡ put_front (encoded code xs) old

-- The answer to a text that is read as x; where it has contents, the buffers have their bytes, as far as there is room.
pub record ReadsForm {E : Type 0} (refuses : ℕ → E) (x : Outcome Contents) (meet rule meet' rule' : List ℕ) (r : Result Form E)
    : Type 0 where
  pub reply : r ≡ answer_by refuses form_of x
  pub bytes : (c : Contents) → x ≡ contents c → (meet' ≡ put_front (meet_bytes c) meet) × (rule' ≡ put_front (rule_bytes c) rule)

-- The answer to the tokens that a whole text shows, stored as the items above.
pub record StoresTokens {A : Type 0} (code : A → List ℕ) (x : Outcome (List A)) (old new : List ℕ) (r : Option ℕ) : Type 0 where
  pub reply : r ≡ token_reply x
  pub buffer : (xs : List A) → x ≡ contents xs → new ≡ put_front (encoded code xs) old
