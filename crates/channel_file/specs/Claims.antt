-- What is claimed of a channel file; each claim is inhabited in proofs/Claims, and of a register's file in proofs/RegisterClaims.
use Rattle.std.specs.Prelude.{ℕ, ◌≤◌, ◌<◌, length, Result}
use mathlib.Core.{Path.{◌≡◌}, List.{List, [], ◌∷◌, map}, Logic.{◌↔◌}}
use Rattle.limits.specs.Limits.{meet_limit, node_limit, file_limit}
use Rattle.refusal.specs.{Refusal.{Condition, at_lowest, form_place, Judged, JudgedCall, refusal_of}, declared.Refusal.TheVariants.{TextForm}}
use Rattle.text_format.specs.{Format.{Parsed, Outcome, contents}, Texts.{separated, OneOrMore}}
use Rattle.channel_file.specs.ChannelFile.{Token, token_text, Contents, text, SmallContents, SmallToken, RefusedBy, Shows}
use Rattle.channel_file.specs.Reading.{AnswersBy, read_file, read_tokens, tokens_stretch, checked}
use Rattle.channel_file.specs.{Bytes.{clamp, arrays_of, stored_meet, stored_rule}, Steps.{SawNumber}}
use Rattle.channel_file.specs.RegisterFile as register
use Rattle.channel_file.specs.RegisterReading as register_reading

-- t is the text of the items xs alone, as they stand in the rule line.
pub record ShowsItems {X : Type 0} (Small : X → Type 0) (item_text : X → List ℕ) (xs : List X) (t : List ℕ) : Type 0 where
  pub small : OneOrMore Small xs
  pub printed : separated (map item_text xs) ≡ t

-- ---- what is claimed of either form: Shows, its texts; read-file, the answer to a text
module _ {A : Type 0} (Shows : A → List ℕ → Type 0) (read_file : List ℕ → Outcome A) where
  -- The answer to every text is the one that document 01 asks for: its contents, or 4's place.
  abbrev pub AnswerOf : Type 0
  AnswerOf = (t : List ℕ) → AnswersBy Shows t (read_file t)

  -- There is no other: the contents are unique and so is the place.
  abbrev pub OneAnswerOf : Type 0
  OneAnswerOf = (t : List ℕ) (x y : Outcome A) → AnswersBy Shows t x → AnswersBy Shows t y → x ≡ y

-- A text is judged by 4 alone.
abbrev pub conditions_by : {A : Type 0} → (A → List ℕ → Type 0) → List ℕ → List Condition
conditions_by Shows t = at_lowest form_place (RefusedBy Shows t) ∷ []

module _ {A : Type 0} (text : A → List ℕ) (read_file : List ℕ → Outcome A) where
  -- The text of the contents read is the text itself.
  abbrev pub RewriteOf : Type 0
  RewriteOf = (t : List ℕ) (c : A) → read_file t ≡ contents c → text c ≡ t

  -- The text of contents is of the form and reads back as the same contents.
  abbrev pub ReadBackOf : (A → Type 0) → Type 0
  ReadBackOf Small = (c : A) → Small c → length (text c) ≤ file_limit → read_file (text c) ≡ contents c

-- ---- tokens: rule, the items of contents; stretch, the stretch of tokens
module _ {A X : Type 0} (read_file : List ℕ → Outcome A) (rule : A → List X) (item_text : X → List ℕ) (stretch : List ℕ → Outcome A → List ℕ) where
  -- The stretch of tokens is the rule's items with one space between.
  abbrev pub StretchOf : Type 0
  StretchOf = (t : List ℕ) (c : A) → read_file t ≡ contents c → stretch t (read_file t) ≡ separated (map item_text (rule c))

  -- The stretch of tokens of an accepted text is not empty; so it is empty exactly where 4 refuses.
  abbrev pub SomeStretchOf : Type 0
  SomeStretchOf = (t : List ℕ) (c : A) → read_file t ≡ contents c → stretch t (read_file t) ≡ [] → ⊥

  -- A text of tokens alone is read as the tokens that it shows; and the stretch of tokens as the rule.
  pub record TokenListOf (Small : X → Type 0) (read_tokens : List ℕ → Outcome (List X)) : Type 0 where
    pub shown : (t : List ℕ) (xs : List X) → (read_tokens t ≡ contents xs) ↔ ShowsItems Small item_text xs t
    pub of_a_file : (t : List ℕ) (c : A) → read_file t ≡ contents c → read_tokens (stretch t (read_file t)) ≡ contents (rule c)

-- ---- document 01's file

abbrev pub ShowsTokens : List Token → List ℕ → Type 0
ShowsTokens = ShowsItems SmallToken token_text

abbrev pub AnswerClaim : Type 0
AnswerClaim = AnswerOf Shows read_file

abbrev pub OneAnswerClaim : Type 0
OneAnswerClaim = OneAnswerOf Shows read_file

-- 4, where the form is checked and where it is stored; beside the refusal both buffers are as before.
abbrev pub form_conditions : List ℕ → List Condition
form_conditions t = conditions_by Shows t

pub record FormRefusalClaim : Type 0 where
  pub of_checking : (t : List ℕ) → Judged (form_conditions t) (refusal_of (checked (read_file t)))
  pub of_storing :
      (t meet rule : List ℕ) →
      JudgedCall {M = List ℕ × List ℕ} (form_conditions t) (refusal_of (arrays_of (read_file t))) (meet, rule)
      (stored_meet (read_file t) meet, stored_rule (read_file t) rule)

abbrev pub RewriteClaim : Type 0
RewriteClaim = RewriteOf text read_file

abbrev pub ReadBackClaim : Type 0
ReadBackClaim = ReadBackOf text read_file SmallContents

-- Meet tables of up to 16 values and rules of up to 256 nodes have a text within the limit.
abbrev pub LengthClaim : Type 0
LengthClaim = (c : Contents) → SmallContents c → length c.meet ≤ meet_limit → length c.rule ≤ node_limit → length (text c) ≤ file_limit

abbrev pub TokensClaim : Type 0
TokensClaim = StretchOf read_file (λ c. c.rule) token_text tokens_stretch

abbrev pub SomeTokensClaim : Type 0
SomeTokensClaim = SomeStretchOf read_file (λ c. c.rule) token_text tokens_stretch

abbrev pub TokenListClaim : Type 0
TokenListClaim = TokenListOf read_file (λ c. c.rule) token_text tokens_stretch SmallToken read_tokens

-- What the functions over a reader say of a line's answer leaves no other answer.
abbrev pub OneLineClaim : Type 0
OneLineClaim =
    (parse : List ℕ → Parsed ℕ) (t : List ℕ) (at : ℕ) (x y : Result (ℕ × ℕ) ℕ)
    → SawNumber parse t at x → SawNumber parse t at y → x ≡ y

-- A number above 255 is stored as 255. No judgement on it is lost: for every limit n up to 255, the number is below n exactly
-- if its byte is. Limits of events, values and entries are at most 16. A variable at node i has at most i binders above it, so
-- within 256 nodes at most 255, and it is bound if its number is below their count.
abbrev pub ClampClaim : Type 0
ClampClaim = (v n : ℕ) → n ≤ 255 → (v < n) ↔ (clamp v < n)

-- ---- a register's file (document 02, F-7), in the same words
pub record RegisterClaim : Type 0 where
  pub answer : AnswerOf register.Shows register_reading.read_file
  pub one_answer : OneAnswerOf register.Shows register_reading.read_file
  pub of_checking :
      (t : List ℕ) → Judged (conditions_by register.Shows t) (refusal_of (register_reading.checked (register_reading.read_file t)))
  pub of_storing :
      (t rule : List ℕ) →
      JudgedCall (conditions_by register.Shows t) (refusal_of (register_reading.arrays_of (register_reading.read_file t))) rule
      (register_reading.stored_rule (register_reading.read_file t) rule)
  pub rewrite : RewriteOf register.text register_reading.read_file
  pub read_back : ReadBackOf register.text register_reading.read_file register.SmallContents
  pub tokens : StretchOf register_reading.read_file (λ c. c.rule) register.token_text register_reading.tokens_stretch
  pub some_tokens : SomeStretchOf register_reading.read_file (λ c. c.rule) register.token_text register_reading.tokens_stretch
  pub token_list :
      TokenListOf register_reading.read_file (λ c. c.rule) register.token_text register_reading.tokens_stretch register.SmallToken
      register_reading.read_tokens
