-- Twin of ChannelFile, pinned by channel_file AnswerClaim.
-- The answer to a text (document 01, refusal 4), with the limit of 4,096 bytes tested first; where its items stand; and the
-- stretch of the text that holds the rule's tokens.
use Rattle.std.specs.Prelude.{ℕ, ◌+◌, ◌-◌, ◌≤◌, Result, Ok, Err}
use mathlib.Core.{List.{List, [], ◌++◌, map}, Bool.{cond}}
use lib.{Dec.{ltb}, ListN.{length, take, drop}}
use Rattle.text_format.specs.{Format.{Format, Outcome, contents, refused, read}, Texts.{ascii, separated}}
use Rattle.limits.specs.Limits.{file_limit}
use Rattle.refusal.specs.{declared.Refusal.{Refusal}, declared.Refusal.TheVariants.{TextForm}}
use Rattle.channel_file.specs.{ChannelFile.{Token, Contents, number, line, Shows, RefusedBy}, FileFormat.{tokens, file}}
use Rattle.channel_file.specs.declared.Form.{Form}

-- What an answer says of a text, where texts show some contents.
abbrev pub AnswersBy : {A : Type 0} → (A → List ℕ → Type 0) → List ℕ → Outcome A → Type 0
AnswersBy Shows t (contents c) = (length t ≤ file_limit) × Shows c t
AnswersBy Shows t (refused p) = RefusedBy Shows t p

abbrev pub AnswersFile : List ℕ → Outcome Contents → Type 0
AnswersFile = AnswersBy Shows

-- The computing twin: the answer to a text. It is the one that AnswersFile asks for (Claims, AnswerClaim).
abbrev pub read_limited : {A : Type 0} → Format A → List ℕ → Outcome A
read_limited F t = cond (ltb file_limit (length t)) (refused file_limit) (read F t)

abbrev pub read_file : List ℕ → Outcome Contents
read_file t = read_limited file t

-- The answer to a text of tokens alone: what the tokens of a rule line are, once byte 10 stands behind (Claims, TokenListClaim).
abbrev pub read_closed : {A : Type 0} → Format A → List ℕ → Outcome A
read_closed F t = read F (t ++ ascii "\n")

abbrev pub read_tokens : List ℕ → Outcome (List Token)
read_tokens t = read_closed tokens t

-- ---- offsets

-- The first three lines, and the first four.
abbrev pub head_text : Contents → List ℕ
head_text c = line (ascii "events=") (number c.events) ++ (line (ascii "values=") (number c.values) ++ line (ascii "top=") (number c.top))

abbrev pub meet_text : Contents → List ℕ
meet_text c = line (ascii "meet=") (separated (map number c.meet))

-- Where the meet entries start: after `meet=`.
abbrev pub meet_start : Contents → ℕ
meet_start c = length (head_text c) + 5

-- Where the rule's tokens start: after `rule=`.
abbrev pub rule_start : Contents → ℕ
rule_start c = length (head_text c) + length (meet_text c) + 5

-- The bytes of t from the offset a to before the offset b.
abbrev pub stretch : ℕ → ℕ → List ℕ → List ℕ
stretch a b t = take (b - a) (drop a t)

-- The stretch of tokens: "from after `rule=` to before the last byte 10, and is empty for a text that 4 refuses". start: where they start.
abbrev pub stretch_by : {A : Type 0} → (A → ℕ) → List ℕ → Outcome A → List ℕ
stretch_by start t (contents c) = stretch (start c) (length t - 1) t
stretch_by start t (refused p) = []

abbrev pub tokens_stretch : List ℕ → Outcome Contents → List ℕ
tokens_stretch t x = stretch_by rule_start t x

-- ---- the answer as the code gives it: numbers, how many items there are, and where they start

abbrev pub form_of : Contents → Form
form_of c =
    record {
      events = c.events;
      values = c.values;
      top = c.top;
      entries = length c.meet;
      meet_at = meet_start c;
      items = length c.rule;
      rule_at = rule_start c;
    }

-- Of either form of file: form_of has the answer to contents, refuses to a place of refusal; in the end 4.
abbrev pub answer_by : {A F E : Type 0} → (ℕ → E) → (A → F) → Outcome A → Result F E
answer_by refuses form_of (contents c) = Ok (form_of c)
answer_by refuses form_of (refused p) = Err (refuses p)

abbrev pub checked_by : {A F : Type 0} → (A → F) → Outcome A → Result F Refusal
checked_by form_of x = answer_by TextForm form_of x

abbrev pub checked : Outcome Contents → Result Form Refusal
checked x = checked_by form_of x
