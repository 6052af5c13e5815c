-- Reading and writing a channel file (document 01, "Channel file"; document 02, F-7): the conditions of a text and of its contents, 4, then those of
-- a set-up and 5 to 9 on the file's own numbers, none of them cut, then 13; and what an accepted call yields. For any form of files.
use Rattle.std.specs.Prelude.{ℕ, ◌<◌, ◌≤◌, length}
use mathlib.Core.{List.{List, [], ◌∷◌, ◌++◌}, Path.{◌≡◌}, Option.{Option}}
use Rattle.limits.specs.Limits.{file_limit}
use Rattle.refusal.specs.{Refusal.{Condition, plain, at_lowest, form_place, JudgedCall, put}, declared.Refusal.{Refusal, TheVariants.{BufferLength}}}
use Rattle.values.specs.Setup.{Setup, setup}
use Rattle.synthesis.specs.TableOfRule.{pair_conditions}
use Rattle.channel_file.specs.ChannelFile.{Contents, rule_numbers, rule_text, text, Shows, RefusedBy}
use Rattle.channel_io.specs.declared.FileNumbers.{FileNumbers}

-- A form of files: what its texts show; the text of contents, and of their rule alone; the set-up and the rule's nodes that they say; and the
-- numbers that a call answers of them.
pub record FileForm : Type 1 where
  pub Inside : Type 0
  pub Shown : Inside → List ℕ → Type 0
  pub text_of : Inside → List ℕ
  pub tokens_of : Inside → List ℕ
  pub setup_of : Inside → Setup
  pub nodes_of : Inside → List ℕ
  pub Numbers : Type 0
  pub numbers_of : Inside → Numbers

-- ---- the conditions

-- 4 first, then the conditions on what the text shows; none of them where it shows nothing.
pub data ConditionsBy {A : Type 0} (Shows : A → List ℕ → Type 0) (t : List ℕ) (conditions : A → List Condition) : List Condition → Type 1 where
  of_contents : (c : A) → Shows c t → ConditionsBy Shows t conditions (at_lowest form_place (RefusedBy Shows t) ∷ conditions c)
  no_contents : ((c : A) → ¬ Shows c t) → ConditionsBy Shows t conditions (at_lowest form_place (RefusedBy Shows t) ∷ [])

-- A call on a text is judged by such a list: there is one, and it gives the answer.
pub record JudgedBy {A M : Type 0} (Shows : A → List ℕ → Type 0) (t : List ℕ) (conditions : A → List Condition) (answer : Option Refusal)
    (before after : M) : Type 1 where
  pub listed : (cs : List Condition) × ConditionsBy Shows t conditions cs
  pub judged : (cs : List Condition) → ConditionsBy Shows t conditions cs → JudgedCall cs answer before after

-- The same where they are conditions of the set-up and the nodes that it shows.
abbrev pub JudgedText : {M : Type 0} → (F : FileForm) → List ℕ → (Setup → List ℕ → List Condition) → Option Refusal → M → M → Type 1
JudgedText F t conditions answer before after = JudgedBy F.Shown t (λ c. conditions (F.setup_of c) (F.nodes_of c)) answer before after

-- 13, where a file is read: a lent buffer shorter than the output, that for the meet entries, of which a register has none, or that for the nodes.
pub data ReadShort (s : Setup) (nodes meet rule : List ℕ) : Type 0 where
  short_meet : length meet < length s.meet → ReadShort s nodes meet rule
  short_rule : length rule < length nodes → ReadShort s nodes meet rule

-- The conditions of reading a text with this set-up and these nodes into two buffers.
abbrev pub read_conditions : List ℕ → List ℕ → Setup → List ℕ → List Condition
read_conditions meet rule s nodes = pair_conditions s nodes ++ (plain BufferLength (ReadShort s nodes meet rule) ∷ [])

-- ---- what accepted calls yield
module _ (F : FileForm) where
  -- A reading yields what the text shows: its numbers; its meet entries and its nodes, in two lent buffers.
  pub record ReadsAs (t meet rule meet' rule' : List ℕ) (found : F.Numbers) : Type 0 where
    pub contents : F.Inside
    pub shown : F.Shown contents t
    pub numbers_are : found ≡ F.numbers_of contents
    pub meet_put : meet' ≡ put (F.setup_of contents).meet meet
    pub rule_put : rule' ≡ put (F.nodes_of contents) rule

  -- The contents that are written for a set-up and the nodes of a rule.
  abbrev pub IsFileOf : Setup → List ℕ → F.Inside → Type 0
  IsFileOf s rule c = (F.setup_of c ≡ s) × (F.nodes_of c ≡ rule)

  -- The conditions of a set-up, 5 to 9, then 13: "lent buffer shorter than the output".
  abbrev pub write_file_conditions : Setup → List ℕ → List ℕ → List Condition
  write_file_conditions s rule old =
      pair_conditions s rule ++ (plain BufferLength ((c : F.Inside) × IsFileOf s rule c × (length old < length (F.text_of c))) ∷ [])

  -- A writing puts their text, which is of the form and within the limit, and answers its length.
  pub record WritesAs (s : Setup) (rule old new : List ℕ) (n : ℕ) : Type 0 where
    pub contents : F.Inside
    pub of_these : IsFileOf s rule contents
    pub shown : F.Shown contents (F.text_of contents)
    pub within : length (F.text_of contents) ≤ file_limit
    pub count_is : n ≡ length (F.text_of contents)
    pub text_put : new ≡ put (F.text_of contents) old

-- ---- document 01's file

-- Its set-up, and its numbers: those of the set-up, and how many meet entries and nodes it has.
abbrev pub file_setup : Contents → Setup
file_setup c = setup c.events c.values c.top c.meet

abbrev pub file_numbers : Contents → FileNumbers
file_numbers c =
    record { events = c.events; values = c.values; top = c.top; entries = length c.meet; nodes = length c.rule }

abbrev pub number_file : FileForm
number_file =
    record {
      Inside = Contents;
      Shown = Shows;
      text_of = text;
      tokens_of = rule_text;
      setup_of = file_setup;
      nodes_of = rule_numbers;
      Numbers = FileNumbers;
      numbers_of = file_numbers;
    }
