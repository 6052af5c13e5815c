-- Twin of Texts, pinned by text_format AnswerClaim.
-- Two-way formats: how the values of a type stand as text (print), a parser that reads a value from the front of a text
-- (parse), and the laws that tie the two together. A text is a list of byte values.
use Rattle.std.specs.Prelude.{ℕ, ◌-◌, length}
use mathlib.Core.{Path.{◌≡◌}, List.{List, [], ◌∷◌, ◌++◌}}

-- A parser's answer: a value and what is left behind it, or what is left at the first byte that cannot stand there.
pub data Parsed (A : Type 0) : Type 0 where
  ok : A → List ℕ → Parsed A
  bad : List ℕ → Parsed A

-- The next parser goes on with what is left.
abbrev pub bind : {A B : Type 0} → Parsed A → (A → List ℕ → Parsed B) → Parsed B
bind (ok a r) k = k a r
bind (bad r) k = bad r

-- Fits: the values that have a text. sample: one of them (law sample-fits), so that each beginning can be completed.
pub record Format (A : Type 0) : Type 1 where
  pub Fits : A → Type 0
  pub print : A → List ℕ
  pub parse : List ℕ → Parsed A
  pub sample : A

-- The parser stopped on s with r left: the bytes before r begin the text of some value that fits, and with the next byte
-- of r behind them the parser stops there too, whatever follows.
pub record Stuck {A : Type 0} (F : Format A) (s r : List ℕ) : Type 0 where
  pub before : List ℕ
  pub splits : s ≡ before ++ r
  pub value : A
  pub fits : F.Fits value
  pub ending : List ℕ
  pub viable : before ++ ending ≡ F.print value
  pub local : (b : ℕ) (r' : List ℕ) → r ≡ b ∷ r' → (u : List ℕ) → F.parse (before ++ (b ∷ u)) ≡ bad (b ∷ u)

-- sound: what is read stands there. full: what stands there is read, whatever follows. stuck: as above.
pub record Laws {A : Type 0} (F : Format A) : Type 0 where
  pub sample_fits : F.Fits F.sample
  pub sound : (s : List ℕ) (a : A) (r : List ℕ) → F.parse s ≡ ok a r → F.Fits a × (s ≡ F.print a ++ r)
  pub full : (a : A) → F.Fits a → (w : List ℕ) → F.parse (F.print a ++ w) ≡ ok a w
  pub stuck : (s r : List ℕ) → F.parse s ≡ bad r → Stuck F s r

-- ---- whole texts

-- The answer to a whole text: its contents, or the offset at which it is refused.
pub data Outcome (A : Type 0) : Type 0 where
  contents : A → Outcome A
  refused : ℕ → Outcome A

-- Nothing may follow.
abbrev pub at_end : {A : Type 0} → A → List ℕ → Parsed A
at_end a [] = ok a []
at_end a (b ∷ r) = bad (b ∷ r)

abbrev pub whole : {A : Type 0} → Format A → List ℕ → Parsed A
whole F t = bind (F.parse t) (λ a r. at_end a r)

-- An answer that names what is left of t, as one that names an offset in t.
abbrev pub outcome : {A : Type 0} → List ℕ → Parsed A → Outcome A
outcome t (ok a r) = contents a
outcome t (bad r) = refused (length t - length r)

-- What a format makes of a whole text.
abbrev pub read : {A : Type 0} → Format A → List ℕ → Outcome A
read F t = outcome t (whole F t)
