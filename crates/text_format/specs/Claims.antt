-- What is claimed of numbers (inhabited in proofs/Decimal) and of every format that keeps the laws (in proofs/Place).
use Rattle.std.specs.Prelude.{ℕ, ◌<◌}
use mathlib.Core.{Path.{◌≡◌}, List.{List}}
use Rattle.text_format.specs.{Format.{Format, Laws, Outcome, contents, refused, read}, Decimal.{limit, Numeral}, Texts.{decimal, Refused, FormOf}}

-- What an answer says of the text t: t shows these contents, or t is refused at this offset.
abbrev pub AnswersText : {A : Type 0} → (A → List ℕ → Type 0) → List ℕ → Outcome A → Type 0
AnswersText Shows t (contents a) = Shows a t
AnswersText Shows t (refused p) = Refused (FormOf Shows) t p

-- What is printed for a number is its numeral, and the only one.
pub record NumeralClaim : Type 0 where
  pub printed : (k v : ℕ) → v < limit k → Numeral k v (decimal k v)
  pub only : (k v : ℕ) (s : List ℕ) → Numeral k v s → (v < limit k) × (s ≡ decimal k v)

-- A format prints exactly the texts that a relation shows.
pub record FormatRenders {A : Type 0} (F : Format A) (Shows : A → List ℕ → Type 0) : Type 0 where
  pub to : (a : A) (t : List ℕ) → Shows a t → F.Fits a × (t ≡ F.print a)
  pub from : (a : A) → F.Fits a → Shows a (F.print a)

-- The parser's answer is the form's: the contents shown, or the place of refusal.
abbrev pub AnswerClaim : Type 1
AnswerClaim = (A : Type 0) (F : Format A) (Shows : A → List ℕ → Type 0) → Laws F → FormatRenders F Shows → (t : List ℕ) → AnswersText Shows t (read F t)

-- It is the only answer: the place is unique and so are the contents.
abbrev pub OneAnswerClaim : Type 1
OneAnswerClaim =
    (A : Type 0) (F : Format A) (Shows : A → List ℕ → Type 0) → Laws F → FormatRenders F Shows
    → (t : List ℕ) (x y : Outcome A) → AnswersText Shows t x → AnswersText Shows t y → x ≡ y

-- A text is refused at one place at most, and not where it is of the form.
pub record PlaceClaim : Type 1 where
  pub one_place : (Form : List ℕ → Type 0) (t : List ℕ) (p q : ℕ) → Refused Form t p → Refused Form t q → p ≡ q
  pub not_of_the_form : (Form : List ℕ → Type 0) (t : List ℕ) (p : ℕ) → Refused Form t p → Form t → ⊥

-- What is printed is read back as the same contents.
abbrev pub FormatReadBackClaim : Type 1
FormatReadBackClaim = (A : Type 0) (F : Format A) → Laws F → (a : A) → F.Fits a → read F (F.print a) ≡ contents a
