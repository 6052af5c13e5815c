-- What is claimed of the first refusal of a list of conditions: there is one answer, and lists may be judged one after the other.
use mathlib.Core.{Path.{◌≡◌}, Logic.{◌↔◌}, Bool.{true, false}, Option.{Option, none}, List.{List, [], ◌∷◌, ◌++◌}}
use Rattle.std.specs.Prelude.{ℕ, ◌≤◌, Some, None}
use Rattle.refusal.specs.declared.Refusal.{Refusal}
use Rattle.refusal.specs.Refusal.{refusal_number, refusal_place, order, Condition, Gives, Lowest}
use Rattle.refusal.specs.Refusal.{First, part_of, condition_numbers, right_places, Judged, has_place}
use Rattle.refusal.specs.RefusalAnswers.{or_else}

-- There is at most one lowest refusal-place.
abbrev pub LowestUniqueClaim : Type 1
LowestUniqueClaim = (P : ℕ → Type 0) (p q : ℕ) → Lowest P p → Lowest P q → p ≡ q

-- There is at most one answer.
abbrev pub FirstUniqueClaim : Type 1
FirstUniqueClaim = (cs : List Condition) (a b : Option Refusal) → First cs a → First cs b → a ≡ b

-- So a list in order is judged by its first refusal.
abbrev pub JudgedClaim : Type 1
JudgedClaim =
    (cs : List Condition) (answer : Option Refusal) → First cs answer → part_of (condition_numbers cs) order ≡ true → right_places cs ≡ true →
    Judged cs answer

-- Two lists one after the other: the first answer that is a refusal.
abbrev pub FirstAppendClaim : Type 1
FirstAppendClaim =
    (cs ds : List Condition) (a b : Option Refusal) → First cs a → First ds b → First (cs ++ ds) (or_else a b)

-- Nothing is refused exactly if no condition gives a refusal.
unfoldable pub NoneMet : List Condition → Type 0
NoneMet [] = Unit
NoneMet (C ∷ cs) = ((refusal : Refusal) → ¬ Gives C refusal) × NoneMet cs

abbrev pub NoneMetClaim : Type 1
NoneMetClaim = (cs : List Condition) (a : Option Refusal) → First cs a → (a ≡ none) ↔ NoneMet cs

-- A refusal of the list: its refusal-number is 1 to 25, and it has a refusal-place exactly if that refusal-number has one.
pub record ListedRefusal (refusal : Refusal) : Type 0 where
  pub some_number : 1 ≤ refusal_number refusal
  pub last_number : refusal_number refusal ≤ 25
  pub with_place : (p : ℕ) → refusal_place refusal ≡ Some p → has_place (refusal_number refusal) ≡ true
  pub without_place : refusal_place refusal ≡ None → has_place (refusal_number refusal) ≡ false

-- Every refusal is one of the list; none has the refusal-number 0.
abbrev pub ListedRefusalClaim : Type 0
ListedRefusalClaim = (refusal : Refusal) → ListedRefusal refusal
