-- Refusals (document 01, "Who can cause a refusal"): their order, which one a call gives, and what is claimed of every call.
use mathlib.Core.{Path.{◌≡◌}, Logic.{◌⊎◌}, Bool.{Bool, true, false, cond, not, ◌&&◌, ◌||◌}, Option.{Option, none, some}, List.{List, [], ◌∷◌, ◌++◌}}
use Rattle.std.specs.Prelude.{ℕ, ◌<◌, Option as StdOption, Some, None, Result, Ok, Err}
use lib.{Dec.{eqb, leb}, ListN.{length, drop}}
use Rattle.refusal.specs.declared.Refusal.{Refusal}

-- A refusal's number in the list.
abbrev pub refusal_number : Refusal → ℕ
refusal_number Refusal.SetupEvents = 1
refusal_number Refusal.SetupValues = 2
refusal_number Refusal.SetupMeet = 3
refusal_number (Refusal.TextForm p) = 4
refusal_number Refusal.NodeCount = 5
refusal_number (Refusal.NodeFields p) = 6
refusal_number (Refusal.NodeTree p) = 7
refusal_number (Refusal.UnboundVariable p) = 8
refusal_number (Refusal.UnprotectedVariable p) = 9
refusal_number Refusal.StateCount = 10
refusal_number Refusal.TableLimits = 11
refusal_number Refusal.WrittenSize = 12
refusal_number Refusal.BufferLength = 13
refusal_number Refusal.ChannelNumber = 14
refusal_number Refusal.ChannelEmpty = 15
refusal_number Refusal.EventNumber = 16
refusal_number Refusal.ToolContents = 17
refusal_number Refusal.SetupWheel = 18
refusal_number Refusal.PulseTotal = 19
refusal_number Refusal.SetupLines = 20
refusal_number Refusal.Kiss2Values = 21
refusal_number Refusal.Kiss2Form = 22
refusal_number Refusal.BinderDepth = 23
refusal_number Refusal.SequenceLength = 24
refusal_number Refusal.RowTotal = 25

-- Its place, where it has one.
abbrev pub refusal_place : Refusal → StdOption ℕ
refusal_place (Refusal.TextForm p) = Some p
refusal_place (Refusal.NodeFields p) = Some p
refusal_place (Refusal.NodeTree p) = Some p
refusal_place (Refusal.UnboundVariable p) = Some p
refusal_place (Refusal.UnprotectedVariable p) = Some p
refusal_place refusal = None

-- "4 and 6 to 9 also a place".
unfoldable pub has_place : ℕ → Bool
has_place n = eqb n 4 || (leb 6 n && leb n 9)

-- Document 01's order: 17, 14, 15, 16, then 4, then 1 to 3, 5 to 10, 11, 12, and 13 last. Document 02 adds 18 to 25: 25 after 17 and,
-- where a table is loaded, after 10; 19 after 16; 22 "first of all"; 20 "in the place of 2 and 3", then 18; 23 after 8 and, for a
-- written rule, after 12; 21 and 24 after 11. "5 to 9" and "5 to 10" in comments are these stretches of the list, with 23 in them.
unfoldable pub order : List ℕ
order = 17 ∷ 25 ∷ 14 ∷ 15 ∷ 16 ∷ 19 ∷ 22 ∷ 4 ∷ 1 ∷ 2 ∷ 3 ∷ 20 ∷ 18 ∷ 5 ∷ 6 ∷ 7 ∷ 8 ∷ 23 ∷ 9 ∷ 10 ∷ 25 ∷ 11 ∷ 12 ∷ 23 ∷ 21 ∷ 24 ∷ 13 ∷ []

-- The refusals with a place, and each at one.
pub data PlacedRefusal : Type 0 where
  form_place fields_place tree_place unbound_place unprotected_place : PlacedRefusal

abbrev pub at_place : PlacedRefusal → ℕ → Refusal
at_place form_place = Refusal.TextForm
at_place fields_place = Refusal.NodeFields
at_place tree_place = Refusal.NodeTree
at_place unbound_place = Refusal.UnboundVariable
at_place unprotected_place = Refusal.UnprotectedVariable

-- The lowest place at which something holds.
pub record Lowest (P : ℕ → Type 0) (p : ℕ) : Type 0 where
  pub holds : P p
  pub least : (i : ℕ) → i < p → ¬ P i

-- A condition of the list, for one input: the refusal and what the input meets; with a place, what it meets there.
pub data Condition : Type 1 where
  plain : Refusal → Type 0 → Condition
  at_lowest : PlacedRefusal → (ℕ → Type 0) → Condition

-- The refusal that it gives, where it is met: with the lowest place where it is met.
abbrev pub Gives : Condition → Refusal → Type 0
Gives (plain given Met) refusal = Met × (refusal ≡ given)
Gives (at_lowest given Met) refusal = (p : ℕ) × Lowest Met p × (refusal ≡ at_place given p)

-- "Each is tested over its whole input before the next": the first condition that gives a refusal gives the answer,
-- and a call that meets none of the conditions is accepted.
unfoldable pub First : List Condition → Option Refusal → Type 0
First [] answer = answer ≡ none
First (C ∷ cs) answer = ((refusal : Refusal) × Gives C refusal × (answer ≡ some refusal)) ⊎ (((refusal : Refusal) → ¬ Gives C refusal) × First cs answer)

-- The first list is the second with some numbers left out.
unfoldable pub part_of : List ℕ → List ℕ → Bool
part_of [] ms = true
part_of (n ∷ ns) [] = false
part_of (n ∷ ns) (m ∷ ms) = cond (eqb n m) (part_of ns ms) (part_of (n ∷ ns) ms)

-- The numbers of a call's conditions, and whether each has a place exactly if its number has one.
unfoldable pub condition_numbers : List Condition → List ℕ
condition_numbers [] = []
condition_numbers (plain given Met ∷ cs) = refusal_number given ∷ condition_numbers cs
condition_numbers (at_lowest given Met ∷ cs) = refusal_number (at_place given 0) ∷ condition_numbers cs

unfoldable pub right_places : List Condition → Bool
right_places [] = true
right_places (plain given Met ∷ cs) = not (has_place (refusal_number given)) && right_places cs
right_places (at_lowest given Met ∷ cs) = has_place (refusal_number (at_place given 0)) && right_places cs

-- What is claimed of every call that can be refused, for each input: its answer is the first refusal that its conditions give, or
-- none where they give none; there is no other answer; and the conditions stand in document 01's order.
pub record Judged (cs : List Condition) (answer : Option Refusal) : Type 0 where
  pub first : First cs answer
  pub only : (other : Option Refusal) → First cs other → other ≡ answer
  pub ordered : part_of (condition_numbers cs) order ≡ true
  pub placed : right_places cs ≡ true

-- The same of a call that is lent something: beside a refusal it is as before.
pub record JudgedCall {M : Type 0} (cs : List Condition) (answer : Option Refusal) (before after : M) : Type 0 where
  pub judged : Judged cs answer
  pub kept : (refusal : Refusal) → answer ≡ some refusal → after ≡ before

-- Document 01's answer for a call's result: the refusal, where there is one, and what an accepted call yields.
abbrev pub refusal_of : {A : Type 0} → Result A Refusal → Option Refusal
refusal_of (Ok yielded) = none
refusal_of (Err refusal) = some refusal

abbrev pub yield_of : {A : Type 0} → Result A Refusal → Option A
yield_of (Ok yielded) = some yielded
yield_of (Err refusal) = none

-- An output over the front of what a buffer held.
unfoldable pub put : List ℕ → List ℕ → List ℕ
put output old = output ++ drop (length output) old
