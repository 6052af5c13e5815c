-- What is proved with of machines: runs on words, and definition 1 said of words and by decided relations.
use mathlib.Core.{Bool.{Bool}, List.{List, [], ◌∷◌}}
use Rattle.std.specs.Prelude.{ℕ, ◌<◌, T}
use Rattle.theory.specs.{ValueSets.{AtOrBelow}, MealyMachine.{Machine, Word, after, States, IsSimulation}}

-- The values of a sequence from a state: "An event returns the value and moves to the next state".
abbrev pub word_values : {S B : Type 0} → Machine S B → S → List ℕ → List B
word_values m s [] = []
word_values m s (e ∷ w) = m.value s e ∷ word_values m (m.next s e) w

-- Definition 1 between tables of n and k states, with decided relations: the same, and it can stand in a contract.
module _ {B : Type 0} (events : ℕ) (meet : B → B → B) (n : ℕ) (m : Machine ℕ B) (k : ℕ) (q : Machine ℕ B) where
  abbrev pub SimulatedTable : ℕ → ℕ → Type 0
  SimulatedTable s t =
      (R : ℕ → ℕ → Bool) × IsSimulation events meet (States n) m (States k) q (λ x y. T (R x y)) × T (R s t)

-- After every sequence (w, then e) the value of s is so related to that of t; at or below it; `SameValues` is the case of equality.
module _ {B S Q : Type 0} (events : ℕ) (Related : B → B → Type 0) (m : Machine S B) (q : Machine Q B) where
  abbrev pub RelatedOnWords : S → Q → Type 0
  RelatedOnWords s t =
      (w : List ℕ) → Word events w → (e : ℕ) → e < events →
      Related (m.value (after m s w) e) (q.value (after q t w) e)

module _ {B S Q : Type 0} (events : ℕ) (meet : B → B → B) (m : Machine S B) (q : Machine Q B) where
  abbrev pub BelowOnWords : S → Q → Type 0
  BelowOnWords = RelatedOnWords events (AtOrBelow meet) m q
