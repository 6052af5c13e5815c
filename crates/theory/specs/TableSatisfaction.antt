-- The set definition over tables, with decided sets.
use Rattle.std.specs.Prelude.{Bool, false, ℕ, ◌<◌, T}
use Rattle.theory.specs.{ValueSets.{AtOrBelow}, Formula.{Formula, truth, variable, transition, output, conjunction, greatest}}
use Rattle.theory.specs.MealyMachine.{Machine, extend}

-- The same over a table of n states with decided sets, so that it can stand in a contract.
module _ {B : Type 0} (meet : B → B → B) (n : ℕ) (m : Machine ℕ B) where
  abbrev pub TableSatisfiesIn : (ℕ → ℕ → Bool) → Formula B → ℕ → Type 0
  TableSatisfiesIn η truth s = Unit {0}
  TableSatisfiesIn η (variable k) s = T (η k s)
  TableSatisfiesIn η (transition e φ) s = TableSatisfiesIn η φ (m.next s e)
  TableSatisfiesIn η (output e b) s = AtOrBelow meet (m.value s e) b
  TableSatisfiesIn η (conjunction φ χ) s = TableSatisfiesIn η φ s × TableSatisfiesIn η χ s
  TableSatisfiesIn η (greatest φ) s =
      (A : ℕ → Bool) × T (A s) × ((t : ℕ) → t < n → T (A t) → TableSatisfiesIn (extend A η) φ t)

  abbrev pub TableSatisfies : Formula B → ℕ → Type 0
  TableSatisfies φ s = TableSatisfiesIn (λ k t. false) φ s
