-- Twin of ReachableStates, pinned by theory DemandClaim.
-- First set and next set computed: the computing twin of `Demands`.
use mathlib.Core.{Bool.{false, ◌||◌, ◌&&◌, cond}, List.{List, [], ◌∷◌}, Logic.{◌↔◌}}
use Rattle.std.specs.Prelude.{ℕ, zero, suc, ◌+◌, T, eqb}
use Rattle.theory.specs.ReachableStates.{Demands, InNextSet, NodeSet, value_of_set}
use Rattle.theory.specs.{Formula.{Formula, truth, variable, transition, output, conjunction, greatest, size}, MealyMachine.{Machine}}

unfoldable pub empty : NodeSet
empty i = false

unfoldable pub only : ℕ → NodeSet
only j i = eqb j i

unfoldable pub union : NodeSet → NodeSet → NodeSet
union C D i = C i || D i

-- The set kept for the binder of a variable.
abbrev pub binder_set : List NodeSet → ℕ → NodeSet
binder_set [] n = empty
binder_set (D ∷ ρ) zero = D
binder_set (D ∷ ρ) (suc n) = binder_set ρ n

module _ {B : Type 0} where
  -- The demands of the formula at node i, below binders whose demands are ρ. The variable of a binder stands in its part only
  -- below a transition, so that what is put for it there is no matter.
  abbrev pub demands : List NodeSet → ℕ → Formula B → NodeSet
  demands ρ i truth = empty
  demands ρ i (variable n) = binder_set ρ n
  demands ρ i (transition e φ) = only i
  demands ρ i (output e b) = only i
  demands ρ i (conjunction φ χ) = union (demands ρ (suc i) φ) (demands ρ (suc i + size φ) χ)
  demands ρ i (greatest φ) = demands (empty ∷ ρ) (suc i) φ

  -- The union of the demands of the parts of the G nodes of D for e, among the nodes of the formula at i.
  abbrev pub moved : NodeSet → ℕ → List NodeSet → ℕ → Formula B → NodeSet
  moved D e ρ i truth = empty
  moved D e ρ i (variable n) = empty
  moved D e ρ i (transition a φ) = union (cond (D i && eqb a e) (demands ρ (suc i) φ) empty) (moved D e ρ (suc i) φ)
  moved D e ρ i (output a b) = empty
  moved D e ρ i (conjunction φ χ) = union (moved D e ρ (suc i) φ) (moved D e ρ (suc i + size φ) χ)
  moved D e ρ i (greatest φ) = moved D e (demands ρ i (greatest φ) ∷ ρ) (suc i) φ

  module _ (meet : B → B → B) (top : B) where
    -- The machine of node sets of a formula.
    abbrev pub set_machine : Formula B → Machine NodeSet B
    set_machine φ = record { value = λ D e. value_of_set meet top φ D e; next = λ D e. moved D e [] zero φ }

  abbrev pub first_set : Formula B → NodeSet
  first_set φ = demands [] zero φ

-- What a first and a next set are, one at a time.
module _ {B : Type 0} (φ : Formula B) where
  abbrev pub IsFirstSet : NodeSet → Type 0
  IsFirstSet D = (d : ℕ) → T (D d) ↔ Demands φ zero d

  abbrev pub IsNextSet : NodeSet → ℕ → NodeSet → Type 0
  IsNextSet D e D' = (d : ℕ) → T (D' d) ↔ InNextSet φ D e d
