-- The sets that are kept for a rule's nodes are their demands, and next states are unions of them.
use mathlib.Core.{Logic.{◌↔◌}, List.{List}}
use Prim.Native.Nat.{ℕ, suc}
use lib.Dec.{T}
use Rattle.theory.specs.Formula.{Formula, transition, Stands, part_of_transition}
use Rattle.theory.specs.{MealyMachine.{Machine}, ReachableStates.{NodeSet, Demands, IsSetMachine}}
use Rattle.values.specs.Setup.{Setup, setup_meet, setup_top}
use Rattle.synthesis.specs.KeptSets.{kept_set}
use Rattle.synthesis.proofs.KeptSets.{kept_demands}
use Rattle.product_claims.specs.Requests.{rule_bytes, LetThrough, GatheredDemands}
use Rattle.product_claims.proofs.InnerBinders.{let_through_formula}

module _ (s : Setup) (φ : Formula ℕ) (through : LetThrough s (rule_bytes s φ)) where
  kept : (i : ℕ) (bs : List ℕ) (ψ : Formula ℕ) → Stands φ i bs ψ → (d : ℕ) → T (kept_set φ i d) ↔ Demands φ i d
  kept i bs ψ r = (kept_demands φ (let_through_formula s φ through).well_formed.guarded i bs ψ r).demanded

  united :
      (m : Machine NodeSet ℕ) (first : NodeSet) → IsSetMachine (setup_meet s) (setup_top s) φ m first → (D : NodeSet) (e d : ℕ) →
      T (m.next D e d) ↔ ((i : ℕ) × (bs : List ℕ) × (ψ : Formula ℕ) × T (D i) × Stands φ i bs (transition e ψ) × T (kept_set φ (suc i) d))
  united m first is D e d =
      let next = is.next_set D e d in (
        (λ h. let n = next.0 h in (n.0, n.1, n.2, n.3, n.4, (kept (suc n.0) n.1 n.2 (part_of_transition n.4) d).1 n.5)),
        λ n. next.1 (n.0, n.1, n.2, n.3, n.4, (kept (suc n.0) n.1 n.2 (part_of_transition n.4) d).0 n.5),
      )

pub gathered_demands : GatheredDemands
gathered_demands = record { kept = kept; united = united }
