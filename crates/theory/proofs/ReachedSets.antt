-- A state is a set of G and O node numbers (document 01, "Table of a rule"): each set that a sequence reaches is.
use mathlib.Core.{Logic.{inl, inr}, List.{List, [], ◌∷◌}}
use Prim.Native.Nat.{ℕ, zero}
use lib.Dec.{T}
use Rattle.theory.specs.Formula.{Formula, root}
use Rattle.theory.specs.MealyMachine.{after}
use Rattle.theory.specs.ReachableStates.{NodeSet, Demands, of_left, of_right, of_variable, of_transition, of_output, of_greatest}
use Rattle.theory.specs.Claims.{IsTransitionOrOutput}
use Rattle.theory.specs.DemandSets.{moved, set_machine, first_set}
use Rattle.theory.proofs.Demands.{demands_sound, next_set_sound}

module _ {B : Type 0} (φ : Formula B) where
  pub demanded_node : {i d : ℕ} → Demands φ i d → IsTransitionOrOutput φ d
  demanded_node (of_transition {bs = bs} {e = e} {ψ = ψ} s) = inl (bs, e, ψ, s)
  demanded_node (of_output {bs = bs} {e = e} {b = b} s) = inr (bs, e, b, s)
  demanded_node (of_left s h) = demanded_node h
  demanded_node (of_right s h) = demanded_node h
  demanded_node (of_greatest s h) = demanded_node h
  demanded_node (of_variable s l h) = demanded_node h

  module _ (meet : B → B → B) (top : B) where
    reached_from :
        (w : List ℕ) (D : NodeSet) → ((d : ℕ) → T (D d) → IsTransitionOrOutput φ d) →
        (d : ℕ) → T (after (set_machine meet top φ) D w d) → IsTransitionOrOutput φ d
    reached_from [] D f d h = f d h
    reached_from (e ∷ w) D f d h =
        reached_from w (moved D e [] zero φ) (λ j l. demanded_node (next_set_sound φ D e j l).5) d h

    -- Each set that a sequence reaches has only G and O nodes.
    pub reached_nodes :
        (w : List ℕ) (d : ℕ) → T (after (set_machine meet top φ) (first_set φ) w d) → IsTransitionOrOutput φ d
    reached_nodes w d h = reached_from w (first_set φ) (λ j l. demanded_node (demands_sound φ root j l)) d h
