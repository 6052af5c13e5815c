-- The computed machine of node sets is the one that document 01 describes, and the only one; so a table of a formula is a table of
-- that machine.
use mathlib.Core.{Path.{◌≡◌, refl, ap₂, subst, fun_ext}, Logic.{◌↔◌}}
use Prim.Native.Nat.{ℕ}
use Rattle.theory.specs.Formula.{Formula}
use Rattle.theory.specs.FormulaClasses.{Guarded}
use Rattle.theory.specs.MealyMachine.{Machine}
use Rattle.theory.specs.ReachableStates.{NodeSet, IsSetMachine}
use Rattle.theory.specs.{ReachableStates.{ReachesAtMost, IsTable, IsTableOf, StatesAtMost}, DemandSets.{set_machine, first_set}}
use Rattle.theory.proofs.Demands.{is_first_set, is_next_set, only_first_set, only_next_set}

module _ {B : Type 0} (meet : B → B → B) (top : B) (φ : Formula B) (guarded : Guarded φ) where
  pub set_machine_is : IsSetMachine meet top φ (set_machine meet top φ) (first_set φ)
  set_machine_is =
      record { first_set = is_first_set φ guarded; next_set = is_next_set φ guarded; value = λ D e. refl }

  pub only_set_machine :
      (m : Machine NodeSet B) (first : NodeSet) → IsSetMachine meet top φ m first →
      (m ≡ set_machine meet top φ) × (first ≡ first_set φ)
  only_set_machine m first h = (
    ap₂ (λ v n. record { value = v; next = n })
        (fun_ext (λ D. fun_ext (λ e. h.value D e)))
        (fun_ext (λ D. fun_ext (λ e. only_next_set φ guarded D e (m.next D e) (h.next_set D e)))),
    only_first_set φ guarded first h.first_set,
  )

  module _ (events : ℕ) where
    pub table_of_iff :
        (n : ℕ) (t : Machine ℕ B) →
        IsTableOf meet top events φ n t ↔ IsTable events (set_machine meet top φ) (first_set φ) n t
    table_of_iff n t = (
      (λ h. let p = only_set_machine h.0 h.1 h.2 in
          subst (λ x. IsTable events (set_machine meet top φ) x n t) p.1
          (subst (λ x. IsTable events x h.1 n t) p.0 h.3)),
      λ h. (set_machine meet top φ, first_set φ, set_machine_is, h),
    )

    pub states_at_most_iff :
        (limit : ℕ) →
        StatesAtMost meet top events φ limit ↔ ReachesAtMost events (set_machine meet top φ) (first_set φ) limit
    states_at_most_iff limit = (
      (λ h. let p = only_set_machine h.0 h.1 h.2 in
          subst (λ x. ReachesAtMost events (set_machine meet top φ) x limit) p.1
          (subst (λ x. ReachesAtMost events x h.1 limit) p.0 h.3)),
      λ h. (set_machine meet top φ, first_set φ, set_machine_is, h),
    )
