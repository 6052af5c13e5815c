-- The claims about demands (specs/Claims).
use mathlib.Core.{Path.{◌∙◌, subst, subst⁻¹}, List.{List}}
use Prim.Native.Nat.{ℕ}
use Rattle.theory.specs.ValueSets.{MeetSemilattice}
use Rattle.theory.specs.Formula.{Formula, Answers}
use Rattle.theory.specs.FormulaClasses.{WellFormed}
use Rattle.theory.specs.MealyMachine.{after}
use Rattle.theory.specs.{DemandSets.{set_machine, first_set}, Claims.{DemandClaim, DemandValuesClaim}}
use Rattle.theory.proofs.{SemanticsEquality.{answers}, Demands.{shown_is_value}, ReachedSets.{reached_nodes}, DemandValues.{demand_values}}
use Rattle.theory.proofs.SetMachine.{set_machine_is, only_set_machine}

pub demand_claim : {B : Type 0} (In : B → Type 0) (meet : B → B → B) (top : B) (events : ℕ) → DemandClaim In meet top events
demand_claim In meet top events φ w = (
  set_machine_is meet top φ w.guarded,
  only_set_machine meet top φ w.guarded,
  reached_nodes φ meet top,
)

module _ {B : Type 0} (In : B → Type 0) (meet : B → B → B) (top : B) (laws : MeetSemilattice In meet top) (events : ℕ) where
  -- The value of the set that a sequence reaches is the formula's.
  pub set_answers :
      (φ : Formula B) → WellFormed events In φ → (w : List ℕ) (e : ℕ) →
      Answers meet top φ w e ((set_machine meet top φ).value (after (set_machine meet top φ) (first_set φ) w) e)
  set_answers φ g w e =
      subst (Answers meet top φ w e)
      (demand_values φ In meet top laws events g w e
      ∙ shown_is_value In meet top laws events φ g.fits (after (set_machine meet top φ) (first_set φ) w) e)
      (answers In meet top events φ g w e)

  pub demand_values_claim : DemandValuesClaim In meet top laws events
  demand_values_claim φ g m first h w e =
      let p = only_set_machine meet top φ g.guarded m first h in
      subst⁻¹ (λ x. Answers meet top φ w e (x.value (after x first w) e)) p.0
      (subst⁻¹ (λ x. Answers meet top φ w e ((set_machine meet top φ).value (after (set_machine meet top φ) x w) e)) p.1
      (set_answers φ g w e))
