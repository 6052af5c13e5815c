-- A device passes against the table of a formula exactly if its start satisfies the formula by the set definition.
use mathlib.Core.Logic.Iff
use mathlib.Core.{Path.{◌≡◌, subst, subst⁻¹}, Logic.{◌↔◌}, List.{List}}
use Prim.Native.Nat.{ℕ, zero, ◌<◌}
use Rattle.theory.specs.ValueSets.{MeetSemilattice, AtOrBelow}
use Rattle.theory.specs.Formula.{Formula}
use Rattle.theory.specs.FormulaClasses.{WellFormed}
use Rattle.theory.specs.MealyMachine.{Machine, Word, after, States}
use Rattle.theory.specs.MachineRuns.{BelowOnWords}
use Rattle.theory.specs.Evaluation.{value, formulas}
use Rattle.theory.specs.ReachableStates.{IsTableOf}
use Rattle.theory.specs.Claims.{TrialClaim}
use Rattle.theory.proofs.{SemanticsEquality.{only_answer}, Satisfaction.{satisfies_iff}, TableSatisfaction.{table_satisfaction_claim}}
use Rattle.theory.proofs.{TableClaims.{table_values_claim}, ConformanceClaims.{passes_iff}}

module _ {B : Type 0} (In : B → Type 0) (meet : B → B → B) (top : B) (laws : MeetSemilattice In meet top) (events : ℕ) where
  -- Being at or below the table on every word is being so for the formula.
  pub below_table_iff :
      (φ : Formula B) → WellFormed events In φ → (k : ℕ) (q : Machine ℕ B) → IsTableOf meet top events φ k q →
      (m : Machine ℕ B) (s : ℕ) → BelowOnWords events meet m q s zero ↔ BelowOnWords events meet m (formulas meet top) s φ
  below_table_iff φ g k q h m s = (
    (λ b w v e l. subst (AtOrBelow meet (m.value (after m s w) e)) (same w v e l) (b w v e l)),
    λ b w v e l. subst⁻¹ (AtOrBelow meet (m.value (after m s w) e)) (same w v e l) (b w v e l),
  )
    where
      same :
          (w : List ℕ) → Word events w → (e : ℕ) → e < events →
          q.value (after q zero w) e ≡ value meet top e (after (formulas meet top) φ w)
      same w v e l =
          only_answer In meet top events φ g w e (q.value (after q zero w) e)
          ((table_values_claim In meet top laws events φ g k q h).2 w v e l)

  pub trial_claim : TrialClaim In meet top laws events
  trial_claim at_or_below decides φ g k q h n m runs s hs =
      let table = table_values_claim In meet top laws events φ g k q h in
      Iff.trans (passes_iff In meet at_or_below decides events n m k q runs table.1 s zero hs table.0)
      (Iff.trans (below_table_iff φ g k q h m s)
      (Iff.trans (Iff.symm (satisfies_iff events In meet top laws (States n) m runs φ g (λ i t. ⊥) s hs))
      (Iff.symm (table_satisfaction_claim In meet top laws events at_or_below decides n m runs φ g s hs))))
