-- A formula implies another exactly if its own table satisfies the other: what satisfies the formula is at or below its table on every
-- word, and the table is a finite device itself.
use mathlib.Core.{Logic.{◌↔◌}, List.{List}}
use Prim.Native.Nat.{ℕ, zero, ◌<◌}
use Rattle.theory.specs.ValueSets.{MeetSemilattice}
use Rattle.theory.specs.{Formula.{Formula}, FormulaClasses.{WellFormed}}
use Rattle.theory.specs.{MealyMachine.{Machine, Word, after, States, Runs, Satisfies}, MachineRuns.{BelowOnWords}}
use Rattle.theory.specs.{Evaluation.{formulas}, Claims.{ImplicationClaim}}
use Rattle.theory.proofs.{Order.{below_trans}, ReachableStates.{after_in}, Satisfaction.{formulas_run, satisfies_iff}}
use Rattle.theory.proofs.{TableClaims.{table_values_claim}, Trial.{below_table_iff}}

module _ {B : Type 0} (In : B → Type 0) (meet : B → B → B) (top : B) (laws : MeetSemilattice In meet top) (events : ℕ) where
  value_after :
      {S : Type 0} (State : S → Type 0) (m : Machine S B) → Runs events In State m → (s : S) → State s →
      (w : List ℕ) → Word events w → (e : ℕ) → e < events → In (m.value (after m s w) e)
  value_after State m runs s hs w v e l = runs.value_in (after m s w) (after_in events m State runs.next_in w v s hs) e l

  -- Being at or below on every word is reflexive and transitive.
  words_refl :
      {S : Type 0} (State : S → Type 0) (m : Machine S B) → Runs events In State m → (s : S) → State s → BelowOnWords events meet m m s s
  words_refl State m runs s hs w v e l = laws.idempotent (m.value (after m s w) e) (value_after State m runs s hs w v e l)

  words_trans :
      {S Q R : Type 0} (StateS : S → Type 0) (m : Machine S B) (StateQ : Q → Type 0) (q : Machine Q B) (StateR : R → Type 0) (r : Machine R B) →
      Runs events In StateS m → Runs events In StateQ q → Runs events In StateR r → (s : S) (t : Q) (u : R) → StateS s → StateQ t → StateR u →
      BelowOnWords events meet m q s t → BelowOnWords events meet q r t u → BelowOnWords events meet m r s u
  words_trans StateS m StateQ q StateR r x y z s t u hs ht hu a b w v e l =
      below_trans In meet top laws (m.value (after m s w) e) (q.value (after q t w) e) (r.value (after r u w) e)
      (value_after StateS m x s hs w v e l) (value_after StateQ q y t ht w v e l) (value_after StateR r z u hu w v e l) (a w v e l) (b w v e l)

  -- Satisfying is being at or below the formula's values on every word.
  satisfied :
      (φ : Formula B) → WellFormed events In φ → (n : ℕ) (m : Machine ℕ B) → Runs events In (States n) m → (s : ℕ) → s < n →
      Satisfies meet (States n) m φ s ↔ BelowOnWords events meet m (formulas meet top) s φ
  satisfied φ g n m runs s hs = satisfies_iff events In meet top laws (States n) m runs φ g (λ i t. ⊥) s hs

  pub implication_claim : ImplicationClaim In meet top laws events
  implication_claim φ χ g h n m x =
      let table = table_values_claim In meet top laws events φ g n m x in (
        (λ own k d runs s hs v.
            (satisfied χ h k d runs s hs).1
            (words_trans (States k) d (States n) m (WellFormed events In) (formulas meet top) runs table.1 (formulas_run events In meet top laws)
            s zero χ hs table.0 h
            ((below_table_iff In meet top laws events φ g n m x d s).1 ((satisfied φ g k d runs s hs).0 v))
            ((satisfied χ h n m table.1 zero table.0).0 own))),
        λ implied.
            implied n m table.1 zero table.0
            ((satisfied φ g n m table.1 zero table.0).1
            ((below_table_iff In meet top laws events φ g n m x m zero).0 (words_refl (States n) m table.1 zero table.0))),
      )
