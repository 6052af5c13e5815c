-- The computed table of a formula is the formula's, at any limit, and the same at every limit that its states are within; its entries are
-- values and states.
use mathlib.Core.{Path.{◌≡◌, refl, ap, subst}, Logic.{◌↔◌}, Bool.{Bool, true, false, cond}, List.{List, [], ◌∷◌}}
use Prim.Native.Nat.{ℕ, zero, suc, ◌+◌, ◌≤◌, ◌<◌}
use native.Mathlib.Omega.{arith}
use borrow.Author.Tests.{le-ltb}
use lib.{Dec.{ltb}, ListN.{length, get_or}}
use Rattle.limits.specs.Limits.{node_limit}
use Rattle.theory.specs.ValueSets.{MeetSemilattice}
use Rattle.theory.specs.Formula.{Formula, size, Answers}
use Rattle.theory.specs.FormulaClasses.{WellFormed}
use Rattle.theory.specs.MealyMachine.{Word, after, States, Runs}
use Rattle.theory.specs.ReachableStates.{IsTableOf, StatesAtMost}
use Rattle.theory.specs.Exploration.{add_events, explore, numbered, same_bits, bit_machine, first_bits, sequences_of}
use Rattle.theory.proofs.Claims.{table, table_values}
use Rattle.synthesis.specs.FormulaTable.{formula_states, formula_table}

module _ (In : ℕ → Type 0) (meet : ℕ → ℕ → ℕ) (top : ℕ) (laws : MeetSemilattice In meet top) (events limit : ℕ)
    (φ : Formula ℕ) (w : WellFormed events In φ) (small : size φ ≤ node_limit) where
  pub few_states : (formula_states meet top φ events limit ≤ limit) ↔ StatesAtMost meet top events φ limit
  unfolding formula_states
  few_states = (table In meet top events φ w node_limit limit small).0

  pub is_table :
      formula_states meet top φ events limit ≤ limit →
      IsTableOf meet top events φ (formula_states meet top φ events limit) (formula_table meet top φ events limit)
  unfolding formula_states formula_table
  is_table h = (table In meet top events φ w node_limit limit small).1 h

  pub table_runs :
      formula_states meet top φ events limit ≤ limit →
      (0 < formula_states meet top φ events limit)
      × Runs events In (States (formula_states meet top φ events limit)) (formula_table meet top φ events limit)
      × ((u : List ℕ) → Word events u → (e : ℕ) → e < events →
      Answers meet top φ u e ((formula_table meet top φ events limit).value (after (formula_table meet top φ events limit) zero u) e))
  table_runs h =
      table_values In meet top events laws φ w (formula_states meet top φ events limit) (formula_table meet top φ events limit)
      (is_table h)

-- An exploration that comes to its end within a limit is the same within a larger one.
module _ {S : Type 0} (same : S → S → Bool) (next : S → ℕ → S) (start : S) (events : ℕ) where
  abbrev from : ℕ → ℕ → List (List ℕ) → List (List ℕ)
  from = explore same next start events

  ended :
      (a b i : ℕ) (P : List (List ℕ)) → length (from a i P) ≤ i + a → a ≤ b → from b i P ≡ from a i P
  ended zero zero i P h l = refl
  ended zero (suc b) i P h l =
      ap (λ t. cond t (from b (suc i) (add_events same next start events zero P (get_or P i []))) P) (le-ltb i (length P) (omega (arith, h)))
  ended (suc a) zero i P h l = absurd (omega (arith, l))
  ended (suc a) (suc b) i P h l =
      go (ltb i (length P)) (λ u. ended a b (suc i) (add_events same next start events zero P (get_or P i [])) (omega (arith, u)) (omega (arith, l))) h
    where
      more : List (List ℕ)
      more = add_events same next start events zero P (get_or P i [])

      go :
          (t : Bool) → (length (from a (suc i) more) ≤ i + suc a → from b (suc i) more ≡ from a (suc i) more) →
          length (cond t (from a (suc i) more) P) ≤ i + suc a → cond t (from b (suc i) more) P ≡ cond t (from a (suc i) more) P
      go true rest h = rest h
      go false rest h = refl

-- A table within a limit is the table within a larger one.
pub wider :
    (meet : ℕ → ℕ → ℕ) (top : ℕ) (φ : Formula ℕ) (events a b : ℕ) → formula_states meet top φ events a ≤ a → a ≤ b →
    (formula_states meet top φ events b ≡ formula_states meet top φ events a) × (formula_table meet top φ events b ≡ formula_table meet top φ events a)
unfolding formula_states formula_table
wider meet top φ events a b few l =
    let z : a ≡ 0 + a = omega arith in
    let same : sequences_of node_limit meet top φ events b ≡ sequences_of node_limit meet top φ events a
    = ended same_bits (bit_machine node_limit meet top φ).next (first_bits node_limit meet top φ) events a b 0 ([] ∷ [])
    (subst (λ x. length (sequences_of node_limit meet top φ events a) ≤ x) z few) l in
    (ap length same, ap (numbered same_bits (bit_machine node_limit meet top φ) (first_bits node_limit meet top φ)) same)
