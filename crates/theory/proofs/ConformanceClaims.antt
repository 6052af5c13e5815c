-- Between tables, simulation by a decided relation is simulation, and the check decides it; the word that it finds is the only first one. With
-- equality the check decides whether all values are the same.
use mathlib.Core.{Path.{◌≡◌, refl}, Bool.{Bool}, Logic.{◌↔◌}, List.{[], ◌∷◌}, Option.{Option, none, some}}
use Prim.Native.Nat.{ℕ, ◌<◌}
use native.Mathlib.Omega.{arith}
use lib.Dec.{T}
use Rattle.theory.specs.ValueSets.{AtOrBelow}
use Rattle.theory.specs.MealyMachine.{Machine, States, Runs}
use Rattle.theory.specs.MachineRuns.{SimulatedTable, BelowOnWords}
use Rattle.theory.specs.ConformanceCheck.{is_none, counterexample}
use Rattle.theory.specs.Claims.{TableSimulationClaim, ConformanceClaim, OneFirstWordClaim, SameValuesClaim}
use Rattle.theory.proofs.{Simulation.{simulation_below}, Conformance.{none_iff_related, first_shown}, WordOrder.{no_later_antisymmetric}}

pub is_none_iff : {A : Type 0} (o : Option A) → T (is_none o) ↔ (o ≡ none)
is_none_iff none = ((λ t. refl), λ e. tt)
is_none_iff (some a) = ((λ t. absurd t), λ e. let z : ◌≡◌ {A = ℕ} 0 1 = cc in absurd (omega arith))

module _ {B : Type 0} (In : B → Type 0) (meet : B → B → B) (at_or_below : B → B → Bool)
    (decides : (b c : B) → T (at_or_below b c) ↔ AtOrBelow meet b c) (events n : ℕ) (m : Machine ℕ B) (k : ℕ) (q : Machine ℕ B)
    (runs_m : Runs events In (States n) m) (runs_q : Runs events In (States k) q) where
  -- The check finds no word.
  abbrev Passes : ℕ → ℕ → Type 0
  Passes x y = counterexample at_or_below m q events n k x y ≡ none

  pub passes_iff : (s t : ℕ) → s < n → t < k → Passes s t ↔ BelowOnWords events meet m q s t
  passes_iff s t hs ht = none_iff_related In (AtOrBelow meet) at_or_below decides events n m k q runs_m runs_q s t hs ht

  -- That the check finds no word is a decided relation, and a simulation.
  pub below_simulated : (s t : ℕ) → s < n → t < k → BelowOnWords events meet m q s t → SimulatedTable events meet n m k q s t
  below_simulated s t hs ht b = (
    (λ x y. is_none (counterexample at_or_below m q events n k x y)),
    (λ x y hx hy r e l.
        let u : BelowOnWords events meet m q x y
        = (passes_iff x y hx hy).0 ((is_none_iff (counterexample at_or_below m q events n k x y)).0 r) in (
          u [] tt e l,
          passed (m.next x e) (q.next y e) (runs_m.next_in x hx e l) (runs_q.next_in y hy e l) (λ w v a h. u (e ∷ w) (l, v) a h),
        )),
    passed s t hs ht b,
  )
    where
      passed :
          (x y : ℕ) → x < n → y < k → BelowOnWords events meet m q x y →
          T (is_none (counterexample at_or_below m q events n k x y))
      passed x y hx hy u = (is_none_iff (counterexample at_or_below m q events n k x y)).1 ((passes_iff x y hx hy).1 u)

  pub simulated_below : (s t : ℕ) → s < n → t < k → SimulatedTable events meet n m k q s t → BelowOnWords events meet m q s t
  simulated_below s t hs ht r =
      simulation_below events In meet (States n) m (States k) q runs_m runs_q (λ x y. T (r.0 x y)) r.1 s t hs ht r.2

  pub passes_iff_simulated : (s t : ℕ) → s < n → t < k → Passes s t ↔ SimulatedTable events meet n m k q s t
  passes_iff_simulated s t hs ht = (
    (λ e. below_simulated s t hs ht ((passes_iff s t hs ht).0 e)),
    λ r. (passes_iff s t hs ht).1 (simulated_below s t hs ht r),
  )

module _ {B : Type 0} (In : B → Type 0) (meet : B → B → B) (top : B) (events : ℕ) where
  pub table_simulation_claim : TableSimulationClaim In meet top events
  table_simulation_claim at_or_below decides n m k q runs_m runs_q s t hs ht = (
    (λ r. ((λ x y. T (r.0 x y)), r.1, r.2)),
    λ r. below_simulated In meet at_or_below decides events n m k q runs_m runs_q s t hs ht
        (simulation_below events In meet (States n) m (States k) q runs_m runs_q r.0 r.1 s t hs ht r.2),
  )

  pub conformance_claim : ConformanceClaim In meet top events
  conformance_claim at_or_below decides n m k q runs_m runs_q s t hs ht = (
    passes_iff_simulated In meet at_or_below decides events n m k q runs_m runs_q s t hs ht,
    first_shown In meet at_or_below decides events n m k q runs_m runs_q s t hs ht,
  )

  -- Of two first counterexamples neither is later than the other.
  pub one_first_word_claim : OneFirstWordClaim In meet top events
  one_first_word_claim m q s t v w x y = no_later_antisymmetric v w (x.first w y.fails) (y.first v x.fails)

  pub same_values_claim : SameValuesClaim In meet top events
  same_values_claim equal decides n m k q runs_m runs_q s t hs ht =
      none_iff_related In (λ b c. b ≡ c) equal decides events n m k q runs_m runs_q s t hs ht
