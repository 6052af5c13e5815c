-- Being simulated up to k events, by each kind of formula.
use mathlib.Core.{Path.{◌≡◌, refl, subst, subst⁻¹}, Bool.{Bool, true, false, cond}}
use Prim.Native.Nat.{ℕ, zero, suc, ◌<◌}
use lib.Dec.{eqb}
use borrow.Author.Tests.{eqb-true, eq-eqb}
use Rattle.theory.specs.ValueSets.{MeetSemilattice, AtOrBelow}
use Rattle.theory.specs.Formula.{Formula, truth, transition, output, conjunction, greatest, unfolded}
use Rattle.theory.specs.FormulaClasses.{WellFormed}
use Rattle.theory.specs.MealyMachine.{Machine, Runs}
use Rattle.theory.specs.Evaluation.{value, follower, formulas}
use Rattle.theory.proofs.Order.{below_top, below_meet, below_meet_iff}
use Rattle.theory.proofs.Equations.{step_truth, step_transition, step_output, step_conjunction, step_greatest, follower_well_formed, value_in}
use Rattle.theory.proofs.Simulation.{BelowUpTo}

module _ {B S : Type 0} (events : ℕ) (In : B → Type 0) (meet : B → B → B) (top : B) (L : MeetSemilattice In meet top)
    (State : S → Type 0) (m : Machine S B) (runs : Runs events In State m) where
  abbrev pub UpTo : ℕ → S → Formula B → Type 0
  UpTo k s φ = BelowUpTo events meet m (formulas meet top) k s φ

  -- One event, for a value and a follower.
  abbrev Ahead : ℕ → S → ℕ → B × Formula B → Type 0
  Ahead k s e x = AtOrBelow meet (m.value s e) x.0 × UpTo k (m.next s e) x.1

  below_the_top : (s : S) → State s → (e : ℕ) → e < events → AtOrBelow meet (m.value s e) top
  below_the_top s h e l = below_top In meet top L (m.value s e) (runs.value_in s h e l)

  pub up_to_truth : (k : ℕ) (s : S) → State s → UpTo k s truth
  up_to_truth zero s h = tt
  up_to_truth (suc k) s h = λ e l.
      subst⁻¹ (Ahead k s e) (step_truth events In meet top e)
      (below_the_top s h e l, up_to_truth k (m.next s e) (runs.next_in s h e l))

  pub up_to_transition :
      (k : ℕ) (s : S) (a : ℕ) (φ : Formula B) → State s → UpTo k (m.next s a) φ → UpTo (suc k) s (transition a φ)
  up_to_transition k s a φ h u = λ e l.
      subst⁻¹ (Ahead k s e) (step_transition events In meet top e a φ) (below_the_top s h e l, go e l (eqb a e) refl)
    where
      go : (e : ℕ) → e < events → (b : Bool) → eqb a e ≡ b → UpTo k (m.next s e) (cond b φ truth)
      go e l true q = subst (λ x. UpTo k (m.next s x) φ) (eqb-true a e q) u
      go e l false q = up_to_truth k (m.next s e) (runs.next_in s h e l)

  pub transition_up_to :
      (k : ℕ) (s : S) (a : ℕ) (φ : Formula B) → a < events → UpTo (suc k) s (transition a φ) → UpTo k (m.next s a) φ
  transition_up_to k s a φ l u =
      subst (λ b. UpTo k (m.next s a) (cond b φ truth)) (eq-eqb a a refl)
      (subst (Ahead k s a) (step_transition events In meet top a a φ) (u a l)).1

  pub up_to_output :
      (k : ℕ) (s : S) (a : ℕ) (b : B) → State s → AtOrBelow meet (m.value s a) b → UpTo k s (output a b)
  up_to_output zero s a b h u = tt
  up_to_output (suc k) s a b h u = λ e l.
      subst⁻¹ (Ahead k s e) (step_output events In meet top e a b)
      (go e l (eqb a e) refl, up_to_truth k (m.next s e) (runs.next_in s h e l))
    where
      go : (e : ℕ) → e < events → (t : Bool) → eqb a e ≡ t → AtOrBelow meet (m.value s e) (cond t b top)
      go e l true q = subst (λ x. AtOrBelow meet (m.value s x) b) (eqb-true a e q) u
      go e l false q = below_the_top s h e l

  pub output_up_to : (s : S) (a : ℕ) (b : B) → a < events → UpTo 1 s (output a b) → AtOrBelow meet (m.value s a) b
  output_up_to s a b l u =
      subst (λ t. AtOrBelow meet (m.value s a) (cond t b top)) (eq-eqb a a refl)
      (subst (Ahead zero s a) (step_output events In meet top a a b) (u a l)).0

  pub up_to_conjunction :
      (k : ℕ) (s : S) (φ χ : Formula B) → State s → WellFormed events In φ → WellFormed events In χ →
      UpTo k s φ → UpTo k s χ → UpTo k s (conjunction φ χ)
  up_to_conjunction zero s φ χ h gφ gχ hφ hχ = tt
  up_to_conjunction (suc k) s φ χ h gφ gχ hφ hχ = λ e l.
      subst⁻¹ (Ahead k s e) (step_conjunction events In meet top e φ χ gφ gχ) (
        below_meet In meet top L (m.value s e) (value meet top e φ) (value meet top e χ)
            (runs.value_in s h e l) (value_in events In meet top L e φ gφ) (value_in events In meet top L e χ gχ)
            (hφ e l).0 (hχ e l).0,
        up_to_conjunction k (m.next s e) (follower meet top e φ) (follower meet top e χ) (runs.next_in s h e l)
            (follower_well_formed events In meet top e φ gφ) (follower_well_formed events In meet top e χ gχ)
            (hφ e l).1 (hχ e l).1,
      )

  pub conjunction_up_to :
      (k : ℕ) (s : S) (φ χ : Formula B) → State s → WellFormed events In φ → WellFormed events In χ →
      UpTo k s (conjunction φ χ) → UpTo k s φ × UpTo k s χ
  conjunction_up_to zero s φ χ h gφ gχ u = (tt, tt)
  conjunction_up_to (suc k) s φ χ h gφ gχ u =
      let first :
      (e : ℕ) → e < events →
      Ahead k s e (meet (value meet top e φ) (value meet top e χ), conjunction (follower meet top e φ) (follower meet top e χ))
      = λ e l. subst (Ahead k s e) (step_conjunction events In meet top e φ χ gφ gχ) (u e l) in
      let values :
      (e : ℕ) → e < events →
      AtOrBelow meet (m.value s e) (value meet top e φ) × AtOrBelow meet (m.value s e) (value meet top e χ)
      = λ e l. (below_meet_iff In meet top L (m.value s e) (value meet top e φ) (value meet top e χ)
      (runs.value_in s h e l) (value_in events In meet top L e φ gφ) (value_in events In meet top L e χ gχ)).0 (first e l).0 in
      let rest :
      (e : ℕ) → e < events → UpTo k (m.next s e) (follower meet top e φ) × UpTo k (m.next s e) (follower meet top e χ)
      = λ e l. conjunction_up_to k (m.next s e) (follower meet top e φ) (follower meet top e χ) (runs.next_in s h e l)
      (follower_well_formed events In meet top e φ gφ) (follower_well_formed events In meet top e χ gχ) (first e l).1 in
      ((λ e l. ((values e l).0, (rest e l).0)), λ e l. ((values e l).1, (rest e l).1))

  pub up_to_greatest :
      (k : ℕ) (s : S) (φ : Formula B) → WellFormed events In (greatest φ) → UpTo k s (unfolded φ) → UpTo k s (greatest φ)
  up_to_greatest zero s φ g u = tt
  up_to_greatest (suc k) s φ g u = λ e l. subst⁻¹ (Ahead k s e) (step_greatest events In meet top e φ g) (u e l)

  pub greatest_up_to :
      (k : ℕ) (s : S) (φ : Formula B) → WellFormed events In (greatest φ) → UpTo k s (greatest φ) → UpTo k s (unfolded φ)
  greatest_up_to zero s φ g u = tt
  greatest_up_to (suc k) s φ g u = λ e l. subst (Ahead k s e) (step_greatest events In meet top e φ g) (u e l)

  pub up_to_less : (k : ℕ) (s : S) (φ : Formula B) → UpTo (suc k) s φ → UpTo k s φ
  up_to_less zero s φ u = tt
  up_to_less (suc k) s φ u = λ e l. ((u e l).0, up_to_less k (m.next s e) (follower meet top e φ) (u e l).1)
