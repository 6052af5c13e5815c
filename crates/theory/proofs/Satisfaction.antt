-- A state satisfies a formula by the set definition exactly if the formula simulates it: every machine, the wider guarded class.
use mathlib.Core.{Path.{◌≡◌, refl, subst, subst⁻¹}, Logic.{◌↔◌, ◌⊎◌, inl, inr}, List.{List, [], ◌∷◌}}
use Prim.Native.Nat.{ℕ, zero, suc, ◌<◌}
use native.Mathlib.Nat.{le_of_suc-le-suc, not-suc-le-zero}
use lib.ListN.{length}
use Rattle.theory.specs.ValueSets.{MeetSemilattice}
use Rattle.theory.specs.Formula.{Formula, truth, variable, transition, output, conjunction, greatest}
use Rattle.theory.specs.FormulaClasses.{FreeBelow, GuardedIn, Guarded, Fits, WellFormed}
use Rattle.theory.specs.MealyMachine.{Machine, Runs, extend, SatisfiesIn}
use Rattle.theory.specs.MachineRuns.{BelowOnWords}
use Rattle.theory.specs.Evaluation.{formulas}
use Rattle.theory.specs.Claims.{SatisfactionClaim}
use Rattle.theory.proofs.Instantiation.{instantiate, nth, instantiate_truth, instantiate_transition, instantiate_output, instantiate_conjunction}
use Rattle.theory.proofs.Instantiation.{instantiate_greatest, instantiate_variable, AllWellFormed, all_closed, well_formed_instantiate}
use Rattle.theory.proofs.{Equations.{follower_well_formed, value_in}, Simulation.{simulation_claim, up_to_iff}}
use Rattle.theory.proofs.SatisfactionUpTo.{UpTo, up_to_truth, up_to_transition, transition_up_to, up_to_output, output_up_to, up_to_conjunction}
use Rattle.theory.proofs.SatisfactionUpTo.{conjunction_up_to, up_to_greatest, greatest_up_to, up_to_less}

on_right : {P Q R : Type 0} → (Q → R) → P ⊎ Q → P ⊎ R
on_right f (inl u) = inl u
on_right f (inr c) = inr (f c)

module _ {B : Type 0} (events : ℕ) (In : B → Type 0) where
  -- What `instantiate` makes of a binder is well-formed.
  well_formed_greatest :
      (ρ : List (Formula B)) (φ : Formula B) → AllWellFormed events In ρ → FreeBelow (length ρ) (greatest φ) →
      Guarded (greatest φ) → Fits events In φ → WellFormed events In (greatest (instantiate 1 ρ φ))
  well_formed_greatest ρ φ g s w f =
      subst (WellFormed events In) (instantiate_greatest zero ρ φ) (well_formed_instantiate events In ρ (greatest φ) g s w f)

-- The machine of formulas runs on the well-formed ones.
pub formulas_run :
    {B : Type 0} (events : ℕ) (In : B → Type 0) (meet : B → B → B) (top : B) → MeetSemilattice In meet top →
    Runs events In (WellFormed events In) (formulas meet top)
formulas_run events In meet top L =
    record {
      value_in = λ φ g e l. value_in events In meet top L e φ g;
      next_in = λ φ g e l. follower_well_formed events In meet top e φ g;
    }

module _ {B S : Type 0} (events : ℕ) (In : B → Type 0) (meet : B → B → B) (top : B) (L : MeetSemilattice In meet top)
    (State : S → Type 0) (m : Machine S B) (runs : Runs events In State m) where
  abbrev At : ℕ → S → Formula B → Type 0
  At k s φ = UpTo events In meet top L State m runs k s φ

  abbrev Holds : (ℕ → S → Type 0) → Formula B → S → Type 1
  Holds η φ s = SatisfiesIn meet State m η φ s

  -- SATISFIED, SO SIMULATED. Up to k events, where the sets of the variables lie within what their formulas simulate up to k.
  abbrev Within : ℕ → List (Formula B) → (ℕ → S → Type 0) → Type 0
  Within k ρ η = (n : ℕ) → n < length ρ → (t : S) → State t → η n t → At k t (nth ρ n)

  abbrev Sound : ℕ → Type 1
  Sound k =
      (φ : Formula B) (ρ : List (Formula B)) (η : ℕ → S → Type 0) → AllWellFormed events In ρ → FreeBelow (length ρ) φ →
      Guarded φ → Fits events In φ → Within k ρ η → (s : S) → State s → Holds η φ s → At k s (instantiate zero ρ φ)

  -- A variable's set lies within at one event more, or the formula guards the variable.
  abbrev Ready : ℕ → Formula B → List (Formula B) → (ℕ → S → Type 0) → Type 0
  Ready k φ ρ η = (n : ℕ) → n < length ρ → ((t : S) → State t → η n t → At (suc k) t (nth ρ n)) ⊎ GuardedIn n φ

  sound_next :
      (k : ℕ) → Sound k →
      (φ : Formula B) (ρ : List (Formula B)) (η : ℕ → S → Type 0) → AllWellFormed events In ρ → FreeBelow (length ρ) φ →
      Guarded φ → Fits events In φ → Within k ρ η → Ready k φ ρ η → (s : S) → State s → Holds η φ s →
      At (suc k) s (instantiate zero ρ φ)
  sound_next k ih truth ρ η g sc w f h rd s hs v =
      subst⁻¹ (At (suc k) s) (instantiate_truth zero ρ) (up_to_truth events In meet top L State m runs (suc k) s hs)
  sound_next k ih (variable n) ρ η g sc w f h rd s hs v =
      subst⁻¹ (At (suc k) s) (instantiate_variable ρ n (all_closed events In ρ g) sc) (go (rd n sc))
    where
      go : ((t : S) → State t → η n t → At (suc k) t (nth ρ n)) ⊎ (¬ (n ≡ n)) → At (suc k) s (nth ρ n)
      go (inl u) = u s hs v.lower
      go (inr c) = absurd (c refl)
  sound_next k ih (transition a φ) ρ η g sc w f h rd s hs v =
      subst⁻¹ (At (suc k) s) (instantiate_transition zero ρ a φ)
      (up_to_transition events In meet top L State m runs k s a (instantiate zero ρ φ) hs
      (ih φ ρ η g sc w f.1 h (m.next s a) (runs.next_in s hs a f.0) v))
  sound_next k ih (output a b) ρ η g sc w f h rd s hs v =
      subst⁻¹ (At (suc k) s) (instantiate_output zero ρ a b)
      (up_to_output events In meet top L State m runs (suc k) s a b hs v.lower)
  sound_next k ih (conjunction φ χ) ρ η g sc w f h rd s hs v =
      subst⁻¹ (At (suc k) s) (instantiate_conjunction zero ρ φ χ)
      (up_to_conjunction events In meet top L State m runs (suc k) s (instantiate zero ρ φ) (instantiate zero ρ χ) hs
      (well_formed_instantiate events In ρ φ g sc.0 w.0 f.0)
      (well_formed_instantiate events In ρ χ g sc.1 w.1 f.1)
      (sound_next k ih φ ρ η g sc.0 w.0 f.0 h (λ n l. on_right (λ c. c.0) (rd n l)) s hs v.0)
      (sound_next k ih χ ρ η g sc.1 w.1 f.1 h (λ n l. on_right (λ c. c.1) (rd n l)) s hs v.1))
  sound_next k ih (greatest φ) ρ η g sc w f h rd s hs v =
      subst⁻¹ (At (suc k) s) (instantiate_greatest zero ρ φ)
      (up_to_greatest events In meet top L State m runs (suc k) s (instantiate 1 ρ φ) whole
      (sound_next k ih φ (greatest (instantiate 1 ρ φ) ∷ ρ) (extend v.0 η) (whole, g) sc w.1 f within ready s hs
      (v.2 s hs v.1)))
    where
      whole : WellFormed events In (greatest (instantiate 1 ρ φ))
      whole = well_formed_greatest events In ρ φ g sc w f

      within : Within k (greatest (instantiate 1 ρ φ) ∷ ρ) (extend v.0 η)
      within zero l t ht i = subst (At k t) (instantiate_greatest zero ρ φ) (ih (greatest φ) ρ η g sc w f h t ht (v.0, i, v.2))
      within (suc n) l t ht i = h n (le_of_suc-le-suc l) t ht i

      ready : Ready k φ (greatest (instantiate 1 ρ φ) ∷ ρ) (extend v.0 η)
      ready zero l = inr w.0
      ready (suc n) l = rd n (le_of_suc-le-suc l)

  sound : (k : ℕ) → Sound k
  sound zero φ ρ η g sc w f h s hs v = tt
  sound (suc k) φ ρ η g sc w f h s hs v =
      sound_next k (sound k) φ ρ η g sc w f
      (λ n l t ht i. up_to_less events In meet top L State m runs k t (nth ρ n) (h n l t ht i))
      (λ n l. inl (h n l)) s hs v

  -- SIMULATED, SO SATISFIED. The sets of the variables hold what their formulas simulate.
  abbrev Holding : List (Formula B) → (ℕ → S → Type 0) → Type 0
  Holding ρ η = (n : ℕ) → n < length ρ → (t : S) → State t → ((k : ℕ) → At k t (nth ρ n)) → η n t

  complete :
      (φ : Formula B) (ρ : List (Formula B)) (η : ℕ → S → Type 0) → AllWellFormed events In ρ → FreeBelow (length ρ) φ →
      Guarded φ → Fits events In φ → Holding ρ η → (s : S) → State s → ((k : ℕ) → At k s (instantiate zero ρ φ)) →
      Holds η φ s
  complete truth ρ η g sc w f h s hs u = tt
  complete (variable n) ρ η g sc w f h s hs u =
      record { lower = h n sc s hs (λ k. subst (At k s) (instantiate_variable ρ n (all_closed events In ρ g) sc) (u k)) }
  complete (transition a φ) ρ η g sc w f h s hs u =
      complete φ ρ η g sc w f.1 h (m.next s a) (runs.next_in s hs a f.0)
      (λ k. transition_up_to events In meet top L State m runs k s a (instantiate zero ρ φ) f.0
      (subst (At (suc k) s) (instantiate_transition zero ρ a φ) (u (suc k))))
  complete (output a b) ρ η g sc w f h s hs u =
      record {
        lower =
            output_up_to events In meet top L State m runs s a b f.0 (subst (At 1 s) (instantiate_output zero ρ a b) (u 1));
      }
  complete (conjunction φ χ) ρ η g sc w f h s hs u =
      let two : (k : ℕ) → At k s (instantiate zero ρ φ) × At k s (instantiate zero ρ χ)
      = λ k. conjunction_up_to events In meet top L State m runs k s (instantiate zero ρ φ) (instantiate zero ρ χ) hs
      (well_formed_instantiate events In ρ φ g sc.0 w.0 f.0)
      (well_formed_instantiate events In ρ χ g sc.1 w.1 f.1)
      (subst (At k s) (instantiate_conjunction zero ρ φ χ) (u k)) in (
        complete φ ρ η g sc.0 w.0 f.0 h s hs (λ k. (two k).0),
        complete χ ρ η g sc.1 w.1 f.1 h s hs (λ k. (two k).1),
      )
  complete (greatest φ) ρ η g sc w f h s hs u = (
    (λ t. (k : ℕ) → At k t (greatest (instantiate 1 ρ φ))),
    (λ k. subst (At k s) (instantiate_greatest zero ρ φ) (u k)),
    λ t ht i. complete φ (greatest (instantiate 1 ρ φ) ∷ ρ) (extend (λ x. (k : ℕ) → At k x (greatest (instantiate 1 ρ φ))) η)
        (whole, g) sc w.1 f holding t ht
        (λ k. greatest_up_to events In meet top L State m runs k t (instantiate 1 ρ φ) whole (i k)),
  )
    where
      whole : WellFormed events In (greatest (instantiate 1 ρ φ))
      whole = well_formed_greatest events In ρ φ g sc w f

      holding :
          Holding (greatest (instantiate 1 ρ φ) ∷ ρ) (extend (λ x. (k : ℕ) → At k x (greatest (instantiate 1 ρ φ))) η)
      holding zero l t ht i = i
      holding (suc n) l t ht i = h n (le_of_suc-le-suc l) t ht i

  -- With any valuation: a closed formula has no use for it.
  pub satisfies_iff :
      (φ : Formula B) → WellFormed events In φ → (η : ℕ → S → Type 0) (s : S) → State s →
      Holds η φ s ↔ BelowOnWords events meet m (formulas meet top) s φ
  satisfies_iff φ g η s hs = (
    (λ v. (up_to_iff events meet m (formulas meet top) s φ).0
        (λ k. sound k φ [] η tt g.closed g.guarded g.fits (λ n l. absurd (not-suc-le-zero l)) s hs v)),
    λ u. complete φ [] η tt g.closed g.guarded g.fits (λ n l. absurd (not-suc-le-zero l)) s hs
        ((up_to_iff events meet m (formulas meet top) s φ).1 u),
  )

module _ {B : Type 0} (In : B → Type 0) (meet : B → B → B) (top : B) (laws : MeetSemilattice In meet top) (events : ℕ) where
  pub satisfaction_claim : SatisfactionClaim In meet top laws events
  satisfaction_claim S State m runs φ g s hs =
      let e = satisfies_iff events In meet top laws State m runs φ g (λ n t. ⊥) s hs in
      let f = simulation_claim In meet top events S (Formula B) State m (WellFormed events In) (formulas meet top)
      runs (formulas_run events In meet top laws) s φ hs g in
      ((λ v. f.1 (e.0 v)), λ v. e.1 (f.0 v))
