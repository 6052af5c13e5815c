-- The printed semantics and the computed value and follower are the same, on events and on event sequences.
use mathlib.Core.{Path.{◌≡◌, refl, sym, ◌∙◌, ap, ap₂, subst, subst⁻¹}, Bool.{Bool, true, false, cond}, List.{List, [], ◌∷◌}}
use Prim.Native.Nat.{ℕ, zero, suc, ◌<◌}
use native.Mathlib.{Nat.{not-suc-le-zero}, Omega.{arith}}
use lib.Dec.{eqb}
use borrow.Author.Tests.{eqb-true, eqb-false, eq-eqb, ne_eqb}
use Rattle.theory.specs.Formula.{Formula, truth, variable, transition, output, conjunction, greatest, unfolded}
use Rattle.theory.specs.FormulaClasses.{WellFormed}
use Rattle.theory.specs.Formula.{Steps, of_truth, of_other_transition, of_other_output, of_conjunction, Answers}
use Rattle.theory.specs.Formula.{of_transition, of_output, of_greatest, now, later}
use Rattle.theory.specs.MealyMachine.{after}
use Rattle.theory.specs.Evaluation.{unguarded_depth, step_in, step, value, follower, formulas}
use Rattle.theory.specs.Claims.{SemanticsClaim, AnswersClaim, ConjunctionClaim}
use Rattle.theory.proofs.Equations.{well_formed_unfolded, well_formed_left, well_formed_right, well_formed_conjunction, depth_unfolded, step_truth}
use Rattle.theory.proofs.Equations.{step_transition, step_output, step_conjunction, step_greatest, follower_well_formed, conjunction_values}

module _ {B : Type 0} (In : B → Type 0) (meet : B → B → B) (top : B) (events : ℕ) where
  abbrev Good : Formula B → Type 0
  Good φ = WellFormed events In φ

  transition_steps :
      (e a : ℕ) (φ : Formula B) (t : Bool) → eqb a e ≡ t → Steps meet top e (transition a φ) top (cond t φ truth)
  transition_steps e a φ true h =
      subst (λ x. Steps meet top e (transition x φ) top φ) (sym (eqb-true a e h)) of_transition
  transition_steps e a φ false h = of_other_transition (eqb-false a e h)

  output_steps :
      (e a : ℕ) (b : B) (t : Bool) → eqb a e ≡ t → Steps meet top e (output a b) (cond t b top) truth
  output_steps e a b true h =
      subst (λ x. Steps meet top e (output x b) b truth) (sym (eqb-true a e h)) of_output
  output_steps e a b false h = of_other_output (eqb-false a e h)

  steps_in :
      (e k : ℕ) (φ : Formula B) → Good φ → unguarded_depth φ < k →
      Steps meet top e φ (step_in meet top k e φ).0 (step_in meet top k e φ).1
  steps_in e zero φ g h = absurd (not-suc-le-zero h)
  steps_in e (suc k) truth g h = of_truth
  steps_in e (suc k) (variable n) g h = absurd (not-suc-le-zero g.closed)
  steps_in e (suc k) (transition a φ) g h = transition_steps e a φ (eqb a e) refl
  steps_in e (suc k) (output a b) g h = output_steps e a b (eqb a e) refl
  steps_in e (suc k) (conjunction φ χ) g h =
      of_conjunction (steps_in e k φ (well_formed_left events In φ χ g) (omega arith))
      (steps_in e k χ (well_formed_right events In φ χ g) (omega arith))
  steps_in e (suc k) (greatest φ) g h =
      of_greatest
      (steps_in e k (unfolded φ) (well_formed_unfolded events In φ g) (omega (arith, depth_unfolded events In φ g)))

  -- The computed pair is a step.
  pub steps : (e : ℕ) (φ : Formula B) → Good φ → Steps meet top e φ (value meet top e φ) (follower meet top e φ)
  unfolding step
  steps e φ g = steps_in e (suc (unguarded_depth φ)) φ g (omega arith)

  -- And each step is the computed pair.
  pub only_step : (e : ℕ) (φ : Formula B) (b : B) (ψ : Formula B) → Good φ → Steps meet top e φ b ψ → (b, ψ) ≡ step meet top e φ
  only_step e truth b ψ g of_truth = sym (step_truth events In meet top e)
  only_step e (variable n) b ψ g d = elim d [ ]
  only_step e (transition a φ) b ψ g of_transition =
      sym (step_transition events In meet top e e φ ∙ ap (λ t. (top, cond t φ truth)) (eq-eqb e e refl))
  only_step e (transition a φ) b ψ g (of_other_transition h) =
      sym (step_transition events In meet top e a φ ∙ ap (λ t. (top, cond t φ truth)) (ne_eqb a e h))
  only_step e (output a v) b ψ g of_output =
      sym (step_output events In meet top e e v ∙ ap (λ t. (cond t v top, truth)) (eq-eqb e e refl))
  only_step e (output a v) b ψ g (of_other_output h) =
      sym (step_output events In meet top e a v ∙ ap (λ t. (cond t v top, truth)) (ne_eqb a e h))
  only_step e (conjunction φ χ) b ψ g (of_conjunction {φ' = φ'} {χ' = χ'} {b = x} {c = y} d f) =
      let gl : Good φ = well_formed_left events In φ χ g in
      let gr : Good χ = well_formed_right events In φ χ g in
      ap₂ (λ p q. (meet p.0 q.0, conjunction p.1 q.1)) (only_step e φ x φ' gl d) (only_step e χ y χ' gr f)
      ∙ sym (step_conjunction events In meet top e φ χ gl gr)
  only_step e (greatest φ) b ψ g (of_greatest d) =
      only_step e (unfolded φ) b ψ (well_formed_unfolded events In φ g) d ∙ sym (step_greatest events In meet top e φ g)

  pub semantics_claim : SemanticsClaim In meet top events
  semantics_claim φ g e = (
    steps e φ g,
    follower_well_formed events In meet top e φ g,
    λ b ψ d. (ap (λ x. x.0) (only_step e φ b ψ g d), ap (λ x. x.1) (only_step e φ b ψ g d)),
  )

  -- The computed value on an event sequence is the printed one, and the only one.
  pub answers :
      (φ : Formula B) → Good φ → (w : List ℕ) (e : ℕ) →
      Answers meet top φ w e (value meet top e (after (formulas meet top) φ w))
  answers φ g [] e = now (steps e φ g)
  answers φ g (a ∷ w) e =
      later (steps a φ g) (answers (follower meet top a φ) (follower_well_formed events In meet top a φ g) w e)

  pub only_answer :
      (φ : Formula B) → Good φ → (w : List ℕ) (e : ℕ) (b : B) → Answers meet top φ w e b →
      b ≡ value meet top e (after (formulas meet top) φ w)
  only_answer φ g [] e b (now {φ' = φ'} d) = ap (λ x. x.0) (only_step e φ b φ' g d)
  only_answer φ g (a ∷ w) e b (later {φ' = φ'} {c = c} d f) =
      let p : (c, φ') ≡ step meet top a φ = only_step a φ c φ' g d in
      only_answer (follower meet top a φ) (follower_well_formed events In meet top a φ g) w e b
      (subst (λ x. Answers meet top x.1 w e b) p f)

  pub answers_claim : AnswersClaim In meet top events
  answers_claim φ g w e b = (
    only_answer φ g w e b,
    λ p. subst⁻¹ (Answers meet top φ w e) p (answers φ g w e),
  )

  pub conjunction_claim : ConjunctionClaim In meet top events
  conjunction_claim φ χ gφ gχ w e b c hb hc =
      subst⁻¹ (Answers meet top (conjunction φ χ) w e)
      (ap₂ meet (only_answer φ gφ w e b hb) (only_answer χ gχ w e c hc)
      ∙ sym (conjunction_values events In meet top w e φ χ gφ gχ))
      (answers (conjunction φ χ) (well_formed_conjunction events In φ χ gφ gχ) w e)
