-- Twin of Formula, pinned by theory AnswersClaim.
-- Value and follower computed: the computing twin of `Semantics`.
use Rattle.std.specs.Prelude.{cond, ℕ, zero, suc, max, eqb}
use Rattle.theory.specs.Formula.{Formula, truth, variable, transition, output, conjunction, greatest, unfolded}
use Rattle.theory.specs.MealyMachine.{Machine}

module _ {B : Type 0} where
  -- The measure N of source 000, section 3: it does not grow when a guarded binder is unfolded.
  abbrev pub unguarded_depth : Formula B → ℕ
  unguarded_depth truth = zero
  unguarded_depth (variable n) = zero
  unguarded_depth (transition e φ) = zero
  unguarded_depth (output e b) = zero
  unguarded_depth (conjunction φ χ) = suc (max (unguarded_depth φ) (unguarded_depth χ))
  unguarded_depth (greatest φ) = suc (unguarded_depth φ)

  module _ (meet : B → B → B) (top : B) where
    -- The equations on event e, with f for value and follower of what has a smaller measure. No closed formula is a variable.
    abbrev pub step_by : (Formula B → B × Formula B) → ℕ → Formula B → B × Formula B
    step_by f e truth = (top, truth)
    step_by f e (variable n) = (top, truth)
    step_by f e (transition a φ) = (top, cond (eqb a e) φ truth)
    step_by f e (output a b) = (cond (eqb a e) b top, truth)
    step_by f e (conjunction φ χ) = (meet (f φ).0 (f χ).0, conjunction (f φ).1 (f χ).1)
    step_by f e (greatest φ) = f (unfolded φ)

    abbrev pub step_in : ℕ → ℕ → Formula B → B × Formula B
    step_in zero e φ = (top, truth)
    step_in (suc k) e φ = step_by (step_in k e) e φ

    -- Value and follower of a closed guarded formula on event e.
    unfoldable pub step : ℕ → Formula B → B × Formula B
    step e φ = step_in (suc (unguarded_depth φ)) e φ

    abbrev pub value : ℕ → Formula B → B
    value e φ = (step e φ).0

    abbrev pub follower : ℕ → Formula B → Formula B
    follower e φ = (step e φ).1

    -- The machine whose states are formulas (source 000, section 3).
    abbrev pub formulas : Machine (Formula B) B
    formulas = record { value = λ φ e. value e φ; next = λ φ e. follower e φ }
