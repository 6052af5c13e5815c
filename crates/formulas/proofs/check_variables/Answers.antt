-- `check_variables` meets its contract: 8's note is looked at first, then 23's, then 9's.
use Rattle.formulas.proofs.Answers.{kept_place, kept_clear, answer_unbound, answer_deep, answer_unprotected}
use Rattle.formulas.specs.NodeWalks.{Keeps, WalkJudged, VariablesJudged}
use Rattle.formulas.specs.RuleReading.{lowest_unbound, lowest_deep, lowest_unprotected}
use Rattle.limits.specs.Limits.{binder_limit}
use Rattle.refusal.specs.{RefusalAnswers.{at_found, judgement}, declared.Refusal.TheVariants.{UnprotectedVariable}}
use native.Mathlib.Omega.{arith}
use mathlib.Core.{Bool.{true, false}, Path.{◌≡◌, refl, sym, ◌∙◌, ap, subst}}
use Rattle.std.proofs.lemmas.Bool.{false≢true}
use Rattle.std.specs.Prelude.{ℕ, Option as StdOption, None, Some}
use Rattle.std.specs.Option.{is_some}
use Rattle.formulas.proofs.check_variables.Goals as goal

pub returns-in-Some : goal.returns-in-Some
unfolding VariablesJudged WalkJudged judgement
returns-in-Some c = λ value φ d e.
    sym (ap judgement (answer_unbound φ _ (kept_place _ _ (subst (Keeps (lowest_unbound 0 0 φ) None) c.in-Some.is
    (c.open_position.ensures.unbound value φ d (omega (arith, e))).1))))

-- Where 23 noted a place, it is one of a V.
some_place : (o : StdOption ℕ) → is_some o ≡ true → (p : ℕ) × (o ≡ Some p)
some_place None e = absurd (false≢true e)
some_place (Some p) e = (p, refl)

no_place : (o : StdOption ℕ) → is_some o ≡ false → o ≡ None
no_place None e = refl
no_place (Some p) e = absurd (false≢true (sym e))

pub returns-then-is_some : goal.returns-then-is_some
unfolding VariablesJudged WalkJudged judgement
returns-then-is_some c = λ value φ d e.
    let w = some_place _ (sym c.is_some.ensures ∙ c.if-is_some.true) in
    sym (ap judgement (answer_deep φ
    (kept_clear _ (subst (Keeps (lowest_unbound 0 0 φ) None) c.in_default.is (c.open_position.ensures.unbound value φ d (omega (arith, e))).1)) _
    (kept_place _ _ (subst (Keeps (lowest_deep binder_limit 0 0 φ) None) w.1 (c.open_position.ensures.deep value φ d (omega (arith, e))).1))))

pub returns-in-Some-unprotected : goal.returns-in-Some-unprotected
unfolding VariablesJudged WalkJudged judgement at_found
returns-in-Some-unprotected c = λ value φ d e.
    sym (ap judgement (answer_unprotected φ
    (kept_clear _ (subst (Keeps (lowest_unbound 0 0 φ) None) c.in_default.is (c.open_position.ensures.unbound value φ d (omega (arith, e))).1))
    (kept_clear _ (subst (Keeps (lowest_deep binder_limit 0 0 φ) None) (no_place _ (sym c.is_some.ensures ∙ c.if-is_some.false))
    (c.open_position.ensures.deep value φ d (omega (arith, e))).1))
    ∙ ap (λ o. at_found o UnprotectedVariable) (kept_place _ _ (subst (Keeps (lowest_unprotected 0 0 φ) None) c.in-Some-unprotected.is
    (c.open_position.ensures.unprotected value φ d (omega (arith, e))).1))))

pub returns : goal.returns
unfolding VariablesJudged WalkJudged judgement at_found
returns c = λ value φ d e.
    sym (ap judgement (answer_unprotected φ
    (kept_clear _ (subst (Keeps (lowest_unbound 0 0 φ) None) c.in_default.is (c.open_position.ensures.unbound value φ d (omega (arith, e))).1))
    (kept_clear _ (subst (Keeps (lowest_deep binder_limit 0 0 φ) None) (no_place _ (sym c.is_some.ensures ∙ c.if-is_some.false))
    (c.open_position.ensures.deep value φ d (omega (arith, e))).1))
    ∙ ap (λ o. at_found o UnprotectedVariable) (kept_clear _ (subst (Keeps (lowest_unprotected 0 0 φ) None) c.in_default-unprotected.is
    (c.open_position.ensures.unprotected value φ d (omega (arith, e))).1))))
