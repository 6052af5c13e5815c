-- What the check of a set-up passes on and tells.
use mathlib.Core.{Bool.{true}, Path.{◌≡◌, sym, ◌∙◌, ap}, Option.{Option}, List.{List}}
use Rattle.std.specs.Prelude.{ℕ, Result, Ok, Err}
use Rattle.refusal.specs.{declared.Refusal.{Refusal}, Refusal.{refusal_of}, RefusalAnswers.{judgement, plain_unless}}
use Rattle.refusal.specs.declared.Refusal.TheVariants.{SetupValues, SetupMeet, SetupLines}
use Rattle.refusal.proofs.Refusals.{judgement_accepted, judgement_refused, or_else_none, plain_none}
use Rattle.values.specs.{Setup.{setup, register_setup}, SetupTests.{setup_refusal, kind_refusal, values_test, lines_test, meet_test}}

-- A refusal that is passed on is the one of the check.
pub refusal_passed : {A : Type 0} {r : Result A Refusal} {j : Result (Unit {0}) Refusal} {e : Refusal} (a : Option Refusal)
    → r ≡ Err e → j ≡ judgement a → j ≡ Err e → refusal_of r ≡ a
refusal_passed {e = e} a p q w = ap refusal_of p ∙ sym (judgement_refused a e (sym q ∙ w))

pub numbers_accepted : {j : Result (Unit {0}) Refusal} (events values top : ℕ) (meet : List ℕ) → j ≡ judgement (setup_refusal (setup events values top meet))
    → j ≡ Ok tt → values_test values top ≡ true
unfolding setup_refusal kind_refusal
numbers_accepted events values top meet q w =
    let later = (or_else_none _ _ (judgement_accepted _ (sym q ∙ w))).1 in
    plain_none (values_test values top) SetupValues (or_else_none _ (plain_unless (meet_test values top meet) SetupMeet) later).0

pub register_accepted : {j : Result (Unit {0}) Refusal} (events lines : ℕ) → j ≡ judgement (setup_refusal (register_setup events lines))
    → j ≡ Ok tt → lines_test lines ≡ true
unfolding setup_refusal kind_refusal
register_accepted events lines q w = plain_none (lines_test lines) SetupLines (or_else_none _ _ (judgement_accepted _ (sym q ∙ w))).1
