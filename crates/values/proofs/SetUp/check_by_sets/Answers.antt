-- `SetUp::check_by_sets` meets its contract: the refusal is passed on, or the values are made.
use mathlib.Core.Path.{sym, ◌∙◌}
use Rattle.refusal.proofs.{Answers.{passed_on}, Refusals.{judgement_accepted}}
use Rattle.values.proofs.HandedIn.{refusal_passed, numbers_accepted, register_accepted}
use Rattle.values.proofs.SetUp.check_by_sets.Goals as goal

pub returns-in_err-check_numbers_by_sets-in-Numbered-clause-judged : goal.returns-in_err-check_numbers_by_sets-in-Numbered-clause-judged
returns-in_err-check_numbers_by_sets-in-Numbered-clause-judged c = rw c.in-Numbered.is
    (refusal_passed _ (passed_on c.from_residual.result c.in_err-check_numbers_by_sets-in-Numbered.field-0.0 c.from_residual.ensures.1)
    c.check_numbers_by_sets.ensures c.in_err-check_numbers_by_sets-in-Numbered.was)

pub returns-in_err-check_register-in-Register-clause-judged : goal.returns-in_err-check_register-in-Register-clause-judged
returns-in_err-check_register-in-Register-clause-judged c = rw c.in-Register.is
    (refusal_passed _ (passed_on c.from_residual-in_err-check_register-in-Register.result c.in_err-check_register-in-Register.field-0.0
    c.from_residual-in_err-check_register-in-Register.ensures.1) c.check_register.ensures c.in_err-check_register-in-Register.was)

pub numbered-requires : goal.numbered-requires
numbered-requires c = numbers_accepted _ _ _ _ c.check_numbers_by_sets.ensures c.in_ok-check_numbers_by_sets-in-Numbered.was

pub registers-requires : goal.registers-requires
registers-requires c = register_accepted _ _ c.check_register.ensures c.in_ok-check_register-in-Register.was

pub returns-in_ok-check_numbers_by_sets-in-Numbered-clause-judged : goal.returns-in_ok-check_numbers_by_sets-in-Numbered-clause-judged
returns-in_ok-check_numbers_by_sets-in-Numbered-clause-judged c = rw c.in-Numbered.is
    (sym (judgement_accepted _ (sym c.check_numbers_by_sets.ensures ∙ c.in_ok-check_numbers_by_sets-in-Numbered.was)))

pub returns-in_ok-check_register-in-Register-clause-judged : goal.returns-in_ok-check_register-in-Register-clause-judged
returns-in_ok-check_register-in-Register-clause-judged c = rw c.in-Register.is
    (sym (judgement_accepted _ (sym c.check_register.ensures ∙ c.in_ok-check_register-in-Register.was)))
