-- `write_file` meets its contract: what 1 to 3 or 1 and 20, and 5 to 9 let through has a text within the limit, so only 13 is left.
use mathlib.Core.Path.{sym, ◌∙◌}
use native.Mathlib.Omega.{arith}
use Rattle.refusal.proofs.Answers.{passed_on}
use Rattle.channel_io.proofs.HandedIn.{few_events, rule_refused, passed_as}
use Rattle.channel_io.proofs.WriteAnswers.{small_numbers, writes_contents}
use Rattle.channel_io.proofs.RegisterWrites.{small_numbers as small_register, writes_contents as writes_register}
use Rattle.channel_io.proofs.write_file.Goals as goal

pub returns-in_err-check : goal.returns-in_err-check
returns-in_err-check c =
    rule_refused c.args.set_up c.args.rule.now c.args.to.now (passed_on c.from_residual.result c.in_err-check.field-0.0 c.from_residual.ensures.1)
    (sym c.check.ensures ∙ c.in_err-check.was)

pub overflow_cast-events : goal.overflow_cast-events
overflow_cast-events c = omega (arith, few_events c.args.set_up c.args.rule.now (sym c.check.ensures ∙ c.in_ok-check.was))

pub overflow_cast-values : goal.overflow_cast-values
overflow_cast-values c =
    let w = small_numbers _ _ _ _ _ (passed_as c.args.set_up c.args.rule.now c.in-Numbered.is (sym c.check.ensures ∙ c.in_ok-check.was)) in
    omega (arith, w.1)

pub overflow_cast-top : goal.overflow_cast-top
overflow_cast-top c =
    let w = small_numbers _ _ _ _ _ (passed_as c.args.set_up c.args.rule.now c.in-Numbered.is (sym c.check.ensures ∙ c.in_ok-check.was)) in
    omega (arith, w.1, w.2)

pub overflow_cast-lines : goal.overflow_cast-lines
overflow_cast-lines c =
    let w = small_register _ _ _ (passed_as c.args.set_up c.args.rule.now c.in-Register.is (sym c.check.ensures ∙ c.in_ok-check.was)) in
    omega (arith, w.1)

pub returns-in-Numbered : goal.returns-in-Numbered
returns-in-Numbered c =
    rw c.in-Numbered.is (writes_contents _ _ _ _ _ c.args.to.now _ _
    (passed_as c.args.set_up c.args.rule.now c.in-Numbered.is (sym c.check.ensures ∙ c.in_ok-check.was)) c.write_text.ensures)

pub returns-in-Register : goal.returns-in-Register
returns-in-Register c =
    rw c.in-Register.is (writes_register _ _ _ c.args.to.now _ _
    (passed_as c.args.set_up c.args.rule.now c.in-Register.is (sym c.check.ensures ∙ c.in_ok-check.was)) c.write_text-in-Register.ensures)
