-- `values::check_register` meets its contract: each answer is the judgement at the first test that fails.
use mathlib.Core.Path.{sym, ◌∙◌}
use Rattle.values.proofs.Setups.{judged_register_events, judged_lines, judged_register}
use Rattle.values.proofs.check_register.Goals as goal

pub returns-then-not-events_in_limits : goal.returns-then-not-events_in_limits
returns-then-not-events_in_limits c = sym (judged_register_events _ _ (sym c.events_in_limits.ensures ∙ c.if-not-events_in_limits.true))

pub returns-then-not-lines_in_limits : goal.returns-then-not-lines_in_limits
returns-then-not-lines_in_limits c = sym
    (judged_lines _ _ (sym c.events_in_limits.ensures ∙ c.if-not-events_in_limits.false)
    (sym c.lines_in_limits.ensures ∙ c.if-not-lines_in_limits.true))

pub returns : goal.returns
returns c = sym
    (judged_register _ _ (sym c.events_in_limits.ensures ∙ c.if-not-events_in_limits.false)
    (sym c.lines_in_limits.ensures ∙ c.if-not-lines_in_limits.false))
