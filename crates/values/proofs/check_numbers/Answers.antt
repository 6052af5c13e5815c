-- `values::check_numbers` meets its contract: each answer is the judgement at the first test that fails.
use mathlib.Core.Path.{sym, ◌∙◌}
use Rattle.values.proofs.Setups.{judged_events, judged_values, judged_meet, judged_accepted}
use Rattle.values.proofs.check_numbers.Goals as goal

pub returns-then-not-events_in_limits : goal.returns-then-not-events_in_limits
returns-then-not-events_in_limits c = sym (judged_events _ _ _ _ (sym c.events_in_limits.ensures ∙ c.if-not-events_in_limits.true))

pub returns-then-not-values_in_limits : goal.returns-then-not-values_in_limits
returns-then-not-values_in_limits c = sym
    (judged_values _ _ _ _ (sym c.events_in_limits.ensures ∙ c.if-not-events_in_limits.false)
    (sym c.values_in_limits.ensures ∙ c.if-not-values_in_limits.true))

pub lawful_meet-requires : goal.lawful_meet-requires
lawful_meet-requires c = sym c.values_in_limits.ensures ∙ c.if-not-values_in_limits.false

pub returns-then-not-lawful_meet : goal.returns-then-not-lawful_meet
returns-then-not-lawful_meet c = sym
    (judged_meet _ _ _ _ (sym c.events_in_limits.ensures ∙ c.if-not-events_in_limits.false)
    (sym c.values_in_limits.ensures ∙ c.if-not-values_in_limits.false) (sym c.lawful_meet.ensures ∙ c.if-not-lawful_meet.true))

pub returns : goal.returns
returns c = sym
    (judged_accepted _ _ _ _ (sym c.events_in_limits.ensures ∙ c.if-not-events_in_limits.false)
    (sym c.values_in_limits.ensures ∙ c.if-not-values_in_limits.false) (sym c.lawful_meet.ensures ∙ c.if-not-lawful_meet.false))
