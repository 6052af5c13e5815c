-- `values::check_numbers_by_sets` meets its contract: each answer is the judgement at the first test that fails.
use mathlib.Core.Path.{sym, ◌∙◌}
use Rattle.values.proofs.Setups.{judged_events, judged_values, judged_meet, judged_accepted}
use Rattle.values.proofs.check_numbers_by_sets.Goals as goal

pub returns-then-not-events_in_limits : goal.returns-then-not-events_in_limits
returns-then-not-events_in_limits c = sym (judged_events _ _ _ _ (sym c.events_in_limits.ensures ∙ c.if-not-events_in_limits.true))

pub returns-then-not-values_in_limits : goal.returns-then-not-values_in_limits
returns-then-not-values_in_limits c = sym
    (judged_values _ _ _ _ (sym c.events_in_limits.ensures ∙ c.if-not-events_in_limits.false)
    (sym c.values_in_limits.ensures ∙ c.if-not-values_in_limits.true))

pub lawful_by_sets-requires : goal.lawful_by_sets-requires
lawful_by_sets-requires c = sym c.values_in_limits.ensures ∙ c.if-not-values_in_limits.false

pub returns-then-not-lawful_by_sets : goal.returns-then-not-lawful_by_sets
returns-then-not-lawful_by_sets c = sym
    (judged_meet _ _ _ _ (sym c.events_in_limits.ensures ∙ c.if-not-events_in_limits.false)
    (sym c.values_in_limits.ensures ∙ c.if-not-values_in_limits.false) (sym c.lawful_by_sets.ensures ∙ c.if-not-lawful_by_sets.true))

pub returns-else-not-lawful_by_sets : goal.returns-else-not-lawful_by_sets
returns-else-not-lawful_by_sets c = sym
    (judged_accepted _ _ _ _ (sym c.events_in_limits.ensures ∙ c.if-not-events_in_limits.false)
    (sym c.values_in_limits.ensures ∙ c.if-not-values_in_limits.false) (sym c.lawful_by_sets.ensures ∙ c.if-not-lawful_by_sets.false))
