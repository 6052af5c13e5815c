-- `values::lawful_by_sets` meets its contract: each answer is how far the test of the table gets.
use mathlib.Core.Path.{sym, ◌∙◌}
use native.Mathlib.Omega.{arith}
use Rattle.theory.proofs.ValueSets.{and_passed, and_failed}
use Rattle.values.proofs.Setups.{values_small, top_below, square_small, meet_test_length}
use Rattle.values.proofs.DownSets.{meet_test_sets}
use Rattle.values.proofs.lawful_by_sets.Goals as goal

pub overflow_mul-values : goal.overflow_mul-values
overflow_mul-values c = omega (arith, square_small (values_small _ _ c.requires))

pub returns-then-meet-values : goal.returns-then-meet-values
returns-then-meet-values c = sym (meet_test_length _ _ _ c.if-meet-values.true)

pub returns-then-not-is_idempotent : goal.returns-then-not-is_idempotent
returns-then-not-is_idempotent c = sym
    (meet_test_sets _ _ _ c.requires c.if-meet-values.false
    ∙ and_failed _ (sym c.is_idempotent.ensures ∙ c.if-not-is_idempotent.true))

pub returns-then-not-has_lawful_pairs : goal.returns-then-not-has_lawful_pairs
returns-then-not-has_lawful_pairs c = sym
    (meet_test_sets _ _ _ c.requires c.if-meet-values.false
    ∙ and_passed (sym c.is_idempotent.ensures ∙ c.if-not-is_idempotent.false)
    ∙ and_failed _ (sym c.has_lawful_pairs.ensures ∙ c.if-not-has_lawful_pairs.true))

pub returns : goal.returns
returns c = c.has_top.ensures
    ∙ sym
    (meet_test_sets _ _ _ c.requires c.if-meet-values.false
    ∙ and_passed (sym c.is_idempotent.ensures ∙ c.if-not-is_idempotent.false)
    ∙ and_passed (sym c.has_lawful_pairs.ensures ∙ c.if-not-has_lawful_pairs.false))

pub invariant_of-table : goal.invariant_of-table
invariant_of-table c = record { small = values_small _ _ c.requires; whole = c.if-meet-values.false }

pub has_top-requires : goal.has_top-requires
has_top-requires c = top_below _ _ c.requires
