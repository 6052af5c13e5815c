-- `values::lawful_meet` meets its contract: each answer is how far the test of the table gets.
use mathlib.Core.Path.{sym, ◌∙◌}
use native.Mathlib.Omega.{arith}
use Rattle.theory.proofs.ValueSets.{and_passed, and_failed}
use Rattle.values.proofs.Setups.{values_small, top_below, square_small, meet_test_length, meet_test_entries, meet_test_laws}
use Rattle.values.proofs.lawful_meet.Goals as goal

pub overflow_mul-values : goal.overflow_mul-values
overflow_mul-values c = omega (arith, square_small (values_small _ _ c.requires))

pub returns-then-meet-values : goal.returns-then-meet-values
returns-then-meet-values c = sym (meet_test_length _ _ _ c.if-meet-values.true)

pub returns-then-not-is_closed : goal.returns-then-not-is_closed
returns-then-not-is_closed c = sym (meet_test_entries _ _ _ c.if-meet-values.false (sym c.is_closed.ensures ∙ c.if-not-is_closed.true))

pub returns-then-not-is_idempotent : goal.returns-then-not-is_idempotent
returns-then-not-is_idempotent c = sym
    (meet_test_laws _ _ _ c.requires c.if-meet-values.false
    (sym c.is_closed.ensures ∙ c.if-not-is_closed.false)
    ∙ and_failed _ (sym c.is_idempotent.ensures ∙ c.if-not-is_idempotent.true))

pub returns-then-not-is_commutative : goal.returns-then-not-is_commutative
returns-then-not-is_commutative c = sym
    (meet_test_laws _ _ _ c.requires
    c.if-meet-values.false (sym c.is_closed.ensures ∙ c.if-not-is_closed.false)
    ∙ and_passed (sym c.is_idempotent.ensures ∙ c.if-not-is_idempotent.false)
    ∙ and_failed _ (sym c.is_commutative.ensures ∙ c.if-not-is_commutative.true))

pub returns-then-not-is_associative : goal.returns-then-not-is_associative
returns-then-not-is_associative c = sym
    (meet_test_laws _ _ _ c.requires
    c.if-meet-values.false
    (sym c.is_closed.ensures ∙ c.if-not-is_closed.false)
    ∙ and_passed (sym c.is_idempotent.ensures ∙ c.if-not-is_idempotent.false)
    ∙ and_passed (sym c.is_commutative.ensures ∙ c.if-not-is_commutative.false)
    ∙ and_failed _ (sym c.is_associative.ensures ∙ c.if-not-is_associative.true))

pub returns : goal.returns
returns c = c.has_top.ensures
    ∙ sym
    (meet_test_laws _ _ _ c.requires
    c.if-meet-values.false
    (sym c.is_closed.ensures ∙ c.if-not-is_closed.false)
    ∙ and_passed (sym c.is_idempotent.ensures ∙ c.if-not-is_idempotent.false)
    ∙ and_passed (sym c.is_commutative.ensures ∙ c.if-not-is_commutative.false)
    ∙ and_passed (sym c.is_associative.ensures ∙ c.if-not-is_associative.false))

pub invariant_of-table : goal.invariant_of-table
invariant_of-table c = record { small = values_small _ _ c.requires; whole = c.if-meet-values.false }

pub is_associative-requires : goal.is_associative-requires
is_associative-requires c = sym c.is_closed.ensures ∙ c.if-not-is_closed.false

pub has_top-requires : goal.has_top-requires
has_top-requires c = top_below _ _ c.requires
