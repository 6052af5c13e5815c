-- `check_counts` meets its contract: each answer is that of the first test that fails.
use mathlib.Core.Path.{◌≡◌, refl, sym, ap, ◌∙◌}
use Prim.Native.Nat.{ℕ}
use native.Mathlib.Omega.{arith}
use Rattle.std.specs.Prelude.{min}
use Rattle.limits.specs.Limits.{line_limit}
use Rattle.theory.specs.ValueSets.{pack, top_masks}
use Rattle.values.specs.declared.ValueKind.TheVariants.{Register}
use Rattle.values.proofs.Setups.{values_small, top_below, lines_few}
use Rattle.table_rows.specs.Handed.{values_with}
use Rattle.table_rows.proofs.Renderings.{bad_events, bad_values, counts_none, bad_lines, lines_none, refused_as, accepted_as}
use Rattle.table_rows.proofs.check_counts.Goals as goal

pub returns-then-not-events_in_limits : goal.returns-then-not-events_in_limits
returns-then-not-events_in_limits c =
    refused_as _ (bad_events _ _ _ (sym c.events_in_limits.ensures ∙ c.if-not-events_in_limits.true))

pub returns-then-not-values_in_limits : goal.returns-then-not-values_in_limits
returns-then-not-values_in_limits c =
    rw c.in-Numbered.is
    (refused_as _ (bad_values _ _ _ (sym c.events_in_limits.ensures ∙ c.if-not-events_in_limits.false)
    (sym c.values_in_limits.ensures ∙ c.if-not-values_in_limits.true)))

pub overflow_cast-result : goal.overflow_cast-result
overflow_cast-result c = omega (arith, values_small _ _ (sym c.values_in_limits.ensures ∙ c.if-not-values_in_limits.false))

pub overflow_cast-result-in-Numbered : goal.overflow_cast-result-in-Numbered
overflow_cast-result-in-Numbered c =
    let passed = sym c.values_in_limits.ensures ∙ c.if-not-values_in_limits.false in
    omega (arith, values_small _ _ passed, top_below _ _ passed)

pub returns-then-not-lines_in_limits : goal.returns-then-not-lines_in_limits
returns-then-not-lines_in_limits c =
    rw c.in-Register.is
    (refused_as _ (bad_lines _ _ _ (sym c.events_in_limits.ensures ∙ c.if-not-events_in_limits.false)
    (sym c.lines_in_limits.ensures ∙ c.if-not-lines_in_limits.true)))

pub overflow_cast-result-in-Register : goal.overflow_cast-result-in-Register
overflow_cast-result-in-Register c = omega (arith, (lines_few _ (sym c.lines_in_limits.ensures ∙ c.if-not-lines_in_limits.false)).1)

pub returns-else-not-values_in_limits : goal.returns-else-not-values_in_limits
returns-else-not-values_in_limits c =
    rw c.in-Numbered.is
    (accepted_as (counts_none _ _ _ (sym c.events_in_limits.ensures ∙ c.if-not-events_in_limits.false)
    (sym c.values_in_limits.ensures ∙ c.if-not-values_in_limits.false)) refl)

-- The lines are at most 16, so top is that of all lines.
pub returns-else-not-lines_in_limits : goal.returns-else-not-lines_in_limits
returns-else-not-lines_in_limits c =
    let passed = sym c.lines_in_limits.ensures ∙ c.if-not-lines_in_limits.false in
    let lines = c.in-Register.lines in
    let all : min lines line_limit ≡ lines = omega (arith, (lines_few _ passed).1) in
    let top : pack (top_masks lines) ≡ c.register_top.result = sym (c.register_top.ensures ∙ ap (λ (n : ℕ). pack (top_masks n)) all) in
    rw c.in-Register.is
    (accepted_as (lines_none _ _ _ (sym c.events_in_limits.ensures ∙ c.if-not-events_in_limits.false) passed)
    (ap (λ (t : ℕ). values_with (Register lines) t) top))
