-- `MeetTable::down_set` meets its contract. The loop's invariant: the set has the values before b.
use mathlib.Core.{Path.{sym, ◌∙◌, ap}}
use Prim.Native.Nat.{◌<◌, ◌+◌}
use native.Mathlib.Omega.{arith}
use borrow.Author.Tests.{eq-eqb, ne_eqb}
use Rattle.limits.specs.Limits.{value_limit}
use Rattle.values.proofs.DownSets.{mask_none, mask_done, mask_with, mask_without, mask_fits}
use Rattle.values.proofs.MeetTable.down_set.Goals as goal
use Rattle.values.proofs.MeetTable.down_set.Goals.{then-meet-b, else-meet-b}

pub loop-b-init : goal.loop-b-init
loop-b-init c = (omega arith, sym (mask_none _))

pub overflow_add-set : goal.overflow_add-set
overflow_add-set c =
    let small : c.loop-b.b < value_limit = omega (arith, c.args.self.small) in
    omega (arith, mask_fits _ _ c.loop-b.invariant.1 small)

pub overflow_add-set-then-meet-b : goal.overflow_add-set-then-meet-b
overflow_add-set-then-meet-b c =
    let small : c.loop-b.b < value_limit = omega (arith, c.args.self.small) in
    omega (arith, mask_fits _ _ c.loop-b.invariant.1 small)

pub returns : goal.returns
returns c = mask_done _ _ _ c.loop-b.invariant.0 c.loop-b-test.false c.loop-b.invariant.1

pub loop-b-preserved : goal.loop-b-preserved
loop-b-preserved c = (
  omega arith,
  elim c.if-meet-b.branch [
    | then-meet-b w ↦ w.set-is ∙ ap (λ x. x + x + 1) c.loop-b.invariant.1
        ∙ sym (mask_with _ _ (eq-eqb _ _ (sym c.meet.ensures ∙ w.if-meet-b.true)))
    | else-meet-b w ↦ w.set-is ∙ ap (λ x. x + x) c.loop-b.invariant.1
        ∙ sym (mask_without _ _ (ne_eqb _ _ (λ e. w.if-meet-b.false (c.meet.ensures ∙ e))))
  ],
)
