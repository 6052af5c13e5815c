-- `open_row` meets its contract. The loop's invariant: the entries of the events passed are top.
use mathlib.Core.Path.{◌≡◌, refl, subst}
use Prim.Native.Nat.{ℕ}
use native.Mathlib.Omega.{arith}
use Rattle.synthesis.proofs.TableEntries.{row_none, row_more}
use Rattle.synthesis.specs.TableEntries.{RowTo}
use Rattle.synthesis.proofs.entries.open_row.Goals as goal

pub loop-event-init : goal.loop-event-init
loop-event-init c = row_none _ _ _ _

pub bounds-to-entry_at : goal.bounds-to-entry_at
bounds-to-entry_at c = omega (arith, c.entry_at.ensures, c.loop-event.invariant.sized, c.requires.2)

pub shape_of-to : goal.shape_of-to
shape_of-to c = c.loop-event.invariant.sized

pub loop-event-preserved : goal.loop-event-preserved
loop-event-preserved c =
    row_more _ c.args.events c.args.state c.loop-event.event _ _ _ _ c.loop-event-test.true c.entry_at.ensures
    (omega (arith, c.entry_at.ensures, c.loop-event.invariant.sized, c.requires.2)) refl c.loop-event.invariant

pub returns : goal.returns
returns c = let e : c.loop-event.event ≡ c.args.events = omega arith in
    subst (λ (m : ℕ). RowTo (λ x. c.args.top) c.args.events c.args.state m c.args.to.now c.loop-event.to) e c.loop-event.invariant
