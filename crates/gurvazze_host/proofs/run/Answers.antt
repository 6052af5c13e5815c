-- `run` meets its contract: the loop's invariant is `Ran`.
use native.Mathlib.Omega.{arith}
use Prim.Native.Nat.{ℕ, ◌+◌, ◌-◌, ◌*◌}
use mathlib.Core.Path.{◌≡◌, refl, ap, ◌∙◌}
use lib.ListN.{take, drop}
use Rattle.gurvazze_host.proofs.Runs.{begins, ends, entry_below, entry_within, turned}
use Rattle.gurvazze_host.proofs.run.Goals as goal

pub loop-i-init : goal.loop-i-init
loop-i-init g c = begins c.requires.runs

pub overflow_mul-at : goal.overflow_mul-at
overflow_mul-at g c =
    omega (arith, entry_below c.requires.runs c.loop-i.invariant c.loop-i-test.true c.requires.width refl)

pub overflow_add-at : goal.overflow_add-at
overflow_add-at g c = omega (arith, entry_below c.requires.runs c.loop-i.invariant c.loop-i-test.true c.requires.width c.from.ensures)

pub overflow_mul-at-in-loop-i : goal.overflow_mul-at-in-loop-i
overflow_mul-at-in-loop-i g c =
    omega (arith, c.ranges.table.0, entry_within c.requires.runs c.loop-i.invariant c.loop-i-test.true c.requires.width c.from.ensures)

pub overflow_add-at-in-loop-i-2 : goal.overflow_add-at-in-loop-i-2
overflow_add-at-in-loop-i-2 g c =
    omega (arith, c.ranges.table.0, entry_within c.requires.runs c.loop-i.invariant c.loop-i-test.true c.requires.width c.from.ensures)

pub slice_bounds-copy_from_slice-end-in-loop-i : goal.slice_bounds-copy_from_slice-end-in-loop-i
slice_bounds-copy_from_slice-end-in-loop-i g c =
    omega (arith, entry_within c.requires.runs c.loop-i.invariant c.loop-i-test.true c.requires.width c.from.ensures)

pub bounds-entries-at : goal.bounds-entries-at
bounds-entries-at g c = entry_within c.requires.runs c.loop-i.invariant c.loop-i-test.true c.requires.width c.from.ensures

pub loop-i-preserved : goal.loop-i-preserved
loop-i-preserved g c =
    let at = (c.loop-i.state * c.args.events + c.from.result) * (g.row.WIDTH + 1) in
    let size : at + g.row.WIDTH - at ≡ g.row.WIDTH = omega arith in
    turned c.requires.runs c.loop-i.invariant c.loop-i-test.true c.requires.width c.from.ensures (λ j. omega (arith, c.type_inv.entries j))
    (c.copy_from_slice.ensures.after ∙ ap (λ (k : ℕ). take k (drop at c.args.table.entries.now)) size) c.from-state.ensures

pub returns : goal.returns
returns g c = ends c.requires.runs c.loop-i.invariant c.loop-i-test.false
