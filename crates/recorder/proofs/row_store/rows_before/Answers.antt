-- `recorder::row_store::rows_before` meets its contract: the loop's invariant: the counts before i are summed.
use mathlib.Core.Path.{◌≡◌, sym, ◌∙◌, ap, ap₂}
use Prim.Native.Nat.{◌+◌}
use native.Mathlib.{Numerals.{add-one}, Omega.{arith}}
use borrow.Author.Rules.{rules}
use Rattle.recorder.specs.Splicing.{rows_before}
use Rattle.recorder.proofs.RowTotals.{before_none, before_next}
use Rattle.recorder.proofs.row_store.rows_before.Goals as goal

pub loop-i-init : goal.loop-i-init
loop-i-init c = (search rules, sym (before_none c.args.states.now), search rules)

pub loop-i-preserved : goal.loop-i-preserved
loop-i-preserved c = (
  search rules,
  ap₂ ◌+◌ c.loop-i.invariant.1 c.from-rows.ensures ∙ sym (before_next c.args.states.now c.loop-i.i) ∙ ap (rows_before c.args.states.now)
      (sym (add-one c.loop-i.i)),
  omega (arith, c.loop-i.invariant.2),
)

pub returns : goal.returns
returns c =
    let e : c.loop-i.i ≡ c.args.count = omega arith in
    (rw e at c.loop-i.invariant.1, rw e at c.loop-i.invariant.2)
