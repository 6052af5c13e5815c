-- `recorder::row_store::copy_masks` meets its contract: the loop's invariant: the values of the first i entries are copied.
use mathlib.Core.Path.{◌≡◌, sym}
use native.Mathlib.{Numerals.{add-one}, Omega.{arith}}
use borrow.Author.Rules.{rules}
use lib.Seq.{paste-zero, paste-suc}
use Rattle.recorder.specs.Splicing.{mask_column}
use Rattle.recorder.proofs.Copies.{masks_length, masks_at}
use Rattle.recorder.proofs.row_store.copy_masks.Goals as goal

pub loop-i-init : goal.loop-i-init
loop-i-init c = (search rules, paste-zero c.args.store.now c.args.at (mask_column c.args.table.now c.args.count))

pub loop-i-preserved : goal.loop-i-preserved
loop-i-preserved c =
    let new = mask_column c.args.table.now c.args.count in (
      search rules,
      rw (c.loop-i.invariant.1, add-one c.loop-i.i, c.value_at.ensures, sym (masks_at c.args.table.now c.args.count c.loop-i.i (search rules)))
          (paste-suc c.args.store.now c.args.at new c.loop-i.i 0 (search rules) (omega (arith, masks_length c.args.table.now c.args.count))),
    )

pub returns : goal.returns
returns c =
    let e : c.loop-i.i ≡ c.args.count = omega arith in
    rw e at c.loop-i.invariant.1
