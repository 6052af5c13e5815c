-- `recorder::row_store::copy_column` meets its contract: the loop's invariant: the first i entries are copied.
use mathlib.Core.Path.{◌≡◌, sym}
use Prim.Native.Nat.{◌*◌, ◌≤◌}
use native.Mathlib.{Nat.{mul-le-mul}, Numerals.{add-one}, Omega.{arith}}
use borrow.Author.Rules.{rules}
use lib.Seq.{paste-zero, paste-suc}
use Rattle.recorder.specs.Splicing.{column}
use Rattle.recorder.proofs.Copies.{column_length, column_at, entry_inside}
use Rattle.recorder.proofs.row_store.copy_column.Goals as goal

pub loop-i-init : goal.loop-i-init
loop-i-init c = (search rules, paste-zero c.args.store.now c.args.at (column c.args.width c.args.which c.args.table.now c.args.count))

pub overflow_mul-store : goal.overflow_mul-store
overflow_mul-store c =
    let q : c.loop-i.i ≤ 8192 = omega arith in
    let h : c.loop-i.i * c.args.width ≤ 8192 * 5 = mul-le-mul q c.requires.2 in
    omega arith

pub overflow_add-store : goal.overflow_add-store
overflow_add-store c =
    let q : c.loop-i.i ≤ 8192 = omega arith in
    let h : c.loop-i.i * c.args.width ≤ 8192 * 5 = mul-le-mul q c.requires.2 in
    omega arith

pub bounds-table-i : goal.bounds-table-i
bounds-table-i c =
    entry_inside c.args.width c.args.which c.args.count c.loop-i.i _ (omega arith) c.requires.1 c.requires.3

pub loop-i-preserved : goal.loop-i-preserved
loop-i-preserved c =
    let new = column c.args.width c.args.which c.args.table.now c.args.count in (
      search rules,
      rw (c.loop-i.invariant.1, add-one c.loop-i.i, sym (column_at c.args.width c.args.which c.args.table.now c.args.count c.loop-i.i (search rules)))
          (paste-suc c.args.store.now c.args.at new c.loop-i.i 0 (search rules)
          (omega (arith, column_length c.args.width c.args.which c.args.table.now c.args.count))),
    )

pub returns : goal.returns
returns c =
    let e : c.loop-i.i ≡ c.args.count = omega arith in
    rw e at c.loop-i.invariant.1
