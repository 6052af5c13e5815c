-- The rows are put as the contract says. The invariant: the rows passed were put.
use Prim.Native.Nat.{ℕ, ◌*◌}
use mathlib.Core.Path.{◌≡◌, ap}
use native.Mathlib.Omega.{arith}
use Rattle.text_format.specs.Texts.{each}
use Rattle.text_output.proofs.Outputs.{puts_start, puts_then, puts_as, puts_each}
use Rattle.machines.specs.TableBytes.{machine_of}
use Rattle.table_rows.specs.{TableText.{row_line, entry_line}, declared.accepted.Entry.{Entry}}
use Rattle.table_rows.proofs.Texts.{table_parts}
use Rattle.table_rows.proofs.PrintedRowsText.put.Goals as goal

pub loop-i-init : goal.loop-i-init
loop-i-init c = puts_start c.put_line-at.ensures

pub loop-i-preserved : goal.loop-i-preserved
loop-i-preserved c =
    let t = c.args.self.now.0 in
    puts_each (entry_line t.kind t.events (machine_of t.kind t.events t.table.entries.now)) c.loop-i.i
    (ap (λ (e : Entry). row_line t.kind e.state e.event e.value e.next) c.entry.ensures) c.loop-i.invariant c.put_row-at.ensures

pub returns : goal.returns
returns c =
    let t = c.args.self.now.0 in
    let m = machine_of t.kind t.events t.table.entries.now in
    let e : c.loop-i.i ≡ t.table.states * t.events = omega (arith, c.loop-i-test.false, c.entries-i-end.ensures) in
    puts_as (table_parts t.events t.kind t.table.states m)
    (puts_then c.put_line-a.ensures (puts_then c.put_line-at.ensures
    (puts_as (ap (λ (j : ℕ). each (entry_line t.kind t.events m) j 0) e) c.loop-i.invariant)))
