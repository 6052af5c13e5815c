-- The arrows are put as the contract says. The invariant: the arrows passed were put.
use Prim.Native.Nat.{ℕ, ◌*◌}
use mathlib.Core.Path.{◌≡◌, ap}
use native.Mathlib.Omega.{arith}
use Rattle.text_format.specs.Texts.{each}
use Rattle.text_output.proofs.Outputs.{puts_start, puts_then, puts_as, puts_each}
use Rattle.machines.specs.TableBytes.{machine_of}
use Rattle.table_rows.specs.declared.accepted.Entry.{Entry}
use Rattle.table_graph.specs.GraphText.{arrow_line, entry_arrow}
use Rattle.table_graph.proofs.Graphs.{graph_parts}
use Rattle.table_graph.proofs.DigraphText.put.Goals as goal

pub loop-i-init : goal.loop-i-init
loop-i-init c = puts_start c.put_word-at.ensures

pub loop-i-preserved : goal.loop-i-preserved
loop-i-preserved c =
    let t = c.args.self.now.0 in
    puts_each (entry_arrow t.kind t.events t.top (machine_of t.kind t.events t.table.entries.now)) c.loop-i.i
    (ap (λ (e : Entry). arrow_line t.kind t.top e.state e.event e.value e.next) c.entry.ensures) c.loop-i.invariant c.put_arrow-at.ensures

pub returns : goal.returns
returns c =
    let t = c.args.self.now.0 in
    let m = machine_of t.kind t.events t.table.entries.now in
    let e : c.loop-i.i ≡ t.table.states * t.events = omega (arith, c.loop-i-test.false, c.entries-i-end.ensures) in
    puts_as (graph_parts t.events t.kind t.table.states t.top m)
    (puts_then c.put_word-at.ensures
    (puts_then (puts_as (ap (λ (j : ℕ). each (entry_arrow t.kind t.events t.top m) j 0) e) c.loop-i.invariant) c.put_word.ensures))
