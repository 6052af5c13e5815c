-- The arrows are put as the contract says. The invariant: the arrows passed were put.
use Rattle.text_output.specs.Output.{Puts}
use Rattle.text_format.specs.Texts.{each}
use Rattle.machines.specs.TableBytes.{machine_of}
use Rattle.table_graph.specs.GraphText.{entry_arrow}
use Rattle.table_graph.proofs.DigraphText.put.Given as goal

abbrev pub invariant-loop-i : goal.invariant-loop-i
invariant-loop-i l =
    let t = l.accepted in
    Puts l.initial.out (each (entry_arrow t.kind t.events t.top (machine_of t.kind t.events t.table.entries.now)) l.i 0) l.out l.initial.at l.at
