-- The rows are put as the contract says. The invariant: the rows passed were put.
use Rattle.text_output.specs.Output.{Puts}
use Rattle.text_format.specs.Texts.{each}
use Rattle.machines.specs.TableBytes.{machine_of}
use Rattle.table_rows.specs.TableText.{entry_line}
use Rattle.table_rows.proofs.PrintedRowsText.put.Given as goal

abbrev pub invariant-loop-i : goal.invariant-loop-i
invariant-loop-i l =
    let t = l.accepted in
    Puts l.initial.out (each (entry_line t.kind t.events (machine_of t.kind t.events t.table.entries.now)) l.i 0) l.out l.initial.at l.at
