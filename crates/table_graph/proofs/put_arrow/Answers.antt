use Rattle.text_output.proofs.Outputs.{puts_as, puts_then}
use Rattle.table_graph.proofs.Graphs.{arrow_parts}
use Rattle.table_graph.proofs.put_arrow.Goals as goal

pub returns : goal.returns
returns c =
    let e = c.args.entry in
    puts_as (arrow_parts c.args.kind c.args.top e.state e.event e.value e.next)
    (puts_then c.put_field-a.ensures (puts_then c.put_field-b.ensures
    (puts_then c.put_field-c.ensures (puts_then c.put_label-d.ensures c.put_word.ensures))))
