use Rattle.text_output.proofs.Outputs.{puts_as, puts_then}
use Rattle.table_rows.proofs.Texts.{row_parts}
use Rattle.table_rows.proofs.put_row.Goals as goal

pub returns : goal.returns
returns c =
    let e = c.args.entry in
    puts_as (row_parts c.args.kind e.state e.event e.value e.next)
    (puts_then c.put_field-a.ensures (puts_then c.put_field-b.ensures (puts_then c.put_value-c.ensures c.put_line.ensures)))
