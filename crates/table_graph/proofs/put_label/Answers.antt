use Rattle.text_output.proofs.Outputs.{puts_as}
use Rattle.table_graph.proofs.Graphs.{label_open, label_value}
use Rattle.table_graph.proofs.put_label.Goals as goal

pub returns-then-value-top : goal.returns-then-value-top
returns-then-value-top c =
    puts_as (label_open c.args.kind c.args.top c.args.value c.if-value-top.true) c.put_word.ensures

pub returns-else-value-top : goal.returns-else-value-top
returns-else-value-top c =
    puts_as (label_value c.args.kind c.args.top c.args.value c.if-value-top.false) c.put_value.ensures
