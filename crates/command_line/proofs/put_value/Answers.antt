use Rattle.text_output.proofs.Outputs.{puts_then}
use Rattle.command_line.proofs.Lists.{puts_some, puts_malformed, value_item, no_low_item, no_high_item}
use Rattle.command_line.proofs.put_value.Goals as goal

pub returns-in_err-low : goal.returns-in_err-low
returns-in_err-low c =
    let sides = c.sides.ensures in
    rw c.from_residual.ensures (puts_malformed (no_low_item c.args.word.now (rw sides.low at c.in_err-low.ensures)))

pub returns-in_err-high : goal.returns-in_err-high
returns-in_err-high c =
    let sides = c.sides.ensures in
    rw c.from_residual-in_err-high.ensures (puts_malformed (no_high_item c.args.word.now (rw sides.high at c.in_err-high.ensures)))

pub returns : goal.returns
returns c =
    let sides = c.sides.ensures in
    puts_some (value_item c.args.word.now _ _ (rw sides.low at c.in_ok-low.ensures) (rw sides.high at c.in_ok-high.ensures))
    (puts_then c.put_mask-n.ensures c.put_mask.ensures)
