-- `registers::put_lines` meets its contract: line by line.
use borrow.Author.Rules.{rules}
use Rattle.text_output.proofs.Outputs.{puts_then}
use Rattle.channel_writer.proofs.registers.put_lines.Goals as goal

pub returns : goal.returns
returns c = search (rules, puts_then)
