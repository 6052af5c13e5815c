use Rattle.text_output.proofs.Outputs.{puts_then}
use Rattle.text_output.proofs.put_field.Goals as goal

pub returns : goal.returns
returns c = puts_then c.put_word-n.ensures c.put_number.ensures
