-- `put_keyed` meets its contract: a number of one byte has at most three digits.
use native.Mathlib.Omega.{arith}
use Rattle.text_output.proofs.Outputs.{puts_as}
use Rattle.channel_writer.proofs.Texts.{small_numeral}
use Rattle.channel_writer.proofs.put_keyed.Goals as goal

pub returns : goal.returns
returns c = puts_as (small_numeral c.args.key.now _ _ c.from.ensures (omega (arith, c.from.ensures))) c.put_field.ensures
