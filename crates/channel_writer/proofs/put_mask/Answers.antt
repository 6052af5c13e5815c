-- `put_mask` meets its contract: a mask of 16 bits has at most five digits.
use Rattle.text_output.proofs.Outputs.{puts_as}
use Rattle.channel_writer.proofs.Texts.{mask_numeral}
use Rattle.channel_writer.proofs.put_mask.Goals as goal

pub returns : goal.returns
returns c = puts_as (mask_numeral c.args.m c.requires)
    c.put_field.ensures
