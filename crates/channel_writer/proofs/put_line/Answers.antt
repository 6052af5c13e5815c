use mathlib.Core.List.{[], ◌∷◌, append_assoc}
use Rattle.channel_file.specs.ChannelFile.{number}
use Rattle.text_output.proofs.Outputs.{puts_as, puts_then}
use Rattle.channel_writer.proofs.put_line.Goals as goal

pub returns : goal.returns
returns c = puts_as (append_assoc c.args.key.now
    (number c.args.v) (10 ∷ []))
    (puts_then c.put_keyed-n.ensures c.put.ensures)
