-- `channel_file::read_arrays` meets its contract. Assumes nothing.
use mathlib.Core.Path.{refl}
use Rattle.channel_file.specs.{Reading.{read_file}}
use Rattle.channel_file.proofs.Accepted.{arrays_read}
use Rattle.channel_file.proofs.read_arrays.Goals as goal

pub returns : goal.returns
returns c = arrays_read (read_file c.args.text.now) refl refl c.in_ok-form.ensures
