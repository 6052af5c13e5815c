-- `equal` of `command_line` meets its contract.
use mathlib.Core.Path.{◌∙◌}
use Rattle.command_line.proofs.Names.{same_equal}
use Rattle.command_line.proofs.equal.Goals as goal

pub returns : goal.returns
returns c = c.eq.ensures ∙ same_equal c.args.a.now c.args.b.now
