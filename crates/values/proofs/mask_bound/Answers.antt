use Rattle.values.proofs.ValueKinds.{bound_is}
use Rattle.values.proofs.mask_bound.Goals as goal

pub returns : goal.returns
returns c = bound_is c.args.lines c.requires
