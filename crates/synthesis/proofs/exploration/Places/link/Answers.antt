-- `link` meets its contract.
use mathlib.Core.Path.{refl}
use Rattle.synthesis.proofs.exploration.Places.link.Goals as goal

pub returns : goal.returns
returns c = record { head = refl; linked = refl }
