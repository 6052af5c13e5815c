-- `values::value_from` meets its contract: each arm reads the bytes of its kind.
use Rattle.values.proofs.value_from.Goals as goal

pub returns-in-Numbered : goal.returns-in-Numbered
returns-in-Numbered c = rw c.in-Numbered.is c.entry.ensures

pub returns-in-Register : goal.returns-in-Register
returns-in-Register c = rw c.in-Register.is c.masks_from.ensures
