-- `machines::value_at` meets its contract, kind by kind.
use Rattle.machines.proofs.value_at.Goals as goal

pub returns-in-Numbered : goal.returns-in-Numbered
returns-in-Numbered c = rw c.in-Numbered.is c.number_at.ensures

pub returns-in-Register : goal.returns-in-Register
returns-in-Register c = rw c.in-Register.is c.masks_at.ensures
