-- `machines::next_at` meets its contract, kind by kind.
use Rattle.machines.proofs.next_at.Goals as goal

pub returns-in-Numbered : goal.returns-in-Numbered
returns-in-Numbered c = rw c.in-Numbered.is c.second_at.ensures

pub returns-in-Register : goal.returns-in-Register
returns-in-Register c = rw c.in-Register.is c.fifth_at.ensures
