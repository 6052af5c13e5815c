-- `values::value_fits` meets its contract: each arm is the test's.
use Rattle.values.proofs.value_fits.Goals as goal

pub returns-in-Numbered : goal.returns-in-Numbered
returns-in-Numbered c = rw c.in-Numbered.is

pub returns-in-Register : goal.returns-in-Register
returns-in-Register c = rw c.in-Register.is c.masks_fit.ensures
