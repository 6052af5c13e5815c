-- `Made::numbers` meets its contract, for either kind of values.
use mathlib.Core.Path.{refl}
use Rattle.gurvazze_host.specs.Codes.{table_numbers}
use Rattle.gurvazze_host.proofs.Made.numbers.Goals as goal
use Rattle.gurvazze_host.proofs.Made.numbers.Goals.{in-Numbered, in-Register}

pub returns : goal.returns
unfolding table_numbers
returns c = elim c.match-self.branch [
  | in-Numbered w ↦ rw (w.values-is, w.in-Numbered.is) refl
  | in-Register w ↦ rw (w.values-is, w.in-Register.is) refl
]
