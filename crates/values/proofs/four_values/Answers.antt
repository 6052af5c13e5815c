-- `values::four_values` meets its contract: the constant is the definition's list.
use mathlib.Core.Path.{refl}
use Rattle.theory.specs.ValueSets.{four_value_meet}
use Rattle.values.proofs.four_values.Goals as goal

pub returns : goal.returns
unfolding four_value_meet
returns c = refl
