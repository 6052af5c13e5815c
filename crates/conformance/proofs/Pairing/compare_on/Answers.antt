-- `compare_on` meets its contract: the values that two states have on an event, compared.
use mathlib.Core.Path.{◌∙◌, ap₂}
use Rattle.values.specs.ValueTests.{comparison}
use Rattle.conformance.specs.PairQueue.{comparison_on}
use Rattle.conformance.proofs.Pairing.compare_on.Goals as goal

pub returns : goal.returns
unfolding comparison_on
returns c =
    c.compare.ensures
    ∙ ap₂ (comparison c.args.self.now.values.kind c.args.self.now.values.meet.now) c.value_at-b.ensures c.value_at-c.ensures
