-- `end_of` meets its contract, kind by kind.
use Rattle.formulas.specs.declared.NodeKind.TheVariants.{Conjunction}
use Rattle.synthesis.proofs.{NodeKinds.{kind_read, unknown_leaf, leaf_without, leaf_parts}, NodeWalks.{here_leaf, here_part, here_conjunction}}
use Rattle.synthesis.proofs.demands.end_of.Goals as goal

pub returns-in_default : goal.returns-in_default
returns-in_default c =
    here_leaf c.args.nodes.now.kinds c.args.ends.now _ (leaf_without _ (unknown_leaf _ c.of.ensures c.in_default.is))

pub returns-in-Truth : goal.returns-in-Truth
returns-in-Truth c = here_leaf c.args.nodes.now.kinds c.args.ends.now _ (leaf_parts _ c.of.ensures c.in-Some.is c.in-Truth.is)

pub returns-in-Transition : goal.returns-in-Transition
returns-in-Transition c = here_part c.args.nodes.now.kinds c.args.ends.now _ c.of.ensures c.in-Some.is c.in-Transition.is

pub returns-in-Conjunction : goal.returns-in-Conjunction
returns-in-Conjunction c =
    here_conjunction c.args.nodes.now.kinds c.args.ends.now _ (kind_read _ Conjunction c.of.ensures c.in-Some.is c.in-Conjunction.is)
