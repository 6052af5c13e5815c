-- `keep_demands` meets its contract, by what its parts answer.
use borrow.Author.Rules.{rules}
use Rattle.synthesis.proofs.KeptDemands.{keeps_demands}
use Rattle.synthesis.proofs.demands.keep_demands.Goals as goal

pub fill_rows-requires : goal.fill_rows-requires
fill_rows-requires c = (search rules, c.fill_ends.ensures)

pub returns : goal.returns
returns c = keeps_demands c.args.nodes.now.kinds c.args.nodes.now.firsts _ _ _ c.args.nodes.now.count c.bind.ensures.bound c.fill_rows.ensures
