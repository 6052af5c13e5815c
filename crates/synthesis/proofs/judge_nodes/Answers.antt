-- `judge_nodes` meets its contract: 5 by the number of bytes, then what the nodes are judged by.
use mathlib.Core.Path.{sym, ◌∙◌}
use Rattle.limits.specs.Limits.{node_limit}
use Rattle.formulas.specs.RuleConditions.{node_width}
use Rattle.formulas.specs.NodeWalks.{field}
use Rattle.formulas.specs.RuleRefusal.{count_fits, fields_refusal}
use Rattle.values.specs.ValueTests.{value_fits}
use Rattle.synthesis.proofs.Compilation.{bytes_misfit, bytes_fit}
use Rattle.synthesis.proofs.judge_nodes.Goals as goal

pub returns-then-not-count_fits : goal.returns-then-not-count_fits
returns-then-not-count_fits c =
    bytes_misfit (count_fits (node_width c.args.kind) node_limit c.args.bytes)
    (fields_refusal (field c.args.nodes.now.kinds) (field c.args.nodes.now.firsts) (field c.args.nodes.now.values) c.args.nodes.now.count
    (value_fits c.args.kind) c.args.events)
    (sym c.count_fits.ensures ∙ c.if-not-count_fits.true)

pub returns : goal.returns
returns c =
    c.check_nodes.ensures
    ∙ bytes_fit (count_fits (node_width c.args.kind) node_limit c.args.bytes)
    (fields_refusal (field c.args.nodes.now.kinds) (field c.args.nodes.now.firsts) (field c.args.nodes.now.values) c.args.nodes.now.count
    (value_fits c.args.kind) c.args.events)
    (sym c.count_fits.ensures ∙ c.if-not-count_fits.false)
