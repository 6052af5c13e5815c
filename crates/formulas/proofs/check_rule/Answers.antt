-- `check_rule` meets its contract: 5 is answered first, and the decoded fields have the bytes' answer.
use Rattle.formulas.proofs.Decoding.{decoded_refusal, rule_misfit}
use Rattle.formulas.specs.{NodeWalks.{field}, RuleRefusal.{fields_refusal}}
use Rattle.refusal.specs.RefusalAnswers.{judgement}
use mathlib.Core.Path.{sym, ◌∙◌, ap}
use Rattle.values.specs.ValueTests.{value_fits}
use Rattle.formulas.proofs.check_rule.Goals as goal

pub returns-then-not-count_fits : goal.returns-then-not-count_fits
unfolding judgement
returns-then-not-count_fits c =
    sym (ap judgement (rule_misfit c.args.events c.args.kind c.args.bytes.now
    (sym c.count_fits.ensures ∙ c.if-not-count_fits.true)))

pub returns : goal.returns
returns c =
    c.check_nodes.ensures
    ∙ ap (λ n. judgement (fields_refusal (field n.kinds) (field n.firsts) (field n.values) n.count (value_fits c.args.kind) c.args.events))
    c.decode.ensures
    ∙ ap judgement (decoded_refusal c.args.events c.args.kind c.args.bytes.now
    (sym c.count_fits.ensures ∙ c.if-not-count_fits.false))
