-- `Pair::check` meets its contract: the set-up, then the rule.
use mathlib.Core.Path.{sym, ap, ◌∙◌}
use Rattle.refusal.specs.{Refusal.{refusal_of}, RefusalAnswers.{judgement}}
use Rattle.refusal.proofs.Answers.{passed_on}
use Rattle.values.specs.{HandedIn.{setup_of}, Setup.{Setup}}
use Rattle.formulas.specs.RuleRefusal.{rule_refusal}
use Rattle.channel_io.proofs.Pairs.{pair_setup, pair_rule}
use Rattle.channel_io.proofs.Pair.check.Goals as goal

pub returns-in_err-values : goal.returns-in_err-values
unfolding judgement
returns-in_err-values c =
    passed_on c.from_residual.result c.in_err-values.field-0.0 c.from_residual.ensures.1
    ∙ sym (ap judgement (pair_setup (setup_of c.args.self.set_up) c.args.self.nodes.now
    (sym c.check_by_sets.ensures.judged ∙ ap refusal_of c.in_err-values.was)))

pub returns : goal.returns
returns c =
    let s = setup_of c.args.self.set_up in
    c.check_rule.ensures
    ∙ sym (ap judgement (pair_rule s c.args.self.nodes.now (sym c.check_by_sets.ensures.judged ∙ ap refusal_of c.in_ok-values.was)
    ∙ ap (λ (z : Setup). rule_refusal z.events z.kind c.args.self.nodes.now) c.in_ok-values.ensures.yields))
