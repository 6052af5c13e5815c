-- `check_nodes` meets its contract: 5 is answered by the count, then 6 and 7; past them the formula reads from the first node to the last.
use Rattle.formulas.proofs.Answers.{no_node, too_many, count_within, tree_met, tree_unmet, tree_clear, all_known, formula_reads}
use Rattle.formulas.specs.NodeWalks.{field, VariablesJudged}
use Rattle.refusal.proofs.Refusals.{judgement_accepted}
use Rattle.refusal.specs.RefusalAnswers.{judgement}
use mathlib.Core.Path.{sym, ◌∙◌, ap}
use Rattle.refusal.proofs.Answers.{passed_on}
use Rattle.formulas.proofs.check_nodes.Goals as goal

pub returns-then-nodes-eq0 : goal.returns-then-nodes-eq0
unfolding judgement
returns-then-nodes-eq0 c = sym (ap judgement (no_node _ _ _ _ _ _ c.if-nodes-eq0.true))

pub returns-then-nodes-gt-NODE_LIMIT : goal.returns-then-nodes-gt-NODE_LIMIT
unfolding judgement
returns-then-nodes-gt-NODE_LIMIT c = sym (ap judgement (too_many _ _ _ _ _ _ c.if-nodes-gt-NODE_LIMIT.true))

pub returns-in_err-check_fields : goal.returns-in_err-check_fields
returns-in_err-check_fields c =
    passed_on c.from_residual.result c.in_err-check_fields.field-0.0 c.from_residual.ensures.1
    ∙ sym c.in_err-check_fields.was ∙ c.check_fields.ensures ∙ sym (ap judgement (count_within _ _ _ _ _ _ c.if-nodes-eq0.false c.if-nodes-gt-NODE_LIMIT.false
    ∙ tree_met _ _ _ _ _ _ _ (sym c.check_fields.ensures ∙ c.in_err-check_fields.was)))

pub returns : goal.returns
unfolding VariablesJudged
returns c =
    let e = judgement_accepted _ (sym c.check_fields.ensures ∙ c.in_ok-check_fields.was) in
    let w = tree_clear (field c.args.nodes.now.kinds) (field c.args.nodes.now.firsts) (field c.args.nodes.now.values) c.args.nodes.now.count _ _ e in
    let r = formula_reads (field c.args.nodes.now.kinds) (field c.args.nodes.now.firsts) (field c.args.nodes.now.values) c.args.nodes.now.count
    (all_known _ _ _ _ _ _ w.0) w.1 in
    c.check_variables.ensures (field c.args.nodes.now.values) _ r.0 r.1
    ∙ sym (ap judgement (count_within _ _ _ _ _ _ c.if-nodes-eq0.false c.if-nodes-gt-NODE_LIMIT.false
    ∙ tree_unmet _ _ _ _ _ _ e))
