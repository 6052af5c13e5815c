-- `compile_accepted` meets its contract: what the nodes are refused by, or what `compile_nodes` answers.
use mathlib.Core.Path.{sym, ◌∙◌}
use Rattle.refusal.proofs.Answers.{passed_on}
use Rattle.values.specs.HandedIn.{setup_of_set}
use Rattle.synthesis.proofs.{Compilation.{few_nodes}, LentTable.{few_events, rule_case, nodes_case}}
use Rattle.synthesis.proofs.compile_accepted.Goals as goal

pub returns-in_err-judge_nodes : goal.returns-in_err-judge_nodes
returns-in_err-judge_nodes c =
    let v = c.args.value_set in
    let w = rule_case c.args.events v.kind v.top v.meet.now c.args.rule.now c.requires.0 c.requires.1 c.decode-nodes.result c.decode-nodes.ensures
    c.args.to.now _ (sym c.judge_nodes.ensures ∙ c.in_err-judge_nodes.was) in
    record {
      answer = passed_on c.from_residual.result c.in_err-judge_nodes.field-0.0 c.from_residual.ensures.1 ∙ w.0;
      contents = w.1;
    }

pub compile_nodes-requires : goal.compile_nodes-requires
compile_nodes-requires c = (
  few_nodes c.args.value_set.kind c.args.rule.now c.decode-nodes.result c.decode-nodes.ensures,
  few_events (setup_of_set c.args.events c.args.value_set) c.requires.0,
)

pub returns : goal.returns
returns c =
    let v = c.args.value_set in
    let w = nodes_case c.args.events v.kind v.top v.meet.now c.args.rule.now c.requires.0 c.requires.1 c.decode-nodes.result c.decode-nodes.ensures
    (sym c.judge_nodes.ensures ∙ c.in_ok-judge_nodes.was) c.args.to.now _ _ c.compile_nodes.ensures in
    record { answer = w.0; contents = w.1 }
