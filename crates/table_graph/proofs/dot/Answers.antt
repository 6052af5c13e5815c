-- `dot` meets its contract.
use mathlib.Core.Path.{sym, ap, ◌∙◌}
use Rattle.refusal.specs.Refusal.{refusal_of}
use Rattle.refusal.proofs.Answers.{passed_on}
use Rattle.machines.specs.TableBytes.{machine_of}
use Rattle.table_rows.proofs.Renderings.{renders_as, renders_refused}
use Rattle.table_graph.specs.GraphText.{digraph_text}
use Rattle.table_graph.proofs.dot.Goals as goal

pub returns-in_err-accepted : goal.returns-in_err-accepted
returns-in_err-accepted c =
    renders_refused _ _ _ (passed_on c.from_residual.result c.in_err-accepted.field-0.0 c.from_residual.ensures.1)
    (sym c.check_handed.ensures.judged ∙ ap refusal_of c.in_err-accepted.was)

pub returns : goal.returns
returns c =
    let handed = c.in_ok-accepted.ensures.yields in
    renders_as (sym (sym c.check_handed.ensures.judged ∙ ap refusal_of c.in_ok-accepted.was))
    (λ i. digraph_text (handed.kind_is i) (handed.events_is i) (handed.table_is i).states (handed.top_is i)
    (machine_of (handed.kind_is i) (handed.events_is i) (handed.table_is i).entries.now)) c.render.ensures
