-- `check_handed` meets its contract: the counts are judged, then the table.
use mathlib.Core.Path.{refl, sym, ap, ◌∙◌}
use Rattle.refusal.specs.Refusal.{refusal_of}
use Rattle.refusal.proofs.{Answers.{passed_on}, Refusals.{answered_refused}}
use Rattle.table_rows.proofs.Renderings.{counts_refused, handed_refused, handed_accepted, kind_counted, top_counted, few_entries}
use Rattle.table_rows.proofs.check_handed.Goals as goal

pub returns-in_err-values-clause-judged : goal.returns-in_err-values-clause-judged
returns-in_err-values-clause-judged c =
    ap refusal_of (passed_on c.from_residual.result c.in_err-values.field-0.0 c.from_residual.ensures.1)
    ∙ sym (counts_refused _ _ _ _ _ (answered_refused _ _ _ (sym c.check_counts.ensures ∙ c.in_err-values.was)))

pub returns-in_err-check_table-clause-judged : goal.returns-in_err-check_table-clause-judged
returns-in_err-check_table-clause-judged c =
    ap refusal_of (passed_on c.from_residual-in_err-check_table.result c.in_err-check_table.field-0.0 c.from_residual-in_err-check_table.ensures.1)
    ∙ sym (handed_refused _ _ _ _ _ c.check_counts.ensures c.in_ok-values.was c.check_table.ensures c.in_err-check_table.was)

pub invariant_of-result : goal.invariant_of-result
invariant_of-result c =
    record {
      few = few_entries _ _ _ _ _ (handed_accepted _ _ _ _ _ c.check_counts.ensures c.in_ok-values.was c.check_table.ensures c.in_ok-check_table.was);
    }

pub returns-clause-judged : goal.returns-clause-judged
returns-clause-judged c =
    sym (handed_accepted _ _ _ _ _ c.check_counts.ensures c.in_ok-values.was c.check_table.ensures c.in_ok-check_table.was)

pub returns-clause-yields : goal.returns-clause-yields
returns-clause-yields c =
    record {
      events_is = refl;
      kind_is = kind_counted _ _ _ _ _ c.check_counts.ensures c.in_ok-values.was c.check_table.ensures;
      top_is = top_counted _ _ _ _ _ c.check_counts.ensures c.in_ok-values.was c.check_table.ensures;
      table_is = refl;
    }
