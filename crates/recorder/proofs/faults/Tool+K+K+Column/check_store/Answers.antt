-- `check_store` of `recorder::faults` meets its contract: 17, 25, or neither.
use Rattle.refusal.specs.{RefusalAnswers.{judgement, or_else, plain_unless}, declared.Refusal.TheVariants.{RowTotal, ToolContents}}
use mathlib.Core.Path.{sym, ◌∙◌, ap}
use mathlib.Core.Option.{none, some}
use mathlib.Core.Bool.{cond}
use Rattle.channel_log.specs.{Log.{rows_refusal}, Rows.{all_rows}}
use Rattle.recorder.specs.{Store.{store_of, rows}}
use Rattle.recorder.proofs.RowCounts.{all_rows_are}
use Rattle.recorder.proofs.faults.Tool+K+K+Column.check_store.Goals as goal

pub returns-then-not-in_order : goal.returns-then-not-in_order
unfolding judgement or_else plain_unless
returns-then-not-in_order g c =
    let t = store_of g.K.Kind.meaning c.args.self.now in
    sym (ap (λ b. judgement (or_else (plain_unless b ToolContents) (rows_refusal (all_rows (rows t))))) c.if-not-in_order.true)

pub returns-then-not-rows_fit : goal.returns-then-not-rows_fit
unfolding judgement or_else plain_unless
returns-then-not-rows_fit g c =
    let t = store_of g.K.Kind.meaning c.args.self.now in
    sym
    (ap (λ b. judgement (or_else (plain_unless b ToolContents) (rows_refusal (all_rows (rows t))))) c.if-not-in_order.false
    ∙ ap (λ n. judgement (rows_refusal n)) (all_rows_are t)
    ∙ ap (λ b. judgement (cond b none (some RowTotal))) (sym c.rows_fit.ensures ∙ c.if-not-rows_fit.true))

pub returns : goal.returns
unfolding judgement or_else plain_unless
returns g c =
    let t = store_of g.K.Kind.meaning c.args.self.now in
    sym
    (ap (λ b. judgement (or_else (plain_unless b ToolContents) (rows_refusal (all_rows (rows t))))) c.if-not-in_order.false
    ∙ ap (λ n. judgement (rows_refusal n)) (all_rows_are t)
    ∙ ap (λ b. judgement (cond b none (some RowTotal))) (sym c.rows_fit.ensures ∙ c.if-not-rows_fit.false))
