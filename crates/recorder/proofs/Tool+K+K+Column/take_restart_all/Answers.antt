-- `take_restart_all` of `recorder` meets its contract: refused, or all channels at state 0 with no pulses.
use Rattle.refusal.proofs.Answers.{passed_on}
use Rattle.refusal.proofs.Refusals.{judgement_accepted, judgement_refused}
use mathlib.Core.Path.{sym, ◌∙◌, ap}
use Rattle.recorder.specs.Store.{store_of, replied}
use Rattle.recorder.proofs.Decided.{restart_all_refused, restart_all_done}
use Rattle.recorder.proofs.Tool+K+K+Column.take_restart_all.Goals as goal

pub returns-in_err-check_all : goal.returns-in_err-check_all
returns-in_err-check_all g c =
    let t = store_of g.K.Kind.meaning c.args.self.now in
    ap (λ r. replied g.K.Kind.meaning r c.args.self.now) (passed_on c.from_residual.result c.in_err-check_all.field-0.0 c.from_residual.ensures.1)
    ∙ restart_all_refused t c.in_err-check_all.field-0.0 (judgement_refused _ _ (sym c.check_all.ensures ∙ c.in_err-check_all.was))

pub returns : goal.returns
returns g c = restart_all_done (store_of g.K.Kind.meaning c.args.self.now) (judgement_accepted _ (sym c.check_all.ensures ∙ c.in_ok-check_all.was))
