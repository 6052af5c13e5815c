-- `first_step` of `recorder` meets its contract: refused, or at state 0 with no pulses.
use Rattle.refusal.proofs.Answers.{passed_on}
use Rattle.refusal.proofs.Refusals.{judgement_accepted, judgement_refused}
use mathlib.Core.Path.{sym, ◌∙◌, ap}
use Rattle.recorder.specs.{Store.{store_of}, Decisions.{stepped}}
use Rattle.recorder.proofs.Decided.{restart_refused, restart_done}
use Rattle.recorder.proofs.Tool+K+K+Column.first_step.Goals as goal

pub returns-in_err-check_loaded-clause-taken : goal.returns-in_err-check_loaded-clause-taken
returns-in_err-check_loaded-clause-taken g c =
    let t = store_of g.K.Kind.meaning c.args.self.now in
    ap (stepped t c.args.channel) (passed_on c.from_residual.result c.in_err-check_loaded.field-0.0 c.from_residual.ensures.1)
    ∙ restart_refused t c.args.channel c.in_err-check_loaded.field-0.0 (judgement_refused _ _ (sym c.check_loaded.ensures.refusal ∙ c.in_err-check_loaded.was))

pub returns-clause-taken : goal.returns-clause-taken
returns-clause-taken g c =
    restart_done (store_of g.K.Kind.meaning c.args.self.now) c.args.channel
    (judgement_accepted _ (sym c.check_loaded.ensures.refusal ∙ c.in_ok-check_loaded.was))
