-- `check_all` of `recorder::faults` meets its contract: 17 by the test of all channels, then 25.
use Rattle.refusal.specs.RefusalAnswers.{judgement}
use mathlib.Core.Path.{◌∙◌, ap}
use Rattle.recorder.specs.{Store.{store_of}, Decisions.{fault_of}}
use Rattle.recorder.proofs.faults.Tool+K+K+Column.check_all.Goals as goal

pub returns : goal.returns
returns g c = c.check_store.ensures ∙ ap (λ b. judgement (fault_of (store_of g.K.Kind.meaning c.args.self.now) b)) c.all_in_order.ensures
