-- `take_clear` of `recorder` meets its contract: refused, or a table of no states stored.
use Rattle.refusal.proofs.Answers.{passed_on}
use Rattle.refusal.proofs.Refusals.{judgement_accepted, judgement_refused}
use mathlib.Core.Path.{◌≡◌, sym, ◌∙◌, ap}
use lib.ListN.{length}
use borrow.Author.Rules.{rules}
use Rattle.limits.specs.Limits.{channel_limit}
use Rattle.recorder.specs.Store.{store_of, replied}
use Rattle.recorder.proofs.Loads.{clear_refused, clear_storable, clear_done}
use Rattle.recorder.proofs.Tool+K+K+Column.take_clear.Goals as goal

pub returns-in_err-check : goal.returns-in_err-check
returns-in_err-check g c =
    let t = store_of g.K.Kind.meaning c.args.self.now in
    ap (λ r. replied g.K.Kind.meaning r c.args.self.now) (passed_on c.from_residual.result c.in_err-check.field-0.0 c.from_residual.ensures.1)
    ∙ clear_refused t c.args.channel c.in_err-check.field-0.0 (judgement_refused _ _ (sym c.check.ensures.refusal ∙ c.in_err-check.was))

pub store_table-requires-clause-room : goal.store_table-requires-clause-room
store_table-requires-clause-room g c =
    let t = store_of g.K.Kind.meaning c.args.self.now in
    let sized : length t.states ≡ channel_limit = search rules in
    clear_storable t c.args.channel (judgement_accepted _ (sym c.check.ensures.refusal ∙ c.in_ok-check.was)) sized

pub returns : goal.returns
returns g c =
    let t = store_of g.K.Kind.meaning c.args.self.now in
    clear_done t c.args.channel (judgement_accepted _ (sym c.check.ensures.refusal ∙ c.in_ok-check.was)) _ c.store_table.ensures
