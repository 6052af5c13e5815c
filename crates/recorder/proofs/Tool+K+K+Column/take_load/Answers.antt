-- `take_load` of `recorder` meets its contract: refused before the compiler, by it or for want of rows, or stored.
use Rattle.std.specs.Prelude.{Err}
use Rattle.std.proofs.lemmas.Result.{MatchResult-at_err}
use Rattle.refusal.proofs.Answers.{passed_on}
use Rattle.refusal.proofs.Refusals.{judgement_accepted, judgement_refused}
use mathlib.Core.Path.{◌≡◌, sym, ◌∙◌, ap}
use lib.ListN.{length}
use borrow.Author.Rules.{rules}
use Rattle.limits.specs.Limits.{channel_limit}
use Rattle.recorder.specs.Store.{store_of, replied}
use Rattle.recorder.proofs.Loads.{load_refused, load_judged, small_count, load_over, load_storable, load_room, load_done}
use Rattle.recorder.proofs.Tool+K+K+Column.take_load.Goals as goal

pub returns-in_err-check : goal.returns-in_err-check
returns-in_err-check g c =
    let t = store_of g.K.Kind.meaning c.args.self.now in
    ap (λ r. replied g.K.Kind.meaning r c.args.self.now) (passed_on c.from_residual.result c.in_err-check.field-0.0 c.from_residual.ensures.1)
    ∙ load_refused t c.args.channel c.args.rule.now c.in_err-check.field-0.0 (judgement_refused _ _ (sym c.check.ensures.refusal ∙ c.in_err-check.was))

pub returns-in_default : goal.returns-in_default
returns-in_default g c =
    let t = store_of g.K.Kind.meaning c.args.self.now in
    let m : c.map.result ≡ Err c.in_default.field-0 = MatchResult-at_err _ _ c.in_default.field-0 c.in_default.is c.map.ensures.cases in
    ap (λ r. replied g.K.Kind.meaning r c.args.self.now) m
    ∙ load_judged t c.args.channel (judgement_accepted _ (sym c.check.ensures.refusal ∙ c.in_ok-check.was)) c.args.rule.now _ c.blank_table-table.ensures
    c.in_default.field-0 (sym c.compile-compiled.ensures.answer ∙ c.in_default.is)

pub rows_left-requires : goal.rows_left-requires
rows_left-requires g c =
    let t = store_of g.K.Kind.meaning c.args.self.now in
    let sized : length t.states ≡ channel_limit = search rules in (
      search rules,
      small_count t c.args.channel (judgement_accepted _ (sym c.check.ensures.refusal ∙ c.in_ok-check.was)) c.args.rule.now _ c.blank_table-table.ensures
          c.in-Ok.states (sym c.compile-compiled.ensures.answer ∙ c.in-Ok.is),
      sized,
    )

pub returns-then-not-rows_left : goal.returns-then-not-rows_left
returns-then-not-rows_left g c =
    let t = store_of g.K.Kind.meaning c.args.self.now in
    let sized : length t.states ≡ channel_limit = search rules in
    load_over t c.args.channel (judgement_accepted _ (sym c.check.ensures.refusal ∙ c.in_ok-check.was)) c.args.rule.now _ c.blank_table-table.ensures
    c.in-Ok.states (sym c.compile-compiled.ensures.answer ∙ c.in-Ok.is) sized (sym c.rows_left.ensures ∙ c.if-not-rows_left.true)

pub store_table-requires-clause-room : goal.store_table-requires-clause-room
store_table-requires-clause-room g c =
    let t = store_of g.K.Kind.meaning c.args.self.now in
    let sized : length t.states ≡ channel_limit = search rules in
    load_storable t c.args.channel (judgement_accepted _ (sym c.check.ensures.refusal ∙ c.in_ok-check.was)) c.args.rule.now _ c.blank_table-table.ensures
    c.in-Ok.states (sym c.compile-compiled.ensures.answer ∙ c.in-Ok.is) sized (sym c.rows_left.ensures ∙ c.if-not-rows_left.false)

pub store_table-requires-clause-entries : goal.store_table-requires-clause-entries
store_table-requires-clause-entries g c =
    let t = store_of g.K.Kind.meaning c.args.self.now in
    let sized : length t.states ≡ channel_limit = search rules in
    rw (c.bytes.ensures, c.compile-compiled.ensures.same_length)
    (load_room t c.args.channel (judgement_accepted _ (sym c.check.ensures.refusal ∙ c.in_ok-check.was)) c.args.rule.now _ c.blank_table-table.ensures
    c.in-Ok.states (sym c.compile-compiled.ensures.answer ∙ c.in-Ok.is) sized (sym c.rows_left.ensures ∙ c.if-not-rows_left.false))

pub returns : goal.returns
returns g c =
    let t = store_of g.K.Kind.meaning c.args.self.now in
    let sized : length t.states ≡ channel_limit = search rules in
    load_done t c.args.channel (judgement_accepted _ (sym c.check.ensures.refusal ∙ c.in_ok-check.was)) c.args.rule.now _ c.blank_table-table.ensures
    c.in-Ok.states (sym c.compile-compiled.ensures.answer ∙ c.in-Ok.is) sized (sym c.rows_left.ensures ∙ c.if-not-rows_left.false) _
    (rw (c.bytes.ensures, c.compile-compiled.ensures.contents) at c.store_table.ensures)
