-- `step` of `recorder` meets its contract: refused, or moved and counted.
use Rattle.refusal.proofs.Answers.{passed_on}
use Rattle.refusal.proofs.Refusals.{judgement_accepted, judgement_refused}
use mathlib.Core.{Path.{sym, ◌∙◌, ap, subst⁻¹}}
use Prim.Native.Nat.{◌+◌}
use lib.ListN.{get_or}
use Rattle.channel_log.specs.Log.{large_total}
use native.Mathlib.Omega.{arith}
use Rattle.recorder.specs.{Store.{store_of}, Decisions.{Measurable, stepped}}
use Rattle.recorder.proofs.Decided.{answered_ok, answered_err, event_refused, event_large, event_many, event_bounds, event_measurable, event_done}
use Rattle.recorder.proofs.Tool+K+K+Column.step.Goals as goal

pub returns-in_err-check_loaded-clause-taken : goal.returns-in_err-check_loaded-clause-taken
returns-in_err-check_loaded-clause-taken g c =
    let t = store_of g.K.Kind.meaning c.args.self.now in
    ap (stepped t c.args.channel) (passed_on c.from_residual.result c.in_err-check_loaded.field-0.0 c.from_residual.ensures.1)
    ∙ event_refused t c.args.channel (record { event = c.args.event; pulses = c.args.pulses }) c.in_err-check_loaded.field-0.0
    (judgement_refused _ _ (sym c.check_loaded.ensures.refusal ∙ c.in_err-check_loaded.was))

pub returns-then-from-event-clause-taken : goal.returns-then-from-event-clause-taken
returns-then-from-event-clause-taken g c =
    let t = store_of g.K.Kind.meaning c.args.self.now in
    event_large t c.args.channel (record { event = c.args.event; pulses = c.args.pulses })
    (judgement_accepted _ (sym c.check_loaded.ensures.refusal ∙ c.in_ok-check_loaded.was)) (omega (arith, c.from.ensures))

pub returns-in_err-total-clause-taken : goal.returns-in_err-total-clause-taken
returns-in_err-total-clause-taken g c =
    let t = store_of g.K.Kind.meaning c.args.self.now in
    ap (stepped t c.args.channel) (passed_on c.from_residual-in_err-total.result c.in_err-total.field-0.0 c.from_residual-in_err-total.ensures.1)
    ∙ event_many t c.args.channel (record { event = c.args.event; pulses = c.args.pulses })
    (judgement_accepted _ (sym c.check_loaded.ensures.refusal ∙ c.in_ok-check_loaded.was)) (omega (arith, c.from.ensures)) c.in_err-total.field-0.0
    (sym (ap (λ p. large_total (get_or t.total c.args.channel 0 + p)) c.from-2.ensures)
    ∙ answered_err _ _ _ (sym c.total_with.ensures ∙ c.in_err-total.was))

pub entry_place-place-requires : goal.entry_place-place-requires
entry_place-place-requires g c =
    let t = store_of g.K.Kind.meaning c.args.self.now in
    rw c.rows_start-start.ensures
    (event_bounds t c.args.channel (record { event = c.args.event; pulses = c.args.pulses })
    (judgement_accepted _ (sym c.check_loaded.ensures.refusal ∙ c.in_ok-check_loaded.was)) (omega (arith, c.from.ensures)))

pub measured-requires : goal.measured-requires
measured-requires g c =
    let t = store_of g.K.Kind.meaning c.args.self.now in
    let a = answered_ok _ _ _ (sym c.total_with.ensures ∙ c.in_ok-total.was) in
    let small = sym (ap (λ p. large_total (get_or t.total c.args.channel 0 + p)) c.from-2.ensures) ∙ a.0 in
    subst⁻¹ (Measurable t.wheel) (a.1 ∙ ap (λ p. get_or t.total c.args.channel 0 + p) c.from-2.ensures)
    (event_measurable t c.args.channel (record { event = c.args.event; pulses = c.args.pulses })
    (judgement_accepted _ (sym c.check_loaded.ensures.refusal ∙ c.in_ok-check_loaded.was)) (omega (arith, c.from.ensures)) small)

pub returns-clause-taken : goal.returns-clause-taken
returns-clause-taken g c =
    let t = store_of g.K.Kind.meaning c.args.self.now in
    let a = answered_ok _ _ _ (sym c.total_with.ensures ∙ c.in_ok-total.was) in
    let small = sym (ap (λ p. large_total (get_or t.total c.args.channel 0 + p)) c.from-2.ensures) ∙ a.0 in
    let sum = a.1 ∙ ap (λ p. get_or t.total c.args.channel 0 + p) c.from-2.ensures in
    rw (c.measured.ensures, c.wide-value.ensures, c.value_at.ensures, c.entry_place-place.ensures.0, c.rows_start-start.ensures, sum)
    (event_done t c.args.channel (record { event = c.args.event; pulses = c.args.pulses })
    (judgement_accepted _ (sym c.check_loaded.ensures.refusal ∙ c.in_ok-check_loaded.was)) (omega (arith, c.from.ensures)) small)
