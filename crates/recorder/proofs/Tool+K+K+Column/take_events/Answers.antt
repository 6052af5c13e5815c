-- `take_events` of `recorder` meets its contract: refused, or run from the current state.
use Rattle.refusal.proofs.Answers.{passed_on}
use Rattle.refusal.proofs.Refusals.{judgement_accepted, judgement_refused}
use mathlib.Core.Path.{◌≡◌, sym, ◌∙◌, ap, subst⁻¹}
use native.Mathlib.Omega.{arith}
use Prim.Native.Nat.{suc, ◌+◌, ◌-◌, ◌<◌}
use lib.ListN.{length, get_or, take}
use borrow.Author.Rules.{rules, get_or_read}
use Rattle.limits.specs.Limits.{channel_limit}
use Rattle.channel_log.specs.{Calls.{accepted, returned}, Distance.{reading}}
use Rattle.recorder.specs.{Store.{store_of, replied}, Decisions.{Measurable, end_reply, sum_of}}
use Rattle.recorder.proofs.Decided.{answered_ok, answered_err}
use Rattle.recorder.proofs.Replays.{replay_refused, replay_large, replay_many, replay_short, runnable, replay_measurable, replay_done, last_value}
use Rattle.recorder.proofs.Tool+K+K+Column.take_events.Goals as goal

pub returns-in_err-check_loaded : goal.returns-in_err-check_loaded
returns-in_err-check_loaded g c =
    let t = store_of g.K.Kind.meaning c.args.self.now in
    let out = g.K.Kind.meaning.numbers c.args.values.now in
    ap (λ r. (replied g.K.Kind.meaning r c.args.self.now, out)) (passed_on c.from_residual.result c.in_err-check_loaded.field-0.0 c.from_residual.ensures.1)
    ∙ replay_refused t c.args.channel c.args.word.now c.args.pulses.now out c.in_err-check_loaded.field-0.0
    (judgement_refused _ _ (sym c.check_loaded.ensures.refusal ∙ c.in_err-check_loaded.was))

pub returns-then-not-word_in_order : goal.returns-then-not-word_in_order
returns-then-not-word_in_order g c =
    let t = store_of g.K.Kind.meaning c.args.self.now in
    let out = g.K.Kind.meaning.numbers c.args.values.now in
    replay_large t c.args.channel c.args.word.now c.args.pulses.now out
    (judgement_accepted _ (sym c.check_loaded.ensures.refusal ∙ c.in_ok-check_loaded.was))
    (sym c.word_in_order.ensures ∙ c.if-not-word_in_order.true)

pub returns-in_err-total : goal.returns-in_err-total
returns-in_err-total g c =
    let t = store_of g.K.Kind.meaning c.args.self.now in
    let out = g.K.Kind.meaning.numbers c.args.values.now in
    ap (λ r. (replied g.K.Kind.meaning r c.args.self.now, out))
    (passed_on c.from_residual-in_err-total.result c.in_err-total.field-0.0 c.from_residual-in_err-total.ensures.1)
    ∙ replay_many t c.args.channel c.args.word.now c.args.pulses.now out
    (judgement_accepted _ (sym c.check_loaded.ensures.refusal ∙ c.in_ok-check_loaded.was))
    (sym c.word_in_order.ensures ∙ c.if-not-word_in_order.false) c.in_err-total.field-0.0
    (answered_err _ _ _ (sym c.total_with_all.ensures ∙ c.in_err-total.was))

pub returns-then-values-word : goal.returns-then-values-word
returns-then-values-word g c =
    let t = store_of g.K.Kind.meaning c.args.self.now in
    let out = g.K.Kind.meaning.numbers c.args.values.now in
    let l = answered_ok _ _ _ (sym c.total_with_all.ensures ∙ c.in_ok-total.was) in
    replay_short t c.args.channel c.args.word.now c.args.pulses.now out
    (judgement_accepted _ (sym c.check_loaded.ensures.refusal ∙ c.in_ok-check_loaded.was))
    (sym c.word_in_order.ensures ∙ c.if-not-word_in_order.false) l.0 (omega (arith, g.met.K.Kind.count c.args.values.now))

pub run-last-requires-clause-run : goal.run-last-requires-clause-run
run-last-requires-clause-run g c =
    let t = store_of g.K.Kind.meaning c.args.self.now in
    let out = g.K.Kind.meaning.numbers c.args.values.now in
    let l = answered_ok _ _ _ (sym c.total_with_all.ensures ∙ c.in_ok-total.was) in
    runnable t c.args.channel c.args.word.now c.args.pulses.now out
    (judgement_accepted _ (sym c.check_loaded.ensures.refusal ∙ c.in_ok-check_loaded.was))
    (sym c.word_in_order.ensures ∙ c.if-not-word_in_order.false) l.0 (omega (arith, g.met.K.Kind.count c.args.values.now))

pub measured-requires : goal.measured-requires
measured-requires g c =
    let t = store_of g.K.Kind.meaning c.args.self.now in
    let out = g.K.Kind.meaning.numbers c.args.values.now in
    let l = answered_ok _ _ _ (sym c.total_with_all.ensures ∙ c.in_ok-total.was) in
    subst⁻¹ (Measurable t.wheel) l.1
    (replay_measurable t c.args.channel c.args.word.now c.args.pulses.now out
    (judgement_accepted _ (sym c.check_loaded.ensures.refusal ∙ c.in_ok-check_loaded.was))
    (sym c.word_in_order.ensures ∙ c.if-not-word_in_order.false) l.0 (omega (arith, g.met.K.Kind.count c.args.values.now)))

pub returns-then-word-eq0 : goal.returns-then-word-eq0
returns-then-word-eq0 g c =
    let t = store_of g.K.Kind.meaning c.args.self.now in
    let out = g.K.Kind.meaning.numbers c.args.values.now in
    let b = g.K.Kind.meaning.numbers c.run-last.new.values in
    let l = answered_ok _ _ _ (sym c.total_with_all.ensures ∙ c.in_ok-total.was) in
    let cl : length t.current ≡ channel_limit = search rules in
    let tl : length t.total ≡ channel_limit = search rules in
    let sum = get_or t.total c.args.channel 0 + sum_of (take (length c.args.word.now) c.args.pulses.now) in
    let z : length c.args.word.now ≡ 0 = omega arith in
    rw (c.run-last.ensures.state, l.1)
    (replay_done t c.args.channel c.args.word.now c.args.pulses.now out
    (judgement_accepted _ (sym c.check_loaded.ensures.refusal ∙ c.in_ok-check_loaded.was))
    (sym c.word_in_order.ensures ∙ c.if-not-word_in_order.false) l.0 (omega (arith, g.met.K.Kind.count c.args.values.now)) accepted b cl tl
    c.run-last.ensures.values (sym (ap (λ n. end_reply t.wheel (take n b) sum) z)))

pub returns : goal.returns
returns g c =
    let t = store_of g.K.Kind.meaning c.args.self.now in
    let out = g.K.Kind.meaning.numbers c.args.values.now in
    let b = g.K.Kind.meaning.numbers c.run-last.new.values in
    let l = answered_ok _ _ _ (sym c.total_with_all.ensures ∙ c.in_ok-total.was) in
    let cl : length t.current ≡ channel_limit = search rules in
    let tl : length t.total ≡ channel_limit = search rules in
    let sum = get_or t.total c.args.channel 0 + sum_of (take (length c.args.word.now) c.args.pulses.now) in
    let k = length c.args.word.now - 1 in
    let z : suc k ≡ length c.args.word.now = omega arith in
    let inside : k < length b = omega (arith, g.met.K.Kind.count c.run-last.new.values, c.run-last.ensures.length) in
    let x = c.index-values-word.result in
    let at = ap g.K.Kind.meaning.number c.index-values-word.is ∙ g.met.K.Kind.read c.run-last.new.values k x in
    let v : c.wide-value.result ≡ get_or b k 0 =
    c.wide-value.ensures ∙ get_or_read b k (g.K.Kind.meaning.number x) inside at 0 in
    let e : returned (reading t.wheel c.wide-value.result sum) ≡ end_reply t.wheel (take (length c.args.word.now) b) sum =
    ap (λ v. returned (reading t.wheel v sum)) v ∙ last_value t.wheel b k sum inside ∙ ap (λ n. end_reply t.wheel (take n b) sum) z in
    rw (c.measured.ensures, c.run-last.ensures.state, l.1)
    (replay_done t c.args.channel c.args.word.now c.args.pulses.now out
    (judgement_accepted _ (sym c.check_loaded.ensures.refusal ∙ c.in_ok-check_loaded.was))
    (sym c.word_in_order.ensures ∙ c.if-not-word_in_order.false) l.0 (omega (arith, g.met.K.Kind.count c.args.values.now)) _ b cl tl
    c.run-last.ensures.values e)
