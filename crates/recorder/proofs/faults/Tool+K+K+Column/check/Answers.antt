-- `check` of `recorder::faults` meets its contract: 17 and 25, then 14.
use Rattle.refusal.proofs.Answers.{passed_on}
use Rattle.refusal.proofs.Refusals.{judgement_accepted, judgement_refused}
use Rattle.refusal.specs.{RefusalAnswers.{judgement, or_else}, declared.Refusal.TheVariants.{ChannelNumber}}
use mathlib.Core.{Path.{sym, ◌∙◌, ap}, Bool.{cond}, Option.{none, some}}
use native.Mathlib.Omega.{arith}
use borrow.Author.Tests.{lt-ltb, le-ltb}
use Rattle.channel_log.specs.CallSteps.{channel_refusal}
use Rattle.recorder.specs.{Store.{store_of}, Decisions.{fault_of}}
use Rattle.recorder.proofs.faults.Tool+K+K+Column.check.Goals as goal

pub returns-in_err-check_store-clause-refusal : goal.returns-in_err-check_store-clause-refusal
unfolding judgement or_else
returns-in_err-check_store-clause-refusal g c =
    let t = store_of g.K.Kind.meaning c.args.self.now in
    let e = judgement_refused _ _ (sym c.check_store.ensures ∙ c.in_err-check_store.was) in
    passed_on c.from_residual.result c.in_err-check_store.field-0.0 c.from_residual.ensures.1
    ∙ sym (ap (λ o. judgement (or_else o (channel_refusal c.args.channel)))
    (ap (fault_of t) (sym c.named_in_order.ensures) ∙ e))

pub returns-then-channel-ge-CHANNEL_LIMIT-clause-refusal : goal.returns-then-channel-ge-CHANNEL_LIMIT-clause-refusal
unfolding judgement or_else
returns-then-channel-ge-CHANNEL_LIMIT-clause-refusal g c =
    let t = store_of g.K.Kind.meaning c.args.self.now in
    let e = judgement_accepted _ (sym c.check_store.ensures ∙ c.in_ok-check_store.was) in
    sym
    (ap (λ o. judgement (or_else o (channel_refusal c.args.channel))) (ap (fault_of t) (sym c.named_in_order.ensures) ∙ e)
    ∙ ap (λ b. judgement (cond b none (some ChannelNumber))) (le-ltb _ _ (omega arith)))

pub returns-clause-refusal : goal.returns-clause-refusal
unfolding judgement or_else
returns-clause-refusal g c =
    let t = store_of g.K.Kind.meaning c.args.self.now in
    let e = judgement_accepted _ (sym c.check_store.ensures ∙ c.in_ok-check_store.was) in
    sym
    (ap (λ o. judgement (or_else o (channel_refusal c.args.channel))) (ap (fault_of t) (sym c.named_in_order.ensures) ∙ e)
    ∙ ap (λ b. judgement (cond b none (some ChannelNumber))) (lt-ltb _ _ (omega arith)))
