-- `check_loaded` of `recorder::faults` meets its contract: 17, 25 and 14, then 15.
use Rattle.refusal.proofs.Answers.{passed_on}
use Rattle.refusal.proofs.Refusals.{judgement_accepted, judgement_refused}
use Rattle.refusal.specs.{RefusalAnswers.{judgement, or_else}, declared.Refusal.TheVariants.{ChannelEmpty}}
use mathlib.Core.{Path.{sym, ◌∙◌, ap}, Bool.{cond}, Option.{none, some}}
use native.Mathlib.Omega.{arith}
use borrow.Author.Tests.{lt-ltb, le-ltb}
use Rattle.channel_log.specs.CallSteps.{empty_refusal}
use Rattle.recorder.specs.{Store.{store_of, channels}}
use Rattle.recorder.proofs.{Held.{empty_held}, Decided.{named_of}}
use Rattle.recorder.proofs.faults.Tool+K+K+Column.check_loaded.Goals as goal

pub returns-in_err-check-clause-refusal : goal.returns-in_err-check-clause-refusal
unfolding judgement or_else
returns-in_err-check-clause-refusal g c =
    let t = store_of g.K.Kind.meaning c.args.self.now in
    let e = judgement_refused _ _ (sym c.check.ensures.refusal ∙ c.in_err-check.was) in
    passed_on c.from_residual.result c.in_err-check.field-0.0 c.from_residual.ensures.1
    ∙ sym (ap (λ o. judgement (or_else o (empty_refusal (channels t c.args.channel)))) e)

pub returns-then-self-channel-eq0-clause-refusal : goal.returns-then-self-channel-eq0-clause-refusal
unfolding judgement or_else
returns-then-self-channel-eq0-clause-refusal g c =
    let t = store_of g.K.Kind.meaning c.args.self.now in
    let e = judgement_accepted _ (sym c.check.ensures.refusal ∙ c.in_ok-check.was) in
    sym
    (ap (λ o. judgement (or_else o (empty_refusal (channels t c.args.channel)))) e
    ∙ ap judgement (empty_held c.args.channel _ t.setup.events _ _ _ t.value t.next (named_of t c.args.channel e).inside)
    ∙ ap (λ b. judgement (cond b none (some ChannelEmpty))) (le-ltb _ _ (omega arith)))

pub returns-clause-refusal : goal.returns-clause-refusal
unfolding judgement or_else
returns-clause-refusal g c =
    let t = store_of g.K.Kind.meaning c.args.self.now in
    let e = judgement_accepted _ (sym c.check.ensures.refusal ∙ c.in_ok-check.was) in
    sym
    (ap (λ o. judgement (or_else o (empty_refusal (channels t c.args.channel)))) e
    ∙ ap judgement (empty_held c.args.channel _ t.setup.events _ _ _ t.value t.next (named_of t c.args.channel e).inside)
    ∙ ap (λ b. judgement (cond b none (some ChannelEmpty))) (lt-ltb _ _ (omega arith)))
