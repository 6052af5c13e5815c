-- `named_in_order` of `recorder::faults` meets its contract: the set-up's test, then the channel's, where there is one.
use mathlib.Core.Path.{sym, ◌∙◌, ap}
use native.Mathlib.Omega.{arith}
use Rattle.theory.proofs.ValueSets.{and_passed, and_failed}
use Rattle.recorder.specs.Store.{store_of}
use Rattle.recorder.specs.ToolTests.{channel_test}
use Rattle.recorder.proofs.Held.{held_above}
use Rattle.recorder.proofs.faults.Tool+K+K+Column.named_in_order.Goals as goal

pub returns-then-not-in_order : goal.returns-then-not-in_order
returns-then-not-in_order g c = sym (and_failed _ (sym c.in_order.ensures ∙ c.if-not-in_order.true))

pub returns-then-channel-ge-CHANNEL_LIMIT : goal.returns-then-channel-ge-CHANNEL_LIMIT
returns-then-channel-ge-CHANNEL_LIMIT g c =
    let t = store_of g.K.Kind.meaning c.args.self.now in
    sym
    (and_passed (sym c.in_order.ensures ∙ c.if-not-in_order.false)
    ∙ ap (channel_test t.setup.events t.setup.kind) (held_above c.args.channel _ t.setup.events _ _ _ t.value t.next (omega arith)))

pub returns : goal.returns
returns g c = c.channel_in_order.ensures ∙ sym (and_passed (sym c.in_order.ensures ∙ c.if-not-in_order.false))
