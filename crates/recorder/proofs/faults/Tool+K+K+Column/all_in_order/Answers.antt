-- `all_in_order` of `recorder::faults` meets its contract: the set-up's test, then that of every channel.
use mathlib.Core.Path.{sym, ◌∙◌}
use borrow.Author.Rules.{rules}
use Rattle.theory.proofs.ValueSets.{every_none, every_more, every_not, every_done, and_passed, and_failed}
use Rattle.recorder.proofs.faults.Tool+K+K+Column.all_in_order.Goals as goal

pub returns-then-not-in_order : goal.returns-then-not-in_order
returns-then-not-in_order g c = sym (and_failed _ (sym c.in_order.ensures ∙ c.if-not-in_order.true))

pub loop-channel-init : goal.loop-channel-init
loop-channel-init g c = (search rules, every_none _)

pub returns-then-not-channel_in_order : goal.returns-then-not-channel_in_order
returns-then-not-channel_in_order g c =
    sym
    (and_passed (sym c.in_order.ensures ∙ c.if-not-in_order.false)
    ∙ every_not _ _ c.loop-channel.channel (search rules) (sym c.channel_in_order.ensures ∙ c.if-not-channel_in_order.true))

pub loop-channel-preserved : goal.loop-channel-preserved
loop-channel-preserved g c =
    (search rules, every_more _ _ c.loop-channel.invariant.1 (sym c.channel_in_order.ensures ∙ c.if-not-channel_in_order.false))

pub returns : goal.returns
returns g c =
    sym
    (and_passed (sym c.in_order.ensures ∙ c.if-not-in_order.false)
    ∙ every_done _ _ _ c.loop-channel.invariant.0 (search rules) c.loop-channel.invariant.1)
