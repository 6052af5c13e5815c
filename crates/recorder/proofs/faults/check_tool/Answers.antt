-- `check_tool` meets its contract: what the set-up is refused by, then 18.
use mathlib.Core.Path.{sym, ◌∙◌, ap}
use Rattle.refusal.specs.Refusal.{refusal_of}
use Rattle.refusal.proofs.Answers.{passed_on}
use Rattle.values.specs.HandedIn.{setup_of}
use Rattle.channel_log.specs.Distance.{wheel_of_turn}
use Rattle.recorder.specs.Store.{tool_setup}
use Rattle.recorder.proofs.Held.{values_refused, wheel_refused, none_refused}
use Rattle.recorder.proofs.faults.check_tool.Goals as goal

pub returns-in_err-check : goal.returns-in_err-check
returns-in_err-check c =
    let s = tool_setup (setup_of c.args.set_up) (wheel_of_turn c.args.pulses c.args.millimetres) in
    passed_on c.from_residual.result c.in_err-check.field-0.0 c.from_residual.ensures.1
    ∙ sym (values_refused s _ (sym c.check.ensures.judged ∙ ap refusal_of c.in_err-check.was))

pub returns-then-not-wheel_in_order : goal.returns-then-not-wheel_in_order
returns-then-not-wheel_in_order c =
    let s = tool_setup (setup_of c.args.set_up) (wheel_of_turn c.args.pulses c.args.millimetres) in
    sym (wheel_refused s (sym c.check.ensures.judged ∙ ap refusal_of c.in_ok-check.was) (sym c.wheel_in_order.ensures ∙ c.if-not-wheel_in_order.true))

pub returns : goal.returns
returns c =
    let s = tool_setup (setup_of c.args.set_up) (wheel_of_turn c.args.pulses c.args.millimetres) in
    sym (none_refused s (sym c.check.ensures.judged ∙ ap refusal_of c.in_ok-check.was) (sym c.wheel_in_order.ensures ∙ c.if-not-wheel_in_order.false))
