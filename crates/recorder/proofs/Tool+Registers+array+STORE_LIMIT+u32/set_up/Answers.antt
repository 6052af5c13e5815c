-- `set_up` of `recorder` meets its contract: refused with the blank tool, or the new tool.
use mathlib.Core.Path.{sym, ◌∙◌}
use Rattle.values.specs.Setup.{register_setup}
use Rattle.channel_log.specs.Distance.{wheel_of_turn}
use Rattle.recorder.specs.{Store.{tool_setup}, Called.{blank}}
use Rattle.recorder.proofs.{Decided.{set_up_refused, set_up_accepted, narrow_register}}
use Rattle.recorder.proofs.Tool+Registers+array+STORE_LIMIT+u32.set_up.Goals as goal

pub returns-in-Err : goal.returns-in-Err
unfolding blank
returns-in-Err c =
    let s = tool_setup (register_setup c.args.events c.args.lines) (wheel_of_turn c.args.pulses c.args.millimetres) in
    set_up_refused s _ c.in-Err.refusal (sym c.check_tool.ensures ∙ c.in-Err.is) c.empty_tool.ensures

pub returns : goal.returns
returns c =
    let s = tool_setup (register_setup c.args.events c.args.lines) (wheel_of_turn c.args.pulses c.args.millimetres) in
    set_up_accepted s _ c.in_default.field-0 (sym c.check_tool.ensures ∙ c.in_default.is)
    (λ ok.
    rw c.of_turn.ensures at c.empty_tool-2.ensures ∙ narrow_register c.args.events c.args.pulses c.args.millimetres c.args.lines ok)
