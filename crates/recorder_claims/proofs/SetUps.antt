-- A tool's set-up is judged by its conditions: 1 to 3, then 18.
use mathlib.Core.{Path.{refl}, List.{[], ◌∷◌}}
use Rattle.refusal.specs.{Refusal.{Judged, First, plain, condition_numbers, right_places, has_place, part_of, order}, RefusalAnswers.{plain_unless}}
use Rattle.refusal.proofs.Refusals.{plain_first, first_append}
use Rattle.values.specs.{Setup.{setup_conditions}, SetupTests.{setup_refusal}}
use Rattle.values.proofs.Setups.{setup_first, judged_after_setup}
use Rattle.channel_log.specs.Distance.{WheelFault}
use Rattle.recorder.specs.{Store.{ToolSetup, tool_setup_conditions}, ToolTests.{wheel_test, tool_setup_refusal}}
use Rattle.recorder.proofs.Held.{wheel_fault, no_wheel_fault}
use Rattle.refusal.specs.declared.Refusal.TheVariants.{SetupWheel}

tool_setup_first : (s : ToolSetup) → First (tool_setup_conditions s) (tool_setup_refusal s)
unfolding tool_setup_conditions tool_setup_refusal
tool_setup_first s =
    first_append (setup_conditions s.values) (plain SetupWheel (WheelFault s.wheel) ∷ []) (setup_refusal s.values) (plain_unless
    (wheel_test s.wheel) SetupWheel)
    (setup_first s.values)
    (plain_first SetupWheel (WheelFault s.wheel) (wheel_test s.wheel) (wheel_fault s.wheel) (no_wheel_fault s.wheel))

pub tool_setup_judged : (s : ToolSetup) → Judged (tool_setup_conditions s) (tool_setup_refusal s)
unfolding tool_setup_conditions condition_numbers right_places has_place part_of order
tool_setup_judged s =
    judged_after_setup s.values (plain SetupWheel (WheelFault s.wheel) ∷ []) (tool_setup_refusal s) (tool_setup_first s) refl refl refl
