-- `gurvazze_trial` meets its contract: the large table has room for every table, and every answer has room in a code.
use mathlib.Core.Path.{sym, subst}
use native.Mathlib.Omega.{arith}
use Rattle.channel_io.specs.FileConditions.{number_file}
use Rattle.channel_file.proofs.Claims.{channel_form}
use Rattle.gurvazze_host.specs.Codes.{SmallVerdict}
use Rattle.gurvazze_host.proofs.Calls.{trial_small}
use Rattle.gurvazze_host.proofs.gurvazze_trial.Goals as goal

pub trial-requires : goal.trial-requires
trial-requires c = record { small = omega arith; large = omega arith; room = λ d. omega arith }

pub verdict_code-requires : goal.verdict_code-requires
verdict_code-requires c = subst SmallVerdict (sym c.trial.ensures.answer)
    (trial_small number_file channel_form c.args.text.now c.device_of-device.result.table.states c.device_of-device.result.start
    c.device_of-device.result.table.entries.now c.args.word.now)
