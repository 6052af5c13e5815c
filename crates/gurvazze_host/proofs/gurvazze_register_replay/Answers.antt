-- `gurvazze_register_replay` meets its contract: the large table has room for every table, and every answer has room in a code.
use mathlib.Core.Path.{sym, subst}
use native.Mathlib.Omega.{arith}
use Rattle.channel_io.specs.RegisterFiles.{register_file}
use Rattle.channel_file.proofs.RegisterClaims.{register_form}
use Rattle.gurvazze_host.specs.Codes.{SmallReplay}
use Rattle.gurvazze_host.proofs.Calls.{replay_small}
use Rattle.gurvazze_host.proofs.gurvazze_register_replay.Goals as goal

pub replay-requires : goal.replay-requires
replay-requires c = record { small = omega arith; large = omega arith; room = λ d. omega arith }

pub replay_code-requires : goal.replay_code-requires
replay_code-requires c = subst SmallReplay (sym c.replay.ensures.answer)
    (replay_small register_file register_form c.args.text.now c.args.word.now c.args.to.now)
