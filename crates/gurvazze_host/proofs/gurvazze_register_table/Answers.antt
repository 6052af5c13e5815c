-- `gurvazze_register_table` meets its contract: every answer has room in a code.
use mathlib.Core.Path.{sym, subst}
use Rattle.channel_io.specs.RegisterFiles.{register_file}
use Rattle.channel_file.proofs.RegisterClaims.{register_form}
use Rattle.gurvazze_host.specs.Codes.{SmallAnswer}
use Rattle.gurvazze_host.proofs.Calls.{table_small}
use Rattle.gurvazze_host.proofs.gurvazze_register_table.Goals as goal

pub answer_code-requires : goal.answer_code-requires
answer_code-requires c = subst SmallAnswer (sym c.table.ensures.answer) (table_small register_file register_form c.args.text.now c.args.to.now)
