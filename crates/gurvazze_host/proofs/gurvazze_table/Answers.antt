-- `gurvazze_table` meets its contract: every answer has room in a code.
use mathlib.Core.Path.{sym, subst}
use Rattle.channel_io.specs.FileConditions.{number_file}
use Rattle.channel_file.proofs.Claims.{channel_form}
use Rattle.gurvazze_host.specs.Codes.{SmallAnswer}
use Rattle.gurvazze_host.proofs.Calls.{table_small}
use Rattle.gurvazze_host.proofs.gurvazze_table.Goals as goal

pub answer_code-requires : goal.answer_code-requires
answer_code-requires c = subst SmallAnswer (sym c.table.ensures.answer) (table_small number_file channel_form c.args.text.now c.args.to.now)
