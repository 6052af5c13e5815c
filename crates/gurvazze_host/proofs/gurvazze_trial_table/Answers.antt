-- `gurvazze_trial_table` meets its contract: every answer has room in a code.
use mathlib.Core.Path.{sym, subst}
use Rattle.gurvazze_host.specs.Codes.{SmallVerdict}
use Rattle.gurvazze_host.proofs.Small.{verdict_small}
use Rattle.gurvazze_host.proofs.gurvazze_trial_table.Goals as goal

pub verdict_code-requires : goal.verdict_code-requires
verdict_code-requires c = subst SmallVerdict (sym c.trial.ensures.answer) (verdict_small _ _)
