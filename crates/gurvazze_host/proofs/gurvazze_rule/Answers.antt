-- `gurvazze_rule` meets its contract: every answer has room in a code.
use mathlib.Core.Path.{sym, subst}
use Rattle.gurvazze_host.specs.Codes.{SmallAnswer}
use Rattle.gurvazze_host.proofs.Small.{count_small}
use Rattle.gurvazze_host.proofs.gurvazze_rule.Goals as goal

pub answer_code-requires : goal.answer_code-requires
answer_code-requires c = subst SmallAnswer (sym c.write_rule.ensures.answer) (count_small _ _ _ _ _)
