-- `gurvazze_compile` meets its contract: every answer has room in a code.
use mathlib.Core.Path.{sym, subst}
use Rattle.gurvazze_host.specs.Codes.{SmallAnswer}
use Rattle.gurvazze_host.proofs.Small.{states_small}
use Rattle.gurvazze_host.proofs.gurvazze_compile.Goals as goal

pub answer_code-requires : goal.answer_code-requires
answer_code-requires c = subst SmallAnswer (sym c.compile.ensures.answer) (states_small _ _ _)
