-- `recorder::empty_tool` meets its contract: field by field.
use borrow.Author.Rules.{rules}
use Rattle.recorder.specs.Called.{empty_store}
use Rattle.recorder.proofs.empty_tool.Goals as goal

pub returns : goal.returns
unfolding empty_store
returns g c = search (rules, c.blank.ensures)
