-- `machines::check_table` meets its contract: 11 where the tests fail, none where they hold.
use mathlib.Core.Path.{sym, ◌∙◌}
use Rattle.machines.proofs.TableTests.{passed, failed}
use Rattle.machines.proofs.check_table.Goals as goal

pub returns-then-table_in_order : goal.returns-then-table_in_order
returns-then-table_in_order c = passed _ _ _ _ _ _ (sym c.table_in_order.ensures ∙ c.if-table_in_order.true)

pub returns-else-table_in_order : goal.returns-else-table_in_order
returns-else-table_in_order c = failed _ _ _ _ _ _ (sym c.table_in_order.ensures ∙ c.if-table_in_order.false)
