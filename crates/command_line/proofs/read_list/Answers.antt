use Rattle.command_line.proofs.Lists.{was_put, lists_stored}
use Rattle.command_line.proofs.read_list.Goals as goal

pub returns : goal.returns
returns c = lists_stored _ _ _ _ (was_put _ c.put_list.ensures c.in_ok-n.ensures.ok_part) _ _ c.if-to-n.false c.put_list-2.ensures
