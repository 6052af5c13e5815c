use Rattle.std.proofs.Common.{arith}
use Rattle.command_line.proofs.Lists.{was_put, not_put, puts_malformed, putting_none, putting_more, putting_bad, putting_done}
use Rattle.command_line.proofs.put_list.Goals as goal

pub loop-word-init : goal.loop-word-init
loop-word-init c = rw c.into_iter-word-iterator.ensures.into_iter_gives (putting_none c.args.first c.args.text.now c.args.out.now (omega arith))

pub returns-in_err-n : goal.returns-in_err-n
returns-in_err-n c =
    rw c.from_residual.ensures
    (puts_malformed
    (putting_bad c.args.first c.args.text.now c.args.out.now _ _ _ _ c.in-Some.word.now _ (rw c.in-Some.ensures.steps at c.loop-word.invariant)
    (not_put c.put_item.ensures c.in_err-n.was)))

pub loop-word-preserved : goal.loop-word-preserved
loop-word-preserved c =
    putting_more c.args.first c.args.text.now c.args.out.now _ _ _ _ c.in-Some.word.now _ (rw c.in-Some.ensures.steps at c.loop-word.invariant) _ _
    (was_put _ c.put_item.ensures c.in_ok-n.was)

pub returns : goal.returns
returns c = putting_done c.args.first c.args.text.now c.args.out.now _ _ _ _ (rw c.in-None.ensures.steps.0 at c.loop-word.invariant)
