use Rattle.std.proofs.Common.{◌≡◌, ◌-◌, ◌+◌, suc, rules, arith}
use Rattle.std.proofs.lemmas.List.{nil_from_length}
use Rattle.command_line.proofs.WordLemmas.{passing_none, passing_more, passing_over, passing_done}
use Rattle.command_line.proofs.rest.Goals as goal

pub loop-init : goal.loop-init
loop-init c = rw c.skip_spaces-text.ensures (passing_none c.args.line.now c.args.n _ (omega arith))

pub returns-then-is_empty : goal.returns-then-is_empty
returns-then-is_empty c =
    let e = nil_from_length c.loop.text.now (search rules) in
    rw e (passing_over c.args.line.now c.args.n _ (rw e at c.loop.invariant))

pub loop-preserved : goal.loop-preserved
loop-preserved c =
    let d : c.args.n - c.loop.counter ≡ suc (c.args.n - (c.loop.counter + 1)) = omega arith in
    rw (c.skip_spaces-text-in-loop.ensures, c.split_once.ensures.behind)
    (passing_more c.args.line.now c.args.n c.loop.text.now _ (rw d at c.loop.invariant))

pub returns : goal.returns
returns c =
    let d : c.args.n - c.loop.counter ≡ 0 = omega arith in
    passing_done c.args.line.now c.args.n c.loop.text.now (rw d at c.loop.invariant)
