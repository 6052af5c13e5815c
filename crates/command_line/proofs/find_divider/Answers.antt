use Rattle.std.proofs.Common.{arith, ◌∙◌}
use Rattle.command_line.proofs.Parts.{divider_here, divider_on, divider_over}
use Rattle.command_line.proofs.find_divider.Goals as goal

pub returns-then-starts_with : goal.returns-then-starts_with
returns-then-starts_with c =
    let z = divider_here c.args.text.now c.loop-i.i _ c.starts_with.ensures.value c.loop-i-test.true c.if-starts_with.true in
    omega (arith, c.loop-i.invariant)

pub loop-i-preserved : goal.loop-i-preserved
loop-i-preserved c =
    divider_on c.args.text.now c.loop-i.i _ c.starts_with.ensures.value c.loop-i-test.true c.if-starts_with.false ∙ c.loop-i.invariant

pub returns : goal.returns
returns c =
    let z = divider_over c.args.text.now c.loop-i.i c.loop-i-test.false in
    omega (arith, c.loop-i.invariant)
