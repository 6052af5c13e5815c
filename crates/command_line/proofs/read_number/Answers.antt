use Rattle.std.proofs.Common.{rules, arith}
use Rattle.command_line.proofs.Numbers.{reading_none, reading_more, reading_bad, reading_done, empty_number}
use Rattle.command_line.proofs.read_number.Goals as goal

pub returns-then-is_empty : goal.returns-then-is_empty
returns-then-is_empty c = empty_number c.args.word.now (search rules)

pub loop-b-init : goal.loop-b-init
loop-b-init c = reading_none c.args.word.now (search rules)

pub returns-then-not-is_ascii_digit : goal.returns-then-not-is_ascii_digit
returns-then-not-is_ascii_digit c = reading_bad c.args.word.now c.loop-b.v c.loop-b.b-index c.loop-b.invariant c.loop-b-test.true (search rules)

pub loop-b-preserved : goal.loop-b-preserved
loop-b-preserved c =
    rw (c.min-v.ensures, c.from.ensures) (reading_more c.args.word.now c.loop-b.v c.loop-b.b-index c.loop-b.invariant c.loop-b-test.true (search rules))

pub returns : goal.returns
returns c = reading_done c.args.word.now c.loop-b.v c.loop-b.b-index c.loop-b.invariant (omega arith)
