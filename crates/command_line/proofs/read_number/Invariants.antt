-- The digits passed stand for a number, which is kept up to the limit.
use Rattle.command_line.proofs.Numbers.{Reading}
use Rattle.command_line.proofs.read_number.Given as goal

abbrev pub invariant-loop-b : goal.invariant-loop-b
invariant-loop-b l = Reading l.word l.v l.b-index
