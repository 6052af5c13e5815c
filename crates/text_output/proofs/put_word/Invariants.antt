-- The invariant: the bytes passed were put.
use Rattle.std.proofs.Common.{take}
use Rattle.text_output.specs.Output.{Puts}
use Rattle.text_output.proofs.put_word.Given as goal

abbrev pub invariant-loop-b : goal.invariant-loop-b
invariant-loop-b l = Puts l.initial.out (take l.b-index l.w) l.out l.at l.n
