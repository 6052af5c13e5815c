-- The bytes of the words passed were put, and those of the words ahead are due.
use Rattle.command_line.specs.Words.{words}
use Rattle.command_line.proofs.Lists.{Putting}
use Rattle.command_line.proofs.put_list.Given as goal

abbrev pub invariant-loop-word : goal.invariant-loop-word
invariant-loop-word l = Putting l.fn.first l.text l.initial.out l.out l.this l.that (words l.word-iterator.0.now) l.n
