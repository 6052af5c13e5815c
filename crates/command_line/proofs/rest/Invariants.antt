-- What is left begins with the word that is so many words behind word n.
use Rattle.std.proofs.Common.{◌-◌}
use Rattle.command_line.proofs.WordLemmas.{Passing}
use Rattle.command_line.proofs.rest.Given as goal

abbrev pub invariant-loop : goal.invariant-loop
invariant-loop l = Passing l.line l.n l.text (l.n - l.counter)
