-- `run` meets its contract: the loop's invariant is `Ran`.
use Rattle.gurvazze_host.specs.FileCalls.{kind_of_width}
use Rattle.gurvazze_host.proofs.Runs.{Ran}
use Rattle.gurvazze_host.proofs.run.Given as goal

abbrev pub invariant-loop-i : goal.invariant-loop-i
invariant-loop-i g l = Ran (kind_of_width g.row.WIDTH) l.events l.table.states l.entries l.word l.initial.to l.state l.to l.i
