-- `open_row` meets its contract. The loop's invariant: the entries of the events passed are top.
use Rattle.synthesis.specs.TableEntries.{RowTo}
use Rattle.synthesis.proofs.entries.open_row.Given as goal

abbrev pub invariant-loop-event : goal.invariant-loop-event
invariant-loop-event l = RowTo (λ e. l.top) l.events l.state l.event l.initial.to l.to
