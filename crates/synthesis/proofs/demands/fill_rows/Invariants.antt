-- `fill_rows` meets its contract. The loop's invariant: the rows of the root's formula and of the parts of the transitions passed have
-- their demands.
use Rattle.synthesis.specs.{DemandRows.{RowsTo}}
use Rattle.synthesis.proofs.demands.fill_rows.Given as goal

abbrev pub invariant-loop-i : goal.invariant-loop-i
invariant-loop-i l = RowsTo l.nodes.kinds l.binders l.nodes.count l.rows l.i
