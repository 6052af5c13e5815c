-- `marks_of` meets its contract. The loop's invariant: the nodes before i are marked where they are of the kind.
use mathlib.Core.{Path.{◌≡◌}}
use lib.ListN.{length}
use Rattle.synthesis.specs.{NodeWords.{set_words}, MarkedNodes.{Marks}}
use Rattle.synthesis.proofs.node_sets.marks_of.Given as goal

abbrev pub invariant-loop-i : goal.invariant-loop-i
invariant-loop-i l = (length l.marks ≡ set_words) × Marks l.nodes.kinds l.i l.number l.marks
