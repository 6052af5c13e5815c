-- `advance` meets its contract. The loop's invariant: the marked nodes of the words from w on came.
use Prim.Native.Nat.{◌≤◌, ◌*◌}
use Rattle.limits.specs.Limits.{node_limit}
use Rattle.synthesis.specs.{NodeWords.{set_words, set_of}, MarkedNodes.{marked_in, Came}, Exploring.{PassedStates}}
use Rattle.synthesis.proofs.exploration.advance.Given as goal

abbrev pub invariant-loop-w : goal.invariant-loop-w
invariant-loop-w l =
    (l.w ≤ set_words) × Came (PassedStates l.nodes.firsts l.rows l.events) (marked_in (set_of l.set) l.marks) node_limit l.initial.sets (l.w * 64) l.sets
