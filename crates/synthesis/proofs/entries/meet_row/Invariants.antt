-- `meet_row` meets its contract. The loop's invariant: the marked nodes of the words from w on came.
use mathlib.Core.Path.{◌≡◌}
use Prim.Native.Nat.{◌≤◌, ◌*◌}
use lib.ListN.{length}
use Rattle.limits.specs.Limits.{node_limit}
use Rattle.values.specs.Setup.{meet_of}
use Rattle.synthesis.specs.{NodeWords.{set_words, set_of}, MarkedNodes.{marked_in, Came}, TableEntries.{Met}}
use Rattle.synthesis.proofs.entries.meet_row.Given as goal

abbrev pub invariant-loop-w : goal.invariant-loop-w
invariant-loop-w l =
    (l.w ≤ set_words) × (length l.to ≡ length l.initial.to)
    × Came (Met (meet_of l.value_set.kind l.value_set.meet.now) l.nodes.firsts l.nodes.values l.events l.state) (marked_in (set_of l.set) l.marks)
    node_limit l.initial.to (l.w * 64) l.to
