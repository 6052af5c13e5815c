-- `fill_values` meets its contract. The loop's invariant: the entries of the states passed are right.
use Prim.Native.Nat.{◌*◌}
use mathlib.Core.Path.{◌≡◌}
use lib.ListN.{length}
use Rattle.values.specs.Setup.{meet_of}
use Rattle.synthesis.specs.{TableEntries.{state_value, EntriesTo}}
use Rattle.synthesis.proofs.entries.fill_values.Given as goal

abbrev pub invariant-loop-state : goal.invariant-loop-state
invariant-loop-state l =
    (length l.to ≡ length l.initial.to)
    × EntriesTo (state_value (meet_of l.value_set.kind l.value_set.meet.now) l.value_set.top l.nodes.kinds l.nodes.firsts l.nodes.values l.nodes.count
    l.states) l.events (l.state * l.events) l.to
