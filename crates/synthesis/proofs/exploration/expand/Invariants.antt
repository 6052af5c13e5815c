-- `expand` meets its contract. The loop's invariant: state i is as before; and for every rule whose G nodes are marked and every list of
-- sequences that the states were kept for, they are kept for it with the events passed, and the entries passed are right. No two states
-- are the same, and each is linked to from the head of its place.
use Prim.Native.Nat.{ℕ, ◌≤◌, ◌+◌, ◌*◌}
use mathlib.Core.{Path.{◌≡◌}, Bool.{Bool}, List.{List, []}}
use lib.ListN.{length, get_or}
use Rattle.synthesis.specs.{NodeWords.{row}, MarkedNodes.{Marks}, StatePlaces.{place_count, link_count, Different, Chained}}
use Rattle.synthesis.specs.Exploring.{next_bits, Kept, events_to}
use Rattle.synthesis.proofs.exploration.expand.Given as goal

abbrev pub invariant-loop-event : goal.invariant-loop-event
invariant-loop-event l =
    (l.n ≤ l.k) × (l.k ≤ l.limit) × (length l.states ≡ length l.initial.states) × (length l.nexts ≡ length l.initial.nexts)
    × (row l.states l.i ≡ row l.initial.states l.i)
    × ((kinds : List ℕ) (count : ℕ) → Marks kinds count 2 l.marks → (start : List Bool) (P : List (List ℕ)) →
    Kept (next_bits kinds l.nodes.firsts l.rows count) start l.events P l.n (l.i * l.events) l.initial.states l.initial.nexts →
    Kept (next_bits kinds l.nodes.firsts l.rows count) start l.events (events_to (next_bits kinds l.nodes.firsts l.rows count) start l.event P
    (get_or P l.i []))
    l.k (l.i * l.events + l.event) l.states l.nexts)
    × (length l.places.heads ≡ place_count) × (length l.places.links ≡ link_count) × Different l.k l.states × Chained l.k l.states l.places.heads l.places.links
