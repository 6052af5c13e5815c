-- `push_successors` meets its contract. The loop's invariant: the queue holds the words with those of the successors on the events before e.
use Rattle.conformance.specs.PairQueue.{HoldsPairs, Expandable, input_of}
use Rattle.conformance.proofs.Successors.{parts}
use Rattle.conformance.proofs.Queue.push_successors.Given as goal

abbrev pub invariant-loop-e : goal.invariant-loop-e
invariant-loop-e g l =
    (h : Expandable (input_of l.pairing) l.initial.self l.i) → HoldsPairs (input_of l.pairing) (parts (input_of l.pairing) h.words l.i l.e) l.self
