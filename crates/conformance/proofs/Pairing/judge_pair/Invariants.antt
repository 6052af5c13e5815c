-- `judge_pair` meets its contract. The loop's invariant: what the events before e show.
use Rattle.conformance.specs.PairQueue.{below_on, equal_on, GoodOn, input_of}
use Rattle.conformance.proofs.Pairing.judge_pair.Given as goal

abbrev pub invariant-loop-e : goal.invariant-loop-e
invariant-loop-e l = GoodOn l.e (below_on (input_of l.self) l.s l.t) (equal_on (input_of l.self) l.s l.t) l.all_equal
