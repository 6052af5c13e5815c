-- `write_path` meets its contract. The loop's invariant: the word of place j in order of play, then what the buffer holds from there, is
-- the whole.
use mathlib.Core.List.{[], reverse}
use lib.ListN.{get_or}
use Rattle.refusal.specs.Refusal.{put}
use Rattle.conformance.specs.PairQueue.{Writable}
use Rattle.conformance.proofs.Words.{Rest}
use Rattle.conformance.proofs.Queue.write_path.Given as goal

abbrev pub invariant-loop-at : goal.invariant-loop-at
invariant-loop-at g l =
    (x : Writable l.place l.n l.self.pairs l.initial.word) →
    Rest x.reaches.words l.j l.at l.word (put (reverse (get_or x.reaches.words l.place [])) l.initial.word)
