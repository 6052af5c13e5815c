-- `depth` meets its contract. The loop's invariant: what is counted and the word of place j make up the word.
use native.Mathlib.Omega.{arith}
use Rattle.conformance.proofs.Words.{short_word}
use Rattle.conformance.proofs.Queue.depth.Goals as goal

pub overflow_add-n : goal.overflow_add-n
overflow_add-n g c =
    omega (arith, (c.loop-j.invariant c.requires).1, short_word _ _ c.requires.linked _ c.requires.has, c.requires.room, c.requires.has)
