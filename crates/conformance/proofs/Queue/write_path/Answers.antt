-- `write_path` meets its contract. The loop's invariant: the word of place j in order of play, then what the buffer holds from there, is
-- the whole.
use native.Mathlib.Omega.{arith}
use Rattle.conformance.proofs.Words.{write_start, write_step}
use Rattle.conformance.proofs.Queue.write_path.Goals as goal

pub loop-at-init : goal.loop-at-init
loop-at-init g c = λ x. write_start _ _ _ _ x.reaches.has x.long

pub loop-at-preserved : goal.loop-at-preserved
loop-at-preserved g c =
    λ x.
    write_step _ _ x.reaches.linked _ _ (c.loop-at.invariant x).has c.from-j.ensures _ _ _ (omega arith)
    (omega (arith, x.room)) (c.loop-at.invariant x)
