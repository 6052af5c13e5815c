-- `run` of `recorder` meets its contract: a turn writes the value and takes the next state.
use Rattle.recorder.proofs.Runs.{again}
use Rattle.recorder.proofs.Tool+K+K+Column.run.Goals as goal

pub loop-i-preserved : goal.loop-i-preserved
loop-i-preserved g c =
    rw (
      g.met.K.Kind.write c.loop-i.values c.loop-i.i c.value_at.result,
      c.value_at.ensures,
      c.entry_place-place.ensures.0,
      c.from.ensures,
      c.rows_start-start.ensures,
    )
    (again c.requires.run (rw c.rows_start-start.ensures at c.loop-i.invariant) c.loop-i-test.true)
