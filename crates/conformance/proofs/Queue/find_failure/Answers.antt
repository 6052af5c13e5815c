-- `find_failure` meets its contract. The loop's invariant: the queue holds the words found when i pairs have been taken, and none of these
-- failed; the flag says whether all their values are equal.
use native.Mathlib.Omega.{arith}
use Rattle.conformance.specs.PairQueue.{Found, JudgedPair}
use Rattle.conformance.proofs.Progress.{taken_small, taken_few, s_small, t_small, expandable, found_at, found_none, progress_next}
use Rattle.conformance.proofs.Queue.find_failure.Goals as goal

pub bounds-self-i : goal.bounds-self-i
bounds-self-i g c = taken_small _ _ _ _ _ (c.loop-i.invariant c.requires.ready c.requires.held) c.loop-i-test.true

pub offset_bounds-self-i : goal.offset_bounds-self-i
offset_bounds-self-i g c = omega (arith, taken_few _ _ _ _ _ (c.loop-i.invariant c.requires.ready c.requires.held) c.loop-i-test.true)

pub judge_pair-requires : goal.judge_pair-requires
judge_pair-requires g c =
    let p = c.loop-i.invariant c.requires.ready c.requires.held in (
      c.requires.ready.few_events,
      s_small _ _ _ _ _ p c.loop-i-test.true _ _ c.from-s.ensures c.from-t.ensures,
      t_small _ _ _ _ _ p c.loop-i-test.true _ _ c.from-s.ensures c.from-t.ensures,
    )

pub returns-in-Err : goal.returns-in-Err
unfolding Found JudgedPair
returns-in-Err g c =
    found_at _ _ _ _ _ (c.loop-i.invariant c.requires.ready c.requires.held) c.loop-i-test.true _ _ c.from-s.ensures c.from-t.ensures _
    c.in-Err.ensures

pub push_successors-requires : goal.push_successors-requires
push_successors-requires g c = (
  omega (arith, c.requires.ready.few_places),
  (c.requires.ready, expandable _ _ _ _ _ (c.loop-i.invariant c.requires.ready c.requires.held) c.loop-i-test.true),
)

pub loop-i-smaller : goal.loop-i-smaller
loop-i-smaller g c = omega (arith, taken_small _ _ _ _ _ (c.loop-i.invariant c.requires.ready c.requires.held) c.loop-i-test.true)

pub loop-i-preserved : goal.loop-i-preserved
unfolding JudgedPair
loop-i-preserved g c =
    λ ready held.
    progress_next _ _ _ _ _ (c.loop-i.invariant ready held) c.loop-i-test.true _ _ c.from-s.ensures c.from-t.ensures _ c.in-Ok.ensures _
    c.push_successors.ensures

pub returns : goal.returns
unfolding Found
returns g c = found_none _ _ _ _ _ (c.loop-i.invariant c.requires.ready c.requires.held) c.loop-i-test.false
