-- `push_successors` meets its contract. The loop's invariant: the queue holds the words with those of the successors on the events before e.
use native.Mathlib.Omega.{arith}
use Rattle.conformance.proofs.Successors.{place_small, place_stored, next_place, next_room, turned}
use Rattle.conformance.proofs.Queue.push_successors.Goals as goal

pub bounds-self-i : goal.bounds-self-i
bounds-self-i g c = place_small c.requires.ready c.requires.held

pub offset_bounds-self-i : goal.offset_bounds-self-i
offset_bounds-self-i g c = omega (arith, place_small c.requires.ready c.requires.held, c.requires.ready.few_places)

pub overflow_cast-next-in-loop-e-3 : goal.overflow_cast-next-in-loop-e-3
overflow_cast-next-in-loop-e-3 g c = omega (arith, place_stored c.requires.ready c.requires.held)

pub push-requires : goal.push-requires
push-requires g c = (
  omega (arith, c.requires.ready.few_places),
  (
    next_place c.requires.ready c.requires.held _ _ c.from-s.ensures c.from-t.ensures _ _ _ c.loop-e-test.true c.next_at-x.ensures c.next_at-y.ensures,
    next_room c.requires.ready c.requires.held _ _ c.from-s.ensures c.from-t.ensures _ _ _ c.loop-e-test.true c.next_at-x.ensures c.next_at-y.ensures
        c.loop-e.self (c.loop-e.invariant c.requires.held),
  ),
)

pub loop-e-preserved : goal.loop-e-preserved
loop-e-preserved g c =
    λ h.
    turned c.requires.ready h _ _ c.from-s.ensures c.from-t.ensures _ _ _ c.loop-e-test.true c.next_at-x.ensures c.next_at-y.ensures
    c.loop-e.self (c.loop-e.invariant h) _ c.push.ensures
