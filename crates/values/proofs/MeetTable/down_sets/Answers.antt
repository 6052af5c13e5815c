-- `MeetTable::down_sets` meets its contract. The loop's invariant: the sets of the values before a are stored.
use mathlib.Core.Path.{refl}
use native.Mathlib.Omega.{arith}
use lib.ListN.{length-set}
use Rattle.values.specs.DownSets.{down_set}
use Rattle.values.proofs.DownSets.{one_more}
use Rattle.values.proofs.MeetTable.down_sets.Goals as goal

pub loop-a-init : goal.loop-a-init
loop-a-init c = (omega arith, refl, λ k h. absurd (omega arith))

pub offset_bounds-sets-a : goal.offset_bounds-sets-a
offset_bounds-sets-a c = omega (arith, c.args.self.small)

pub bounds-sets-a : goal.bounds-sets-a
bounds-sets-a c = omega (arith, c.args.self.small)

pub loop-a-preserved : goal.loop-a-preserved
loop-a-preserved c = (
  omega arith,
  simp length-set c.loop-a.invariant.1,
  one_more (down_set _ _) c.loop-a.sets c.loop-a.a
      (omega (arith, c.loop-a.invariant.1, c.args.self.small)) c.down_set.ensures c.loop-a.invariant.2,
)

pub returns : goal.returns
returns c = record { sized = c.loop-a.invariant.1; each = λ a h. c.loop-a.invariant.2 a (omega arith) }
