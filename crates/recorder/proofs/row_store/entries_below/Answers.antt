-- `recorder::row_store::entries_below` meets its contract: all are below the bound where the largest is.
use native.Mathlib.Omega.{arith}
use mathlib.Core.Path.{◌≡◌, sym, ap}
use Prim.Native.Nat.{◌+◌}
use lib.{Dec.{ltb}, ListN.{get_or}}
use Rattle.theory.specs.ValueSetTests.{every}
use Rattle.recorder.proofs.Together.{some_below}
use Rattle.recorder.proofs.row_store.entries_below.Goals as goal

pub returns-then-count-eq0 : goal.returns-then-count-eq0
unfolding every
returns-then-count-eq0 c =
    let z : c.args.count ≡ 0 = omega arith in
    sym (ap (λ n. every n (λ i. ltb (get_or c.args.entries.now (c.args.from + i) 0) c.args.bound)) z)

pub returns : goal.returns
returns c =
    rw (c.from.ensures, c.largest.ensures)
    (some_below c.args.bound c.args.count (omega arith) (λ i. get_or c.args.entries.now (c.args.from + i) 0))
