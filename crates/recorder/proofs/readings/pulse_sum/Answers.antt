-- `recorder::readings::pulse_sum` meets its contract: the sum has one pulse more.
use Prim.Native.Nat.{◌≤◌, ◌<◌}
use native.Mathlib.{Numerals.{add-one}, Omega.{arith}}
use borrow.Author.Rules.{rules}
use lib.ListN.{length}
use Rattle.recorder.proofs.Replays.{sum_more}
use Rattle.recorder.proofs.readings.pulse_sum.Goals as goal

pub loop-p-preserved : goal.loop-p-preserved
loop-p-preserved c =
    let within : c.loop-p.p-index < length c.args.pulses.now = search rules in
    let small : c.from-sum.result ≤ 4294967295 = search rules in
    let more = sum_more c.args.pulses.now c.loop-p.p-index within in
    (rw add-one (omega (arith, more, c.loop-p.invariant.0, c.from-sum.ensures)), omega (arith, c.loop-p.invariant.1, small))
