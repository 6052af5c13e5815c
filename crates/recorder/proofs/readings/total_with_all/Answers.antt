-- `recorder::readings::total_with_all` meets its contract: the sum of some of the pulses is above the limit, or that of all is within it.
use Rattle.refusal.proofs.Answers.{passed_on}
use mathlib.Core.{Path.{sym, ◌∙◌, ap}}
use Prim.Native.Nat.{◌+◌, ◌-◌, ◌≤◌}
use native.Mathlib.Omega.{arith}
use lib.ListN.{drop, length-take}
use Rattle.channel_log.specs.Log.{large_total}
use Rattle.channel_log.proofs.Record.{total_fits}
use Rattle.recorder.proofs.{Decided.{answered_ok, answered_err}, Replays.{within_all, over_in_part, sum_to}}
use Rattle.recorder.proofs.readings.total_with_all.Goals as goal

pub returns-in_err-sum : goal.returns-in_err-sum
returns-in_err-sum c =
    passed_on c.from_residual.result c.in_err-sum.field-0.0 c.from_residual.ensures.1
    ∙ over_in_part c.args.total c.args.count c.args.pulses.now 0 (omega arith) c.in_err-sum.field-0.0
    (answered_err _ _ _ (sym c.total_with.ensures ∙ c.in_err-sum.was))

pub loop-i-init : goal.loop-i-init
loop-i-init c =
    let a = answered_ok _ _ _ (sym c.total_with.ensures ∙ c.in_ok-sum.was) in
    (omega arith, c.min-end.ensures, a.1, rw a.1 (total_fits _ a.0))

pub pulse_sum-requires : goal.pulse_sum-requires
pulse_sum-requires c =
    let m = c.min.result in
    let i = c.loop-i.i in
    let d : i + m - i ≤ 4096 = omega (arith, c.min.ensures) in
    omega (arith, d, length-take (i + m - i) (drop i c.args.pulses.now))

pub returns-in_err-sum-2 : goal.returns-in_err-sum-2
returns-in_err-sum-2 c =
    let n = c.loop-i.i + c.min.result in
    passed_on c.from_residual-in_err-sum-2.result c.in_err-sum-2.field-0.0 c.from_residual-in_err-sum-2.ensures.1
    ∙ over_in_part c.args.total c.args.count c.args.pulses.now n (omega (arith, c.loop-i.invariant.1, c.min.ensures)) c.in_err-sum-2.field-0.0
    (ap large_total (sym (sum_to c.args.total c.args.pulses.now c.loop-i.i c.min.result _ _ c.loop-i.invariant.2 c.pulse_sum.ensures))
    ∙ answered_err _ _ _ (sym c.total_with-in-loop-i.ensures ∙ c.in_err-sum-2.was))

pub loop-i-preserved : goal.loop-i-preserved
loop-i-preserved c =
    let a = answered_ok _ _ _ (sym c.total_with-in-loop-i.ensures ∙ c.in_ok-sum-2.was) in
    let s = a.1 ∙ sum_to c.args.total c.args.pulses.now c.loop-i.i c.min.result _ _ c.loop-i.invariant.2 c.pulse_sum.ensures in (
      omega (arith, c.loop-i.invariant.0, c.min.ensures),
      c.loop-i.invariant.1,
      s,
      rw a.1 (total_fits _ a.0),
    )

pub returns : goal.returns
returns c =
    within_all c.args.total c.args.count c.args.pulses.now c.loop-i.i (omega (arith, c.loop-i.invariant.0, c.loop-i.invariant.1)) c.loop-i.sum
    c.loop-i.invariant.2 c.loop-i.invariant.3
