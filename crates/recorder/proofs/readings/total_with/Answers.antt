-- `recorder::readings::total_with` meets its contract: above the limit already, above it with the pulses, or within it.
use mathlib.Core.Path.{sym, ap}
use Prim.Native.Nat.{◌+◌}
use native.Mathlib.Omega.{arith}
use Rattle.refusal.specs.RefusalAnswers.{answered}
use Rattle.recorder.proofs.Decided.{small_total, over_total}
use Rattle.recorder.proofs.readings.total_with.Goals as goal

pub returns-then-total-gt-TOTAL_LIMIT : goal.returns-then-total-gt-TOTAL_LIMIT
unfolding answered
returns-then-total-gt-TOTAL_LIMIT c =
    sym (ap (λ o. answered o (c.args.total + c.args.pulses)) (over_total (c.args.total + c.args.pulses) (omega arith)))

pub returns : goal.returns
unfolding answered
returns c = sym (ap (λ o. answered o (c.args.total + c.args.pulses)) (small_total (c.args.total + c.args.pulses) (omega arith)))
