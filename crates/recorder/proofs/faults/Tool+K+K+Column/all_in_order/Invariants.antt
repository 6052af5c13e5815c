-- `all_in_order` of `recorder::faults` meets its contract: the loop's invariant: the test passes at every channel before.
use mathlib.Core.{Bool.{true}, Path.{◌≡◌}}
use Prim.Native.Nat.{◌≤◌}
use Rattle.limits.specs.Limits.{channel_limit}
use Rattle.theory.specs.ValueSetTests.{every}
use Rattle.recorder.specs.{Store.{store_of}, ToolTests.{test_of}}
use Rattle.recorder.proofs.faults.Tool+K+K+Column.all_in_order.Given as goal

abbrev pub invariant-loop-channel : goal.invariant-loop-channel
invariant-loop-channel g l = (l.channel ≤ channel_limit) × (every l.channel (test_of (store_of g.K.Kind.meaning l.self)) ≡ true)
