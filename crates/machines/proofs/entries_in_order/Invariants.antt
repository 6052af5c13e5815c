-- `machines::entries_in_order` meets its contract. The loop's invariant: each entry below i passed its test, and entry i starts at `at`.
use mathlib.Core.{Bool.{true}, Path.{◌≡◌}}
use Prim.Native.Nat.{◌≤◌, ◌-◌}
use Rattle.machines.specs.{TableRefusal.{entry_test}}
use Rattle.theory.specs.ValueSetTests.{every}
use Rattle.machines.proofs.entries_in_order.Given as goal

abbrev pub invariant-loop-i : goal.invariant-loop-i
invariant-loop-i l =
    (l.i ≤ l.entries) × (every l.i (entry_test l.kind l.states l.bytes) ≡ true)

abbrev pub decreases-loop-i : goal.decreases-loop-i
decreases-loop-i l = l.entries - l.i
