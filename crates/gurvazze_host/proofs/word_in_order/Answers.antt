-- `word_in_order` meets its contract. The invariant: the test of the events passed.
use Prim.Native.Nat.{ℕ}
use mathlib.Core.Path.{◌≡◌, refl, sym, ap, ◌∙◌}
use native.Mathlib.Omega.{arith}
use lib.{ListN.{length, get_or}, Dec.{ltb}}
use Rattle.theory.specs.ValueSetTests.{every}
use Rattle.theory.proofs.ValueSets.{every_none}
use Rattle.gurvazze_host.proofs.Runs.{every_step}
use Rattle.gurvazze_host.proofs.word_in_order.Goals as goal

pub loop-event-init : goal.loop-event-init
loop-event-init c = sym (every_none _)

pub loop-event-preserved : goal.loop-event-preserved
loop-event-preserved c = every_step _ _ _ _ refl c.loop-event.invariant

pub returns : goal.returns
returns c =
    let e : c.loop-event.event-index ≡ length c.args.word.now = omega (arith, c.loop-event.auto.event-index-end, c.loop-event-test.false) in
    c.loop-event.invariant ∙ ap (λ (k : ℕ). every k (λ j. ltb (get_or c.args.word.now j 0) c.args.events)) e
