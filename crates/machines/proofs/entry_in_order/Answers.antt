-- `machines::entry_in_order` meets its contract: the value is tested, then the next state.
use mathlib.Core.{Bool.{◌&&◌}, Path.{◌≡◌, sym, ◌∙◌, ap, ap₂}}
use Prim.Native.Nat.{◌+◌, ◌-◌}
use native.Mathlib.Omega.{arith}
use lib.{Dec.{ltb}, ListN.{get_or}}
use Rattle.values.specs.Setup.{value_width}
use Rattle.values.specs.ValueTests.{value_fits}
use Rattle.machines.proofs.entry_in_order.Goals as goal

pub returns-then-not-value_fits : goal.returns-then-not-value_fits
returns-then-not-value_fits c =
    let fails = sym (ap (value_fits c.args.kind) c.value_from.ensures) ∙ sym c.value_fits.ensures ∙ c.if-not-value_fits.true in
    sym (ap (λ b. b && ltb (get_or c.args.bytes.now (c.args.at + value_width c.args.kind) 0) c.args.states) fails)

pub returns : goal.returns
returns c =
    let holds = sym (ap (value_fits c.args.kind) c.value_from.ensures) ∙ sym
    c.value_fits.ensures ∙ c.if-not-value_fits.false in
    let place : c.args.at + c.args.width - 1 ≡ c.args.at + value_width c.args.kind = omega arith in
    sym
    (ap₂ (λ b t. b && ltb t c.args.states) holds (sym (c.from.ensures ∙ ap (λ x. get_or c.args.bytes.now x 0) place)))
