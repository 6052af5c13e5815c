-- `machines::entries_in_order` meets its contract. The loop's invariant: each entry below i passed its test, and entry i starts at `at`.
use mathlib.Core.{Path.{◌≡◌, sym, ◌∙◌, ap}}
use Prim.Native.Nat.{◌*◌}
use native.Mathlib.Omega.{arith}
use borrow.Author.{Rules.{rules}}
use Rattle.theory.proofs.ValueSets.{every_none, every_more, every_not}
use Rattle.machines.proofs.{TableRoundTrip.{entry_within}, TableTests.{entry_tested}}
use Rattle.machines.proofs.entries_in_order.Goals as goal

pub loop-i-init : goal.loop-i-init
loop-i-init c = (search rules, every_none _)

pub entry_in_order-requires : goal.entry_in_order-requires
entry_in_order-requires c =
    (omega (arith, ap (λ w. c.loop-i.i * w) c.requires.1, entry_within c.args.kind c.args.entries c.loop-i.i (search rules)), search rules)

pub overflow_mul-i : goal.overflow_mul-i
overflow_mul-i c =
    omega (arith, ap (λ w. c.loop-i.i * w) c.requires.1, entry_within c.args.kind c.args.entries c.loop-i.i (search rules))

pub returns-then-not-entry_in_order : goal.returns-then-not-entry_in_order
returns-then-not-entry_in_order c =
    let fails = entry_tested c.args.kind c.args.states c.args.bytes.now c.loop-i.i (c.loop-i.i * c.args.width) (ap
    (λ w. c.loop-i.i * w) c.requires.1) ∙ sym c.entry_in_order.ensures ∙
    c.if-not-entry_in_order.true in
    sym (every_not _ _ c.loop-i.i (search rules) fails)

pub loop-i-preserved : goal.loop-i-preserved
loop-i-preserved c =
    let holds = entry_tested c.args.kind c.args.states c.args.bytes.now c.loop-i.i (c.loop-i.i * c.args.width) (ap
    (λ w. c.loop-i.i * w) c.requires.1) ∙ sym c.entry_in_order.ensures ∙
    c.if-not-entry_in_order.false in
    (search rules, every_more _ _ c.loop-i.invariant.1 holds)

pub returns : goal.returns
returns c =
    let e : c.loop-i.i ≡ c.args.entries = omega arith in
    sym (rw e at c.loop-i.invariant.1)
