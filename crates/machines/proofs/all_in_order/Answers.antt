-- `machines::all_in_order` meets its contract: the whole entries lie in the bytes.
use mathlib.Core.Path.{◌∙◌, ap}
use Prim.Native.Nat.{◌*◌, ◌/◌}
use native.Mathlib.{Nat.{div-add-mod'}, Omega.{arith}}
use borrow.Author.Rules.{rules}
use lib.ListN.{length}
use Rattle.theory.specs.ValueSetTests.{every}
use Rattle.machines.specs.TableRefusal.{entry_test}
use Rattle.machines.proofs.all_in_order.Goals as goal

pub entries_in_order-requires : goal.entries_in_order-requires
entries_in_order-requires c =
    let d = div-add-mod' (length c.args.bytes.now) c.entry_width-width.result in
    (omega (arith, d, ap (λ x. length c.args.bytes.now / c.entry_width-width.result * x) c.entry_width-width.ensures.0), search rules, search rules)

pub returns : goal.returns
returns c = c.entries_in_order.ensures
    ∙ ap (λ w. every (length c.args.bytes.now / w) (entry_test c.args.kind c.args.states c.args.bytes.now)) c.entry_width-width.ensures.0
