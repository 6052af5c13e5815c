-- `values::masks_from` meets its contract: past the end all bytes are 0, and the bytes from `at` on are those of the rest.
use mathlib.Core.Path.{refl, sym, ◌∙◌}
use Prim.Native.Nat.{◌-◌}
use native.Mathlib.Omega.{arith}
use lib.ListN.{length}
use Rattle.values.proofs.ValueBytes.{masks_past, masks_part}
use Rattle.values.proofs.masks_from.Goals as goal

pub returns-then-bytes-at : goal.returns-then-bytes-at
returns-then-bytes-at c = sym (masks_past c.args.bytes.now c.args.at c.if-bytes-at.true)

pub returns-then-rest-ge4 : goal.returns-then-rest-ge4
returns-then-rest-ge4 c =
    c.masks_value.ensures
    ∙ masks_part c.args.bytes.now c.args.at (length c.args.bytes.now - c.args.at) _ _ _ _ (omega arith) refl refl refl refl

pub returns : goal.returns
returns c =
    c.masks_value-2.ensures
    ∙ masks_part c.args.bytes.now c.args.at (length c.args.bytes.now - c.args.at) _ _ _ _ (omega arith) c.byte_at.ensures
    c.byte_at-2.ensures c.byte_at-3.ensures c.byte_at-4.ensures
