-- `values::masks_value` meets its contract: its arguments are bytes.
use native.Mathlib.Omega.{arith}
use Rattle.values.proofs.ValueBytes.{masks_byte}
use Rattle.values.proofs.masks_value.Goals as goal

pub returns : goal.returns
returns c =
    let e = masks_byte c.args.a c.args.b c.args.c c.args.d (omega arith) (omega arith) (omega arith) in
    omega (arith, e)
