-- `machines::masks_at` meets its contract: past a fifth of the length all bytes are 0.
use mathlib.Core.Path.{sym}
use Prim.Native.Nat.{◌*◌}
use native.Mathlib.Omega.{arith}
use Rattle.values.proofs.ValueBytes.{masks_past}
use Rattle.machines.proofs.masks_at.Goals as goal

pub returns-else-i-whole-2 : goal.returns-else-i-whole-2
returns-else-i-whole-2 c = sym (masks_past c.args.bytes.now (c.args.i * 5) (omega arith))
