-- `machines::fifth_at` meets its contract: byte 5i + 4 is in the slice exactly if i is below a fifth of its length, rounded down.
use mathlib.Core.Path.{sym}
use Prim.Native.Nat.{◌+◌, ◌*◌}
use native.Mathlib.Omega.{arith}
use lib.ListN.{get_or-eq_default}
use Rattle.machines.proofs.fifth_at.Goals as goal

pub returns-else-i-bytes : goal.returns-else-i-bytes
returns-else-i-bytes c = sym (get_or-eq_default c.args.bytes.now 0 {n = c.args.i * 5 + 4} (omega arith))
