-- `machines::second_at` meets its contract: byte 2i + 1 is in the slice exactly if i is below half its length, rounded down.
use mathlib.Core.Path.{sym}
use Prim.Native.Nat.{◌+◌, ◌*◌}
use native.Mathlib.Omega.{arith}
use lib.ListN.{get_or-eq_default}
use Rattle.machines.proofs.second_at.Goals as goal

pub returns-else-i-bytes : goal.returns-else-i-bytes
returns-else-i-bytes c = sym (get_or-eq_default c.args.bytes.now 0 {n = c.args.i * 2 + 1} (omega arith))
