-- `machines::store_entries` meets its contract. The loop's invariant: the buffer has the first i entries put over its front.
use mathlib.Core.Path.{◌≡◌}
use Prim.Native.Nat.{◌≤◌, ◌-◌}
use lib.ListN.{length}
use Rattle.refusal.specs.Refusal.{put}
use Rattle.machines.specs.StoredEntries.{kept_bytes, stored}
use Rattle.machines.proofs.store_entries.Given as goal

abbrev pub invariant-loop-i : goal.invariant-loop-i
invariant-loop-i l =
    (l.i ≤ l.count) × (length l.to ≡ length l.initial.to) × (l.to ≡ put (stored (kept_bytes l.kind) l.values l.nexts l.i) l.initial.to)

abbrev pub decreases-loop-i : goal.decreases-loop-i
decreases-loop-i l = l.count - l.i
