-- `channel_file::entries_at` meets its contract: each entry is stored as far as there is room, and counted.
use Prim.Native.Nat.{◌-◌, ◌≤◌}
use lib.ListN.{length}
use Rattle.channel_file.proofs.{Storing.{meet_entries, TookItems}}
use Rattle.channel_file.proofs.entries_at.Given as goal

abbrev pub invariant-loop-v : goal.invariant-loop-v
invariant-loop-v l = (l.i ≤ length l.text) × (l.n ≤ l.i) × TookItems meet_entries l.text l.at l.i l.initial.out l.out l.n l.k

abbrev pub decreases-loop-v : goal.decreases-loop-v
decreases-loop-v l = length l.text - l.i
