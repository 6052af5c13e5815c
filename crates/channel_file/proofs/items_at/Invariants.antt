-- `channel_file::items_at` meets its contract: the node of each item is stored as far as there is room, and counted.
use Prim.Native.Nat.{◌-◌, ◌≤◌}
use lib.ListN.{length}
use Rattle.channel_file.proofs.{Storing.{rule_items, TookItems}}
use Rattle.channel_file.proofs.items_at.Given as goal

abbrev pub invariant-loop-x : goal.invariant-loop-x
invariant-loop-x l = (l.i ≤ length l.text) × (l.n ≤ l.i) × TookItems (rule_items l.values) l.text l.at l.i l.initial.out l.out l.n l.k

abbrev pub decreases-loop-x : goal.decreases-loop-x
decreases-loop-x l = length l.text - l.i
