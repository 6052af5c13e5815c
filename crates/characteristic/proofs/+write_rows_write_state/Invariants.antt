-- The measure is how many nodes are left up to the limit.
use Prim.Native.Nat.{◌-◌}
use Rattle.limits.specs.Limits.{node_limit}
use Rattle.characteristic.proofs.+write_rows_write_state.Given as goal

abbrev pub decreases-write_rows : goal.decreases-write_rows
decreases-write_rows l = node_limit - l.count

abbrev pub decreases-write_state : goal.decreases-write_state
decreases-write_state l = node_limit - l.count
