-- `fill_ends` meets its contract. The loop's invariant: the nodes passed have the nodes after their formulas.
use Prim.Native.Nat.{◌≤◌, ◌+◌}
use mathlib.Core.Path.{◌≡◌}
use lib.ListN.{length}
use Rattle.limits.specs.Limits.{node_limit}
use Rattle.synthesis.specs.NodeWalks.{EndsFrom}
use Rattle.synthesis.proofs.demands.fill_ends.Given as goal

abbrev pub invariant-loop-i : goal.invariant-loop-i
invariant-loop-i l = (l.i ≤ l.nodes.count) × (length l.ends ≡ (node_limit + 1)) × EndsFrom l.nodes.kinds l.nodes.count l.ends l.i
