-- `decode` meets its contract. The loop's invariant: the arrays are filled in up to i, and node i starts at `at`.
use Rattle.limits.specs.Limits.{node_limit}
use Prim.Native.Nat.{◌/◌, min}
use mathlib.Core.{Path.{◌≡◌}}
use lib.ListN.{length}
use Rattle.formulas.specs.RuleConditions.{node_width}
use Rattle.formulas.specs.RuleRefusal.{kind_at, first_at, value_at}
use Rattle.formulas.specs.NodeArrays.{padded}
use Rattle.formulas.proofs.decode.Given as goal

abbrev pub invariant-loop-i : goal.invariant-loop-i
invariant-loop-i l =
    (l.width ≡ node_width l.kind)
    × (l.count ≡ min node_limit (length l.bytes / node_width l.kind))
    × (l.kinds ≡ padded (kind_at l.kind l.bytes) l.i node_limit 0)
    × (l.firsts ≡ padded (first_at l.kind l.bytes) l.i node_limit 0)
    × (l.values ≡ padded (value_at l.kind l.bytes) l.i node_limit 0)
