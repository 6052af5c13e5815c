-- Twin of RuleConditions, pinned by formulas DecodedClaim.
-- The fields of nodes as lists of fixed length, one for each field: what nodes decode to.
use mathlib.Core.{Bool.{cond}, List.{List, [], ◌∷◌}}
use Rattle.std.specs.Prelude.{ℕ, zero, suc, ◌/◌, min}
use lib.{Dec.{ltb}, ListN.{length}}
use Rattle.values.specs.declared.ValueKind.{ValueKind}
use Rattle.formulas.specs.{RuleConditions.{node_width}, declared.Nodes.{Nodes}, RuleRefusal.{kind_at, first_at, value_at}}
use Rattle.limits.specs.Limits.{node_limit}

-- The values of f from i on, `left` of them, with 0 from `count` on.
unfoldable pub padded : (ℕ → ℕ) → ℕ → ℕ → ℕ → List ℕ
padded f count zero i = []
padded f count (suc left) i = cond (ltb i count) (f i) 0 ∷ padded f count left (suc i)

-- How many nodes are decoded.
unfoldable pub decoded_count : ValueKind → List ℕ → ℕ
decoded_count kind bytes = min node_limit (length bytes / node_width kind)

-- The fields of these nodes, and 0 beyond.
unfoldable pub decoded : ValueKind → List ℕ → Nodes
decoded kind bytes =
    record {
      count = decoded_count kind bytes;
      kinds = padded (kind_at kind bytes) (decoded_count kind bytes) node_limit 0;
      firsts = padded (first_at kind bytes) (decoded_count kind bytes) node_limit 0;
      values = padded (value_at kind bytes) (decoded_count kind bytes) node_limit 0;
    }
