-- The walk that gives each variable node its binder's node (document 01, "Table of a rule": X demands what its binder does).
use mathlib.Core.{Path.{◌≡◌}, List.{List}}
use Rattle.std.specs.Prelude.{ℕ, ◌+◌, ◌-◌, ◌≤◌, ◌<◌, length, get_or}
use Rattle.limits.specs.Limits.{node_limit, binder_limit}
use Rattle.theory.specs.{Formula.{Formula, size}, FormulaClasses.{FreeBelow}}
use Rattle.theory.specs.BinderDepth.{binder_depth}
use Rattle.formulas.specs.{NodeReading.{Reads}, NodeWalks.{field}}
use Rattle.synthesis.specs.NodeWalks.{Ends, Binds}

-- The binders around, the innermost first, are the stack's first numbers, read down.
pub record Stack (stack σ : List ℕ) (depth : ℕ) : Type 0 where
  pub deep : length σ ≡ depth
  pub at : (k : ℕ) → k < depth → get_or stack (depth - 1 - k) 0 ≡ get_or σ k 0

-- The node of a variable's own binder, where the stack has it.
abbrev pub OwnBinder : List ℕ → ℕ → ℕ → ℕ → Type 0
OwnBinder stack depth first r = first < depth → depth ≤ binder_limit → r ≡ get_or stack (depth - 1 - first) 0

-- Every variable of the formula at a node has its binder in b, where no path has more binders than the stack has cells.
unfoldable pub AllBound : List ℕ → List ℕ → ℕ → ℕ → ℕ → List ℕ → List ℕ → Type 0
AllBound kinds firsts at left depth stack b =
    (value : ℕ → ℕ) (φ : Formula ℕ) (σ : List ℕ) → Reads (field kinds) (field firsts) value at φ → size φ ≤ left →
    FreeBelow (length σ) φ → depth + binder_depth φ ≤ binder_limit → Stack stack σ depth → Binds (field b) σ at φ

pub record Bound (kinds firsts : List ℕ) (at left depth : ℕ) (stack b stack' b' : List ℕ) (r : ℕ) : Type 0 where
  pub low : at ≤ r
  pub high : r ≤ at + left
  pub end : Ends kinds at left r
  pub sizes : (length stack' ≡ binder_limit) × (length b' ≡ node_limit)
  pub below : (k : ℕ) → k < depth → get_or stack' k 0 ≡ get_or stack k 0
  pub earlier : (i : ℕ) → i < at → get_or b' i 0 ≡ get_or b i 0
  pub bound : AllBound kinds firsts at left depth stack b'
