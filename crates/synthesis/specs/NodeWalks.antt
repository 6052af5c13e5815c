-- What the walks over nodes answer, for every formula whose nodes stand there.
use Rattle.std.specs.Prelude.{◌≡◌, List, ◌∷◌, ℕ, suc, ◌+◌, ◌-◌, ◌≤◌, ◌<◌, length, get_or}
use Rattle.theory.specs.Formula.{Formula, truth, variable, transition, output, conjunction, greatest, size}
use Rattle.formulas.specs.NodeReading.{Reads}
use Rattle.formulas.specs.NodeWalks.{field}

-- r is the node after the formula at a node.
abbrev pub Ends : List ℕ → ℕ → ℕ → ℕ → Type 0
Ends kinds at left r =
    (first value : ℕ → ℕ) (φ : Formula ℕ) → Reads (field kinds) first value at φ → size φ ≤ left → r ≡ at + size φ

pub record Walked (kinds : List ℕ) (at left r : ℕ) : Type 0 where
  pub low : at ≤ r
  pub high : r ≤ at + left
  pub end : Ends kinds at left r

-- From node i on, `ends` has the node after the formula at each of the nodes.
abbrev pub EndsFrom : List ℕ → ℕ → List ℕ → ℕ → Type 0
EndsFrom kinds total ends i = (j : ℕ) → i ≤ j → j ≤ total → Walked kinds j (total - j) (get_or ends j 0)

-- r is the node after the formula at a node, where `ends` has those behind it.
abbrev pub EndsHere : List ℕ → List ℕ → ℕ → ℕ → Type 0
EndsHere kinds ends at r = (total : ℕ) → at < total → EndsFrom kinds total ends (suc at) → Walked kinds at (total - at) r

-- `b` gives each variable node its binder's node; σ has the binders around, the innermost first.
module _ {B : Type 0} (b : ℕ → ℕ) where
  abbrev pub Binds : List ℕ → ℕ → Formula B → Type 0
  Binds σ i truth = Unit {0}
  Binds σ i (variable n) = (n < length σ) × (b i ≡ get_or σ n 0)
  Binds σ i (transition e φ) = Binds σ (suc i) φ
  Binds σ i (output e v) = Unit {0}
  Binds σ i (conjunction φ χ) = Binds σ (suc i) φ × Binds σ (suc i + size φ) χ
  Binds σ i (greatest φ) = Binds (i ∷ σ) (suc i) φ
