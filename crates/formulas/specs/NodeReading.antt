-- A formula's nodes reached through accessors: kind, first field and value of each node number. What walks over nodes are proved
-- against, however the nodes lie in bytes.
use Rattle.std.specs.Prelude.{◌≡◌, ℕ, suc, ◌+◌}
use Rattle.theory.specs.Formula.{Formula, truth, variable, transition, output, conjunction, greatest, size}

module _ {B : Type 0} (kind first : ℕ → ℕ) (value : ℕ → B) where
  -- The nodes from i on are those of the formula.
  abbrev pub Reads : ℕ → Formula B → Type 0
  Reads i truth = kind i ≡ 0
  Reads i (variable n) = (kind i ≡ 1) × (first i ≡ n)
  Reads i (transition e φ) = (kind i ≡ 2) × (first i ≡ e) × Reads (suc i) φ
  Reads i (output e b) = (kind i ≡ 3) × (first i ≡ e) × (value i ≡ b)
  Reads i (conjunction φ χ) = (kind i ≡ 4) × Reads (suc i) φ × Reads (suc i + size φ) χ
  Reads i (greatest φ) = (kind i ≡ 5) × Reads (suc i) φ
