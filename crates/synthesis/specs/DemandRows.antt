-- Each node's demands, kept in rows (document 01, "Table of a rule": "the demands of a node").
use mathlib.Core.{Path.{◌≡◌}, List.{List, [], ◌∷◌, map}}
use Rattle.std.specs.Prelude.{ℕ, suc, ◌+◌, ◌≤◌, ◌<◌}
use Rattle.theory.specs.{Formula.{Formula, truth, variable, transition, output, conjunction, greatest, size}, FormulaClasses.{Guarded}}
use Rattle.theory.specs.{ReachableStates.{NodeSet}, DemandSets.{demands}}
use Rattle.formulas.specs.{NodeReading.{Reads}, NodeWalks.{field}}
use Rattle.synthesis.specs.{NodeWords.{row}, NodeWalks.{Ends, Binds}}

-- The row of one node is D, and the others are as before.
pub record RowStored (before after : List (List ℕ)) (at : ℕ) (D : NodeSet) : Type 0 where
  pub here : row after at ≡ D
  pub others : (j : ℕ) → ¬ (j ≡ at) → row after j ≡ row before j

-- All numbers of σ are below i.
abbrev pub AllBelow : ℕ → List ℕ → Type 0
AllBelow i [] = Unit {0}
AllBelow i (x ∷ σ) = (x < i) × AllBelow i σ

-- Each node of the formula at i that is below none of its transitions has its demands in its row; ρ has those of the binders around.
abbrev pub UnguardedRows : List (List ℕ) → List NodeSet → ℕ → Formula ℕ → Type 0
UnguardedRows rows ρ i truth = row rows i ≡ demands {B = ℕ} ρ i truth
UnguardedRows rows ρ i (variable n) = row rows i ≡ demands {B = ℕ} ρ i (variable n)
UnguardedRows rows ρ i (transition e φ) = row rows i ≡ demands ρ i (transition e φ)
UnguardedRows rows ρ i (output e v) = row rows i ≡ demands ρ i (output e v)
UnguardedRows rows ρ i (conjunction φ χ) =
    (row rows i ≡ demands ρ i (conjunction φ χ)) × UnguardedRows rows ρ (suc i) φ × UnguardedRows rows ρ (suc i + size φ) χ
UnguardedRows rows ρ i (greatest φ) =
    (row rows i ≡ demands ρ i (greatest φ)) × UnguardedRows rows (row rows i ∷ ρ) (suc i) φ

-- The demands of the formula at a node came into the rows of those nodes, with the rows before for the binders around.
abbrev pub Gathers : List ℕ → List ℕ → ℕ → ℕ → List (List ℕ) → List (List ℕ) → Type 0
Gathers kinds b at left before after =
    (first value : ℕ → ℕ) (φ : Formula ℕ) (σ : List ℕ) → Reads (field kinds) first value at φ → size φ ≤ left → Guarded φ →
    Binds (field b) σ at φ → AllBelow at σ → UnguardedRows after (map (row before) σ) at φ

pub record Gathered (kinds b : List ℕ) (at left : ℕ) (before after : List (List ℕ)) (r : ℕ) : Type 0 where
  pub low : at ≤ r
  pub high : r ≤ at + left
  pub end : Ends kinds at left r
  pub below : (j : ℕ) → j < at → row after j ≡ row before j
  pub beyond : (j : ℕ) → r ≤ j → row after j ≡ row before j
  pub rows : Gathers kinds b at left before after

-- For each formula that stands at node i, those of its nodes that are below none of its transitions have their demands in their rows.
abbrev pub RowsAt : List ℕ → List ℕ → ℕ → List (List ℕ) → ℕ → Type 0
RowsAt kinds b total rows i =
    (first value : ℕ → ℕ) (φ : Formula ℕ) (σ : List ℕ) → Reads (field kinds) first value i φ → i + size φ ≤ total → Guarded φ →
    Binds (field b) σ i φ → AllBelow i σ → UnguardedRows rows (map (row rows) σ) i φ

-- So for the formula at the root, and for the parts of the transitions among the first m nodes. With m all nodes, each node of the
-- formula at the root is of one of these.
pub record RowsTo (kinds b : List ℕ) (total : ℕ) (rows : List (List ℕ)) (m : ℕ) : Type 0 where
  pub root : RowsAt kinds b total rows 0
  pub parts : (i : ℕ) → i < m → field kinds i ≡ 2 → RowsAt kinds b total rows (suc i)
