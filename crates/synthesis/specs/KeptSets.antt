-- Twin of ReachableStates, pinned by synthesis KeptDemandsClaim.
-- The set kept for each node before the walk over states (document 02, F-3): what `keep_demands` promises its rows to be.
use Rattle.std.specs.Prelude.{List, [], ◌∷◌, ◌++◌, ℕ, zero, suc, ◌+◌, get_or}
use Rattle.theory.specs.Formula.{Formula, truth, variable, transition, output, conjunction, greatest, size}
use Rattle.theory.specs.{ReachableStates.{NodeSet}, DemandSets.{empty, demands}}

-- The sets kept for the nodes of the formula at i, in node order, below binders whose demands are ρ.
abbrev pub kept_sets : List NodeSet → ℕ → Formula ℕ → List NodeSet
kept_sets ρ i truth = demands {B = ℕ} ρ i truth ∷ []
kept_sets ρ i (variable n) = demands {B = ℕ} ρ i (variable n) ∷ []
kept_sets ρ i (transition e φ) = demands ρ i (transition e φ) ∷ kept_sets ρ (suc i) φ
kept_sets ρ i (output e b) = demands ρ i (output e b) ∷ []
kept_sets ρ i (conjunction φ χ) = demands ρ i (conjunction φ χ) ∷ (kept_sets ρ (suc i) φ ++ kept_sets ρ (suc i + size φ) χ)
kept_sets ρ i (greatest φ) = demands ρ i (greatest φ) ∷ kept_sets (demands ρ i (greatest φ) ∷ ρ) (suc i) φ

-- The set kept for node i of a formula.
abbrev pub kept_set : Formula ℕ → ℕ → NodeSet
kept_set φ i = get_or (kept_sets [] zero φ) i empty
