-- Demands gathered before the walk over states (document 02, F-3): what is promised of the rows that the walk looks up, and what is
-- claimed of them. Each claim is a proposition, inhabited in proofs/.
use mathlib.Core.{Path.{◌≡◌}, Logic.{◌↔◌}, List.{List}}
use Rattle.std.specs.Prelude.{ℕ, suc, ◌≤◌, ◌<◌, T}
use Rattle.limits.specs.Limits.{binder_limit}
use Rattle.theory.specs.{Formula.{Formula, transition, size, Stands}, FormulaClasses.{Closed, Guarded}, BinderDepth.{binder_depth}}
use Rattle.theory.specs.ReachableStates.{NodeSet, Demands}
use Rattle.formulas.specs.{NodeReading.{Reads}, NodeWalks.{field}}
use Rattle.synthesis.specs.{NodeWords.{row}, Exploring.{stepped}, KeptSets.{kept_set}}

-- The rows of a formula's nodes are the sets kept for them.
abbrev pub RowsKept : List (List ℕ) → Formula ℕ → Type 0
RowsKept rows φ = (i : ℕ) → i < size φ → row rows i ≡ kept_set φ i

-- So for each formula in order whose nodes these are, whether or not 10 refuses it: what `keep_demands` promises.
abbrev pub KeepsDemands : List ℕ → List ℕ → ℕ → List (List ℕ) → Type 0
KeepsDemands kinds firsts count rows =
    (value : ℕ → ℕ) (φ : Formula ℕ) → Reads (field kinds) (field firsts) value 0 φ → size φ ≡ count → binder_depth φ ≤ binder_limit →
    Closed φ → Guarded φ → RowsKept rows φ

-- "The set kept for each node is proved to be its demands by document 01", and no other set is.
pub record IsKeptSet (φ : Formula ℕ) (i : ℕ) (D : NodeSet) : Type 0 where
  pub demanded : (d : ℕ) → T (D d) ↔ Demands φ i d
  pub only : (C : NodeSet) → ((d : ℕ) → T (C d) ↔ Demands φ i d) → C ≡ D

abbrev pub KeptDemandsClaim : Type 0
KeptDemandsClaim =
    (φ : Formula ℕ) → Guarded φ → (i : ℕ) (bs : List ℕ) (ψ : Formula ℕ) → Stands φ i bs ψ → IsKeptSet φ i (kept_set φ i)

-- "And every next state to be a union of kept sets": of the rows of the parts of the state's G nodes for the event. The next state is
-- `stepped`, as `advance` promises.
abbrev pub KeptUnionClaim : Type 0
KeptUnionClaim =
    (kinds firsts : List ℕ) (rows : List (List ℕ)) (value : ℕ → ℕ) (φ : Formula ℕ) → Reads (field kinds) (field firsts) value 0 φ → Guarded φ → RowsKept
    rows φ →
    (D : NodeSet) (e d : ℕ) →
    T (stepped kinds firsts rows (size φ) D e d)
    ↔ ((i : ℕ) × (bs : List ℕ) × (ψ : Formula ℕ) × T (D i) × Stands φ i bs (transition e ψ) × T (kept_set φ (suc i) d))
