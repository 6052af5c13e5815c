-- Laws of sets of nodes, beside the theory's.
use mathlib.Core.{Path.{◌≡◌, refl, fun_ext}, Bool.{or_assoc}, List.{List, [], ◌∷◌, map}}
use Prim.Native.Nat.{ℕ, zero, suc, ◌<◌}
use native.Mathlib.Omega.{arith}
use lib.ListN.{length, get_or}
use Rattle.theory.specs.ReachableStates.{NodeSet}
use Rattle.theory.specs.DemandSets.{union, binder_set}

pub union_assoc : (C D E : NodeSet) → union (union C D) E ≡ union C (union D E)
unfolding union
union_assoc C D E = fun_ext λ i. or_assoc (C i) (D i) (E i)

-- The set kept for a binder, where sets are kept for nodes.
pub binder_map :
    (row : ℕ → NodeSet) (σ : List ℕ) (n : ℕ) → n < length σ → binder_set (map row σ) n ≡ row (get_or σ n 0)
binder_map row [] n h = absurd (omega arith)
binder_map row (i ∷ σ) zero h = refl
binder_map row (i ∷ σ) (suc n) h = binder_map row σ n (omega arith)
