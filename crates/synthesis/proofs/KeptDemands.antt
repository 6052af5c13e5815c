-- The rows that the compiler keeps are the sets kept for the nodes, and every next state is a union of them (document 02, F-3).
use mathlib.Core.{Path.{◌≡◌, refl, sym, ◌∙◌, ap, subst, subst⁻¹}, List.{List, [], ◌∷◌, map}}
use Prim.Native.Nat.{ℕ, zero, suc, ◌+◌, ◌-◌, ◌≤◌, ◌<◌}
use native.Mathlib.{Decide.{dec_lt}, Omega.{arith}}
use lib.Dec.{T}
use Rattle.theory.specs.Formula.{Formula, truth, variable, transition, output, conjunction, greatest, size, part_of_transition}
use Rattle.theory.specs.{FormulaClasses.{Guarded}, ReachableStates.{NodeSet}, DemandSets.{demands, moved}}
use Rattle.theory.proofs.Demands.{is_next_set}
use Rattle.formulas.specs.{NodeReading.{Reads}, NodeWalks.{field}}
use Rattle.synthesis.specs.{NodeWords.{row}, NodeWalks.{Binds}, Binding.{AllBound}, DemandRows.{AllBelow, UnguardedRows, RowsTo}}
use Rattle.synthesis.specs.{Exploring.{stepped}, KeptDemands.{KeepsDemands, KeptUnionClaim}}
use Rattle.synthesis.proofs.{DemandRows.{below_later}, KeptSets.{kept_of, kept_first, kept_left, kept_right, kept_demands}}
use Rattle.synthesis.proofs.Stepping.{KeptFrom, stepped_moved}

-- A node's own row, and those behind it.
module _ (rows : List (List ℕ)) where
  kept_from :
      (ρ : List NodeSet) (i : ℕ) (φ : Formula ℕ) → row rows i ≡ demands ρ i φ →
      ((m : ℕ) → suc m < size φ → row rows (suc i + m) ≡ kept_of ρ i φ (suc m)) → KeptFrom rows ρ i φ
  kept_from ρ i φ own behind zero h = ap (row rows) (omega arith) ∙ own ∙ sym (kept_first ρ i φ)
  kept_from ρ i φ own behind (suc m) h = ap (row rows) (omega arith) ∙ behind m h

-- Rows that were filled: the formula at the root, and the part of each transition.
module _ (kinds firsts b : List ℕ) (rows : List (List ℕ)) (total : ℕ) (value : ℕ → ℕ) (filled : RowsTo kinds b total rows total) where
  rows_kept :
      (φ : Formula ℕ) (σ : List ℕ) (i : ℕ) → Reads (field kinds) (field firsts) value i φ → i + size φ ≤ total → Guarded φ →
      Binds (field b) σ i φ → AllBelow i σ → UnguardedRows rows (map (row rows) σ) i φ → KeptFrom rows (map (row rows) σ) i φ
  rows_kept truth σ i d h w n u v = kept_from rows (map (row rows) σ) i truth v (λ m l. absurd (omega (arith, l)))
  rows_kept (variable k) σ i d h w n u v = kept_from rows (map (row rows) σ) i (variable k) v (λ m l. absurd (omega (arith, l)))
  rows_kept (transition e φ) σ i d h w n u v =
      let o : AllBelow (suc i) σ = below_later i (suc i) σ (omega arith) u in
      let part : UnguardedRows rows (map (row rows) σ) (suc i) φ
      = filled.parts i (omega arith) d.0 (field firsts) value φ σ d.2 (omega arith) w n o in
      kept_from rows (map (row rows) σ) i (transition e φ) v
      (λ m l. rows_kept φ σ (suc i) d.2 (omega arith) w n o part m (omega (arith, l)))
  rows_kept (output e c) σ i d h w n u v = kept_from rows (map (row rows) σ) i (output e c) v (λ m l. absurd (omega (arith, l)))
  rows_kept (conjunction φ χ) σ i d h w n u v =
      kept_from rows (map (row rows) σ) i (conjunction φ χ) v.0
      (λ m l. go m l (dec_lt m (size φ))
      (rows_kept φ σ (suc i) d.1 (omega arith) w.0 n.0 (below_later i (suc i) σ (omega arith) u) v.1)
      (rows_kept χ σ (suc i + size φ) d.2 (omega arith) w.1 n.1 (below_later i (suc i + size φ) σ (omega arith) u) v.2))
    where
      go :
          (m : ℕ) → suc m < size (conjunction φ χ) → Dec (m < size φ) → KeptFrom rows (map (row rows) σ) (suc i) φ →
          KeptFrom rows (map (row rows) σ) (suc i + size φ) χ →
          row rows (suc i + m) ≡ kept_of (map (row rows) σ) i (conjunction φ χ) (suc m)
      go m l (yes t) first second = first m t ∙ sym (kept_left (map (row rows) σ) i φ χ m t)
      go m l (no t) first second =
          ap (row rows) (omega arith)
          ∙ second (m - size φ) (omega (arith, l))
          ∙ sym (kept_right (map (row rows) σ) i φ χ (m - size φ))
          ∙ ap (λ x. kept_of (map (row rows) σ) i (conjunction φ χ) (suc x)) (omega arith)
  rows_kept (greatest φ) σ i d h w n u v =
      kept_from rows (map (row rows) σ) i (greatest φ) v.0
      (λ m l. rows_kept φ (i ∷ σ) (suc i) d.1 (omega arith) w.1 n (omega arith, below_later i (suc i) σ (omega arith) u) v.1 m
      (omega (arith, l))
      ∙ ap (λ C. kept_of (C ∷ map (row rows) σ) (suc i) φ m) v.0)

-- What `bind` and `fill_rows` promise is what `keep_demands` does.
pub keeps_demands :
    (kinds firsts stack b : List ℕ) (rows : List (List ℕ)) (count : ℕ) → AllBound kinds firsts 0 count 0 stack b → RowsTo kinds b count rows count →
    KeepsDemands kinds firsts count rows
unfolding AllBound
keeps_demands kinds firsts stack b rows count bound filled value φ d counted shallow closed guarded i h =
    let binds : Binds (field b) [] 0 φ
    = bound value φ [] d (omega (arith, counted)) closed (omega (arith, shallow)) (record { deep = refl; at = λ k l. absurd (omega arith) }) in
    ap (row rows) (omega arith)
    ∙ rows_kept kinds firsts b rows count value filled φ [] 0 d (omega (arith, counted)) guarded binds tt
    (filled.root (field firsts) value φ [] d (omega (arith, counted)) guarded binds tt) i h

pub kept_union : KeptUnionClaim
kept_union kinds firsts rows value φ d guarded kept D e k =
    let same : stepped kinds firsts rows (size φ) D e ≡ moved D e [] 0 φ = stepped_moved kinds firsts rows value φ d kept D e in
    let next = is_next_set φ guarded D e k in (
      (λ h. let n = next.0 (subst (λ C. T (C k)) same h) in
          (n.0, n.1, n.2, n.3, n.4, ((kept_demands φ guarded (suc n.0) n.1 n.2 (part_of_transition n.4)).demanded k).1 n.5)),
      λ n. subst⁻¹ (λ C. T (C k)) same (next.1
          (n.0, n.1, n.2, n.3, n.4, ((kept_demands φ guarded (suc n.0) n.1 n.2 (part_of_transition n.4)).demanded k).0 n.5)),
    )
