-- The sets kept for the nodes of a formula: that of each node is its demands.
use mathlib.Core.Logic.Iff
use mathlib.Core.{Path.{◌≡◌, refl, sym, ◌∙◌, ap, ap₂, subst⁻¹}, Logic.{◌↔◌}, List.{List, ◌∷◌, ◌++◌}}
use Prim.Native.Nat.{ℕ, suc, ◌+◌, ◌<◌}
use native.Mathlib.Omega.{arith}
use lib.{Dec.{T}, ListN.{length, get_or, length-append, get_or-append}, Seq.{get_or-append-add}}
use Rattle.theory.specs.Formula.{Formula, truth, variable, transition, output, conjunction, greatest, size}
use Rattle.theory.specs.Formula.{Stands, root, part_of_transition, left_part, right_part, part_of_greatest}
use Rattle.theory.specs.{ReachableStates.{NodeSet, Demands}, DemandSets.{empty, demands}}
use Rattle.theory.proofs.{Binders.{binder_demands}, Demands.{demands_iff}, NodeSets.{same_members}}
use Rattle.formulas.proofs.Walking.{size_positive}
use Rattle.synthesis.specs.{KeptSets.{kept_sets, kept_set}, KeptDemands.{KeptDemandsClaim}}

-- Among the sets kept for the formula at i, that of its node n.
abbrev pub kept_of : List NodeSet → ℕ → Formula ℕ → ℕ → NodeSet
kept_of ρ i φ n = get_or (kept_sets ρ i φ) n empty

pub kept_first : (ρ : List NodeSet) (i : ℕ) (φ : Formula ℕ) → kept_of ρ i φ 0 ≡ demands ρ i φ
kept_first ρ i truth = refl
kept_first ρ i (variable n) = refl
kept_first ρ i (transition e φ) = refl
kept_first ρ i (output e b) = refl
kept_first ρ i (conjunction φ χ) = refl
kept_first ρ i (greatest φ) = refl

kept_length : (ρ : List NodeSet) (i : ℕ) (φ : Formula ℕ) → length (kept_sets ρ i φ) ≡ size φ
kept_length ρ i truth = refl
kept_length ρ i (variable n) = refl
kept_length ρ i (transition e φ) = ap suc (kept_length ρ (suc i) φ)
kept_length ρ i (output e b) = refl
kept_length ρ i (conjunction φ χ) =
    ap suc (length-append (kept_sets ρ (suc i) φ) (kept_sets ρ (suc i + size φ) χ)
    ∙ ap₂ ◌+◌ (kept_length ρ (suc i) φ) (kept_length ρ (suc i + size φ) χ))
kept_length ρ i (greatest φ) = ap suc (kept_length (demands ρ i (greatest φ) ∷ ρ) (suc i) φ)

-- The parts of an A.
module _ (ρ : List NodeSet) (i : ℕ) (φ χ : Formula ℕ) (n : ℕ) where
  pub kept_left : n < size φ → kept_of ρ i (conjunction φ χ) (suc n) ≡ kept_of ρ (suc i) φ n
  kept_left h = get_or-append (kept_sets ρ (suc i) φ) (kept_sets ρ (suc i + size φ) χ) empty n (omega (arith, h, kept_length ρ (suc i) φ))

  pub kept_right : kept_of ρ i (conjunction φ χ) (suc (size φ + n)) ≡ kept_of ρ (suc i + size φ) χ n
  kept_right =
      ap (λ m. get_or (kept_sets ρ (suc i) φ ++ kept_sets ρ (suc i + size φ) χ) (m + n) empty) (sym (kept_length ρ (suc i) φ))
      ∙ get_or-append-add (kept_sets ρ (suc i) φ) (kept_sets ρ (suc i + size φ) χ) n empty

module _ (φ : Formula ℕ) where
  -- What is kept for the nodes of a part.
  kept_part :
      {i : ℕ} {bs : List ℕ} {ψ : Formula ℕ} (s : Stands φ i bs ψ) (n : ℕ) → n < size ψ →
      kept_set φ (i + n) ≡ kept_of (binder_demands φ s) i ψ n
  kept_part root n h = ap (kept_set φ) (omega arith)
  kept_part (part_of_transition {i = i} s) n h =
      ap (kept_set φ) (omega arith) ∙ kept_part s (suc n) (omega (arith, h))
  kept_part (left_part {i = i} {ψ = ψ} {χ = χ} s) n h =
      ap (kept_set φ) (omega arith) ∙ kept_part s (suc n) (omega (arith, h)) ∙ kept_left (binder_demands φ s) i ψ χ n h
  kept_part (right_part {i = i} {ψ = ψ} {χ = χ} s) n h =
      ap (kept_set φ) (omega arith) ∙ kept_part s (suc (size ψ + n)) (omega (arith, h)) ∙ kept_right (binder_demands φ s) i ψ χ n
  kept_part (part_of_greatest {i = i} s) n h =
      ap (kept_set φ) (omega arith) ∙ kept_part s (suc n) (omega (arith, h))

  pub kept_demands_of :
      {i : ℕ} {bs : List ℕ} {ψ : Formula ℕ} (s : Stands φ i bs ψ) → kept_set φ i ≡ demands (binder_demands φ s) i ψ
  kept_demands_of {i} {bs} {ψ} s =
      ap (kept_set φ) (omega arith) ∙ kept_part s 0 (size_positive ψ) ∙ kept_first (binder_demands φ s) i ψ

pub kept_demands : KeptDemandsClaim
kept_demands φ guarded i bs ψ s = record { demanded = its; only = λ C f. same_members C (kept_set φ i) (λ d. Iff.trans (f d) (Iff.symm (its d))) }
  where
    its : (d : ℕ) → T (kept_set φ i d) ↔ Demands φ i d
    its d = subst⁻¹ (λ D. T (D d) ↔ Demands φ i d) (kept_demands_of φ s) (demands_iff φ guarded s d)
