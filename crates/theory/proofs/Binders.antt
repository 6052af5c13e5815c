-- What the binders above a part of a formula stand for: their demands, and the closed formulas put for their variables.
use mathlib.Core.{Path.{◌≡◌, refl, sym, ap, subst, subst⁻¹}, List.{List, [], ◌∷◌}}
use Prim.Native.Nat.{ℕ, zero, suc, ◌<◌}
use native.Mathlib.Nat.{not-suc-le-zero, le_of_suc-le-suc}
use lib.ListN.{length, get_or}
use Rattle.theory.specs.Formula.{Formula, greatest, Stands, root, part_of_transition, left_part, right_part, part_of_greatest}
use Rattle.theory.specs.FormulaClasses.{FreeBelow, Closed, Guarded, Fits, WellFormed}
use Rattle.theory.specs.ReachableStates.{NodeSet}
use Rattle.theory.specs.DemandSets.{binder_set, demands}
use Rattle.theory.proofs.Instantiation.{instantiate, nth, instantiate_greatest, AllWellFormed, well_formed_instantiate}

module _ {B : Type 0} (φ : Formula B) where
  -- The demands of the binders above a part, the innermost first.
  abbrev pub binder_demands : {i : ℕ} {bs : List ℕ} {ψ : Formula B} → Stands φ i bs ψ → List NodeSet
  binder_demands root = []
  binder_demands (part_of_transition s) = binder_demands s
  binder_demands (left_part s) = binder_demands s
  binder_demands (right_part s) = binder_demands s
  binder_demands (part_of_greatest {i = i} {ψ = ψ} s) = demands (binder_demands s) i (greatest ψ) ∷ binder_demands s

  -- The binders above a part as closed formulas, the innermost first.
  abbrev pub binder_formulas : {i : ℕ} {bs : List ℕ} {ψ : Formula B} → Stands φ i bs ψ → List (Formula B)
  binder_formulas root = []
  binder_formulas (part_of_transition s) = binder_formulas s
  binder_formulas (left_part s) = binder_formulas s
  binder_formulas (right_part s) = binder_formulas s
  binder_formulas (part_of_greatest {ψ = ψ} s) = greatest (instantiate 1 (binder_formulas s) ψ) ∷ binder_formulas s

  pub binder_formulas_length :
      {i : ℕ} {bs : List ℕ} {ψ : Formula B} (s : Stands φ i bs ψ) → length (binder_formulas s) ≡ length bs
  binder_formulas_length root = refl
  binder_formulas_length (part_of_transition s) = binder_formulas_length s
  binder_formulas_length (left_part s) = binder_formulas_length s
  binder_formulas_length (right_part s) = binder_formulas_length s
  binder_formulas_length (part_of_greatest s) = ap suc (binder_formulas_length s)

  -- At node b stands a binder whose demands are D, and which is u once closed.
  pub record IsBinder (b : ℕ) (D : NodeSet) (u : Formula B) : Type 0 where
    pub above : List ℕ
    pub part : Formula B
    pub stands : Stands φ b above (greatest part)
    pub its_demands : D ≡ demands (binder_demands stands) b (greatest part)
    pub its_formula : u ≡ instantiate zero (binder_formulas stands) (greatest part)

  -- What is kept for a variable of a part is its binder's.
  pub binder_of :
      {i : ℕ} {bs : List ℕ} {ψ : Formula B} (s : Stands φ i bs ψ) (n : ℕ) → n < length bs →
      IsBinder (get_or bs n zero) (binder_set (binder_demands s) n) (nth (binder_formulas s) n)
  binder_of root n h = absurd (not-suc-le-zero h)
  binder_of (part_of_transition s) n h = binder_of s n h
  binder_of (left_part s) n h = binder_of s n h
  binder_of (right_part s) n h = binder_of s n h
  binder_of (part_of_greatest {bs = bs} {ψ = ψ} s) zero h =
      record {
        above = bs;
        part = ψ;
        stands = s;
        its_demands = refl;
        its_formula = sym (instantiate_greatest zero (binder_formulas s) ψ);
      }
  binder_of (part_of_greatest s) (suc n) h = binder_of s n (le_of_suc-le-suc h)

  -- What holds of the whole formula holds of each part.
  pub part_free : Closed φ → {i : ℕ} {bs : List ℕ} {ψ : Formula B} → Stands φ i bs ψ → FreeBelow (length bs) ψ
  part_free c root = c
  part_free c (part_of_transition s) = part_free c s
  part_free c (left_part s) = (part_free c s).0
  part_free c (right_part s) = (part_free c s).1
  part_free c (part_of_greatest s) = part_free c s

  pub part_guarded : Guarded φ → {i : ℕ} {bs : List ℕ} {ψ : Formula B} → Stands φ i bs ψ → Guarded ψ
  part_guarded g root = g
  part_guarded g (part_of_transition s) = part_guarded g s
  part_guarded g (left_part s) = (part_guarded g s).0
  part_guarded g (right_part s) = (part_guarded g s).1
  part_guarded g (part_of_greatest s) = (part_guarded g s).1

  module _ (events : ℕ) (In : B → Type 0) where
    pub part_fits : Fits events In φ → {i : ℕ} {bs : List ℕ} {ψ : Formula B} → Stands φ i bs ψ → Fits events In ψ
    part_fits f root = f
    part_fits f (part_of_transition s) = (part_fits f s).1
    part_fits f (left_part s) = (part_fits f s).0
    part_fits f (right_part s) = (part_fits f s).1
    part_fits f (part_of_greatest s) = part_fits f s

    module _ (w : WellFormed events In φ) where
      part_instantiated :
          {i : ℕ} {bs : List ℕ} {ψ : Formula B} (s : Stands φ i bs ψ) → AllWellFormed events In (binder_formulas s) →
          WellFormed events In (instantiate zero (binder_formulas s) ψ)
      part_instantiated {bs = bs} {ψ = ψ} s g =
          well_formed_instantiate events In (binder_formulas s) ψ g
          (subst⁻¹ (λ n. FreeBelow n ψ) (binder_formulas_length s) (part_free w.closed s)) (part_guarded w.guarded s)
          (part_fits w.fits s)

      -- The closed formulas put for the variables of a part are well-formed, and so is the part with them.
      pub binder_formulas_well_formed :
          {i : ℕ} {bs : List ℕ} {ψ : Formula B} (s : Stands φ i bs ψ) → AllWellFormed events In (binder_formulas s)
      binder_formulas_well_formed root = tt
      binder_formulas_well_formed (part_of_transition s) = binder_formulas_well_formed s
      binder_formulas_well_formed (left_part s) = binder_formulas_well_formed s
      binder_formulas_well_formed (right_part s) = binder_formulas_well_formed s
      binder_formulas_well_formed (part_of_greatest {ψ = ψ} s) =
          let g = binder_formulas_well_formed s in
          (subst (WellFormed events In) (instantiate_greatest zero (binder_formulas s) ψ) (part_instantiated s g), g)

      pub part_well_formed :
          {i : ℕ} {bs : List ℕ} {ψ : Formula B} (s : Stands φ i bs ψ) →
          WellFormed events In (instantiate zero (binder_formulas s) ψ)
      part_well_formed s = part_instantiated s (binder_formulas_well_formed s)
