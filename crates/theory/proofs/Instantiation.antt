-- A list of closed formulas put for the free variables.
use mathlib.Core.{Path.{◌≡◌, refl, ◌∙◌, ap, subst}, List.{List, [], ◌∷◌}}
use Prim.Native.Nat.{ℕ, zero, suc, ◌+◌, ◌<◌, zero-le}
use native.Mathlib.{Nat.{le_of_suc-le-suc, not-suc-le-zero}, Omega.{arith}}
use lib.ListN.{length}
use Rattle.theory.specs.Formula.{Formula, truth, variable, transition, output, conjunction, greatest, substitute}
use Rattle.theory.specs.FormulaClasses.{FreeBelow, Closed, Guarded, Fits, WellFormed}
use Rattle.theory.proofs.Substitution.{substitute_same, substitute_other, substitute_free, free_substitute, guarded_substitute, fits_substitute}

module _ {B : Type 0} where
  -- The formulas of ρ for the variables k, k + 1, ..
  abbrev pub instantiate : ℕ → List (Formula B) → Formula B → Formula B
  instantiate k [] φ = φ
  instantiate k (u ∷ ρ) φ = substitute k u (instantiate (suc k) ρ φ)

  abbrev pub nth : List (Formula B) → ℕ → Formula B
  nth [] n = truth
  nth (u ∷ ρ) zero = u
  nth (u ∷ ρ) (suc n) = nth ρ n

  abbrev pub AllClosed : List (Formula B) → Type 0
  AllClosed [] = Unit {0}
  AllClosed (u ∷ ρ) = Closed u × AllClosed ρ

  pub instantiate_truth : (k : ℕ) (ρ : List (Formula B)) → instantiate k ρ truth ≡ truth
  instantiate_truth k [] = refl
  instantiate_truth k (u ∷ ρ) = ap (substitute k u) (instantiate_truth (suc k) ρ)

  pub instantiate_transition :
      (k : ℕ) (ρ : List (Formula B)) (e : ℕ) (φ : Formula B) →
      instantiate k ρ (transition e φ) ≡ transition e (instantiate k ρ φ)
  instantiate_transition k [] e φ = refl
  instantiate_transition k (u ∷ ρ) e φ = ap (substitute k u) (instantiate_transition (suc k) ρ e φ)

  pub instantiate_output : (k : ℕ) (ρ : List (Formula B)) (e : ℕ) (b : B) → instantiate k ρ (output e b) ≡ output e b
  instantiate_output k [] e b = refl
  instantiate_output k (u ∷ ρ) e b = ap (substitute k u) (instantiate_output (suc k) ρ e b)

  pub instantiate_conjunction :
      (k : ℕ) (ρ : List (Formula B)) (φ χ : Formula B) →
      instantiate k ρ (conjunction φ χ) ≡ conjunction (instantiate k ρ φ) (instantiate k ρ χ)
  instantiate_conjunction k [] φ χ = refl
  instantiate_conjunction k (u ∷ ρ) φ χ = ap (substitute k u) (instantiate_conjunction (suc k) ρ φ χ)

  pub instantiate_greatest :
      (k : ℕ) (ρ : List (Formula B)) (φ : Formula B) →
      instantiate k ρ (greatest φ) ≡ greatest (instantiate (suc k) ρ φ)
  instantiate_greatest k [] φ = refl
  instantiate_greatest k (u ∷ ρ) φ = ap (substitute k u) (instantiate_greatest (suc k) ρ φ)

  instantiate_below :
      (k : ℕ) (ρ : List (Formula B)) (n : ℕ) → n < k → instantiate k ρ (variable n) ≡ variable n
  instantiate_below k [] n h = refl
  instantiate_below k (u ∷ ρ) n h =
      ap (substitute k u) (instantiate_below (suc k) ρ n (omega arith)) ∙ substitute_other n k u (omega arith)

  nth_closed : (ρ : List (Formula B)) (n : ℕ) → AllClosed ρ → n < length ρ → Closed (nth ρ n)
  nth_closed [] n c h = absurd (not-suc-le-zero h)
  nth_closed (u ∷ ρ) zero c h = c.0
  nth_closed (u ∷ ρ) (suc n) c h = nth_closed ρ n c.1 (le_of_suc-le-suc h)

  instantiate_nth :
      (k : ℕ) (ρ : List (Formula B)) (n : ℕ) → AllClosed ρ → n < length ρ →
      instantiate k ρ (variable (k + n)) ≡ nth ρ n
  instantiate_nth k [] n c h = absurd (not-suc-le-zero h)
  instantiate_nth k (u ∷ ρ) zero c h =
      let p : k + zero ≡ k = omega arith in
      ap (λ x. instantiate k (u ∷ ρ) (variable x)) p
      ∙ ap (substitute k u) (instantiate_below (suc k) ρ k (omega arith)) ∙ substitute_same k u
  instantiate_nth k (u ∷ ρ) (suc n) c h =
      let p : k + suc n ≡ suc k + n = omega arith in
      ap (λ x. instantiate k (u ∷ ρ) (variable x)) p
      ∙ ap (substitute k u) (instantiate_nth (suc k) ρ n c.1 (le_of_suc-le-suc h))
      ∙ substitute_free zero k u (nth ρ n) (nth_closed ρ n c.1 (le_of_suc-le-suc h)) zero-le

  pub instantiate_variable :
      (ρ : List (Formula B)) (n : ℕ) → AllClosed ρ → n < length ρ → instantiate zero ρ (variable n) ≡ nth ρ n
  instantiate_variable ρ n c h =
      let p : n ≡ zero + n = omega arith in
      ap (λ x. instantiate zero ρ (variable x)) p ∙ instantiate_nth zero ρ n c h

  module _ (events : ℕ) (In : B → Type 0) where
    abbrev pub AllWellFormed : List (Formula B) → Type 0
    AllWellFormed [] = Unit {0}
    AllWellFormed (u ∷ ρ) = WellFormed events In u × AllWellFormed ρ

    pub all_closed : (ρ : List (Formula B)) → AllWellFormed ρ → AllClosed ρ
    all_closed [] g = tt
    all_closed (u ∷ ρ) g = (g.0.closed, all_closed ρ g.1)

    free_instantiate :
        (k : ℕ) (ρ : List (Formula B)) (φ : Formula B) → AllClosed ρ → FreeBelow (k + length ρ) φ →
        FreeBelow k (instantiate k ρ φ)
    free_instantiate k [] φ c f = subst (λ x. FreeBelow x φ) (omega arith) f
    free_instantiate k (u ∷ ρ) φ c f =
        free_substitute k u (instantiate (suc k) ρ φ) c.0
        (free_instantiate (suc k) ρ φ c.1 (subst (λ x. FreeBelow x φ) (omega arith) f))

    guarded_instantiate :
        (k : ℕ) (ρ : List (Formula B)) (φ : Formula B) → AllWellFormed ρ → Guarded φ → Guarded (instantiate k ρ φ)
    guarded_instantiate k [] φ g w = w
    guarded_instantiate k (u ∷ ρ) φ g w =
        guarded_substitute k u (instantiate (suc k) ρ φ) g.0.closed g.0.guarded
        (guarded_instantiate (suc k) ρ φ g.1 w)

    fits_instantiate :
        (k : ℕ) (ρ : List (Formula B)) (φ : Formula B) → AllWellFormed ρ → Fits events In φ →
        Fits events In (instantiate k ρ φ)
    fits_instantiate k [] φ g f = f
    fits_instantiate k (u ∷ ρ) φ g f =
        fits_substitute events In k u (instantiate (suc k) ρ φ) g.0.fits (fits_instantiate (suc k) ρ φ g.1 f)

    pub well_formed_instantiate :
        (ρ : List (Formula B)) (φ : Formula B) → AllWellFormed ρ → FreeBelow (length ρ) φ → Guarded φ →
        Fits events In φ → WellFormed events In (instantiate zero ρ φ)
    well_formed_instantiate ρ φ g s w f =
        record {
          closed = free_instantiate zero ρ φ (all_closed ρ g) (subst (λ x. FreeBelow x φ) (omega arith) s);
          guarded = guarded_instantiate zero ρ φ g w;
          fits = fits_instantiate zero ρ φ g f;
        }
