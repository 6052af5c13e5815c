-- Laws of substitution, and that the grammar's formulas are of the wider guarded class.
use mathlib.Core.{Path.{◌≡◌, refl, ap, ap₂}, Bool.{Bool, true, false, cond}}
use Prim.Native.Nat.{ℕ, zero, suc, max, ◌≤◌, zero-le, suc-le-suc}
use native.Mathlib.{Nat.{lt_of_lt_of_le}, Omega.{arith}}
use lib.Dec.{eqb}
use borrow.Author.Tests.{eqb-true, eqb-false, eq-eqb, ne_eqb}
use Rattle.theory.specs.Formula.{Formula, truth, variable, transition, output, conjunction, greatest, substitute}
use Rattle.theory.specs.FormulaClasses.{FreeBelow, Closed, OpenPosition, ClosedPosition, GuardedIn, Guarded, Fits}
use Rattle.theory.specs.Evaluation.{unguarded_depth}

module _ {B : Type 0} where
  -- What substitution makes of a variable.
  pub substitute_same : (k : ℕ) (u : Formula B) → substitute k u (variable k) ≡ u
  substitute_same k u = ap (λ b. cond b u (variable k)) (eq-eqb k k refl)

  pub substitute_other : (n k : ℕ) (u : Formula B) → ¬ (n ≡ k) → substitute k u (variable n) ≡ variable n
  substitute_other n k u h = ap (λ b. cond b u (variable n)) (ne_eqb n k h)

  at_variable :
      (P : Formula B → Type 0) (n k : ℕ) (u : Formula B) → (n ≡ k → P u) → (¬ (n ≡ k) → P (variable n)) →
      P (substitute k u (variable n))
  at_variable P n k u same other = go (eqb n k) refl
    where
      go : (b : Bool) → eqb n k ≡ b → P (cond b u (variable n))
      go true e = same (eqb-true n k e)
      go false e = other (eqb-false n k e)

  pub substitute_free : (n k : ℕ) (u φ : Formula B) → FreeBelow n φ → n ≤ k → substitute k u φ ≡ φ
  substitute_free n k u truth f h = refl
  substitute_free n k u (variable m) f h = substitute_other m k u (omega arith)
  substitute_free n k u (transition e φ) f h = ap (transition e) (substitute_free n k u φ f h)
  substitute_free n k u (output e b) f h = refl
  substitute_free n k u (conjunction φ χ) f h =
      ap₂ conjunction (substitute_free n k u φ f.0 h) (substitute_free n k u χ f.1 h)
  substitute_free n k u (greatest φ) f h = ap greatest (substitute_free (suc n) (suc k) u φ f (suc-le-suc h))

  pub free_more : (n m : ℕ) (φ : Formula B) → FreeBelow n φ → n ≤ m → FreeBelow m φ
  free_more n m truth f h = tt
  free_more n m (variable k) f h = lt_of_lt_of_le f h
  free_more n m (transition e φ) f h = free_more n m φ f h
  free_more n m (output e b) f h = tt
  free_more n m (conjunction φ χ) f h = (free_more n m φ f.0 h, free_more n m χ f.1 h)
  free_more n m (greatest φ) f h = free_more (suc n) (suc m) φ f (suc-le-suc h)

  pub free_guarded : (n k : ℕ) (φ : Formula B) → FreeBelow n φ → n ≤ k → GuardedIn k φ
  free_guarded n k truth f h = tt
  free_guarded n k (variable m) f h = omega arith
  free_guarded n k (transition e φ) f h = tt
  free_guarded n k (output e b) f h = tt
  free_guarded n k (conjunction φ χ) f h = (free_guarded n k φ f.0 h, free_guarded n k χ f.1 h)
  free_guarded n k (greatest φ) f h = free_guarded (suc n) (suc k) φ f (suc-le-suc h)

  -- A closed formula put for the outermost free variable.
  pub free_substitute : (k : ℕ) (u φ : Formula B) → Closed u → FreeBelow (suc k) φ → FreeBelow k (substitute k u φ)
  free_substitute k u truth c f = tt
  free_substitute k u (variable m) c f =
      at_variable (FreeBelow k) m k u (λ e. free_more zero k u c zero-le) (λ h. omega arith)
  free_substitute k u (transition e φ) c f = free_substitute k u φ c f
  free_substitute k u (output e b) c f = tt
  free_substitute k u (conjunction φ χ) c f = (free_substitute k u φ c f.0, free_substitute k u χ c f.1)
  free_substitute k u (greatest φ) c f = free_substitute (suc k) u φ c f

  guarded_in_substitute :
      (j k : ℕ) (u φ : Formula B) → Closed u → GuardedIn j φ → GuardedIn j (substitute k u φ)
  guarded_in_substitute j k u truth c g = tt
  guarded_in_substitute j k u (variable m) c g =
      at_variable (GuardedIn j) m k u (λ e. free_guarded zero j u c zero-le) (λ h. g)
  guarded_in_substitute j k u (transition e φ) c g = tt
  guarded_in_substitute j k u (output e b) c g = tt
  guarded_in_substitute j k u (conjunction φ χ) c g =
      (guarded_in_substitute j k u φ c g.0, guarded_in_substitute j k u χ c g.1)
  guarded_in_substitute j k u (greatest φ) c g = guarded_in_substitute (suc j) (suc k) u φ c g

  pub guarded_substitute : (k : ℕ) (u φ : Formula B) → Closed u → Guarded u → Guarded φ → Guarded (substitute k u φ)
  guarded_substitute k u truth c w g = tt
  guarded_substitute k u (variable m) c w g = at_variable Guarded m k u (λ e. w) (λ h. tt)
  guarded_substitute k u (transition e φ) c w g = guarded_substitute k u φ c w g
  guarded_substitute k u (output e b) c w g = tt
  guarded_substitute k u (conjunction φ χ) c w g =
      (guarded_substitute k u φ c w g.0, guarded_substitute k u χ c w g.1)
  guarded_substitute k u (greatest φ) c w g =
      (guarded_in_substitute zero (suc k) u φ c g.0, guarded_substitute (suc k) u φ c w g.1)

  pub fits_substitute :
      (events : ℕ) (In : B → Type 0) (k : ℕ) (u φ : Formula B) →
      Fits events In u → Fits events In φ → Fits events In (substitute k u φ)
  fits_substitute events In k u truth w f = tt
  fits_substitute events In k u (variable m) w f = at_variable (Fits events In) m k u (λ e. w) (λ h. tt)
  fits_substitute events In k u (transition e φ) w f = (f.0, fits_substitute events In k u φ w f.1)
  fits_substitute events In k u (output e b) w f = f
  fits_substitute events In k u (conjunction φ χ) w f =
      (fits_substitute events In k u φ w f.0, fits_substitute events In k u χ w f.1)
  fits_substitute events In k u (greatest φ) w f = fits_substitute events In (suc k) u φ w f

  -- Source 000: N(ψ) = N(ψ[νx.ψ/x]) where ψ is guarded in x.
  pub depth_substitute :
      (k : ℕ) (u φ : Formula B) → GuardedIn k φ → unguarded_depth (substitute k u φ) ≡ unguarded_depth φ
  depth_substitute k u truth g = refl
  depth_substitute k u (variable m) g =
      at_variable (λ χ. unguarded_depth χ ≡ zero) m k u (λ e. absurd (g e)) (λ h. refl)
  depth_substitute k u (transition e φ) g = refl
  depth_substitute k u (output e b) g = refl
  depth_substitute k u (conjunction φ χ) g =
      ap₂ (λ x y. suc (max x y)) (depth_substitute k u φ g.0) (depth_substitute k u χ g.1)
  depth_substitute k u (greatest φ) g = ap suc (depth_substitute (suc k) u φ g)

  -- A formula of a closed position guards every variable.
  closed_position_guards : (k : ℕ) (φ : Formula B) → ClosedPosition φ → GuardedIn k φ
  closed_position_guards k truth h = tt
  closed_position_guards k (variable n) h = absurd h
  closed_position_guards k (transition e φ) h = tt
  closed_position_guards k (output e b) h = tt
  closed_position_guards k (conjunction φ χ) h = (closed_position_guards k φ h.0, closed_position_guards k χ h.1)
  closed_position_guards k (greatest φ) h = closed_position_guards (suc k) φ h

  mutual
    pub open_position_guarded : (φ : Formula B) → OpenPosition φ → Guarded φ
    open_position_guarded truth h = tt
    open_position_guarded (variable n) h = tt
    open_position_guarded (transition e φ) h = open_position_guarded φ h
    open_position_guarded (output e b) h = tt
    open_position_guarded (conjunction φ χ) h = (open_position_guarded φ h.0, open_position_guarded χ h.1)
    open_position_guarded (greatest φ) h = (closed_position_guards zero φ h, closed_position_guarded φ h)

    pub closed_position_guarded : (φ : Formula B) → ClosedPosition φ → Guarded φ
    closed_position_guarded truth h = tt
    closed_position_guarded (variable n) h = absurd h
    closed_position_guarded (transition e φ) h = open_position_guarded φ h
    closed_position_guarded (output e b) h = tt
    closed_position_guarded (conjunction φ χ) h = (closed_position_guarded φ h.0, closed_position_guarded χ h.1)
    closed_position_guarded (greatest φ) h = (closed_position_guards zero φ h, closed_position_guarded φ h)
