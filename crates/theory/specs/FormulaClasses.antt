-- Classes of formulas: closed, of the grammar, guarded, within a set-up. What 5 to 9 and 23 let through is `Accepted`; the papers' own
-- sentences are the conditions of `formulas`, and its claims say that the two agree.
use Rattle.std.specs.Prelude.{◌≡◌, ℕ, zero, suc, ◌+◌, ◌≤◌, ◌<◌}
use Rattle.theory.specs.{Formula.{Formula, truth, variable, transition, output, conjunction, greatest, size}, BinderDepth.{binder_depth}}

module _ {B : Type 0} where
  -- How many V nodes it has.
  abbrev pub binders : Formula B → ℕ
  binders truth = zero
  binders (variable n) = zero
  binders (transition e φ) = binders φ
  binders (output e b) = zero
  binders (conjunction φ χ) = binders φ + binders χ
  binders (greatest φ) = suc (binders φ)

  -- Each variable without a binder of its own in the formula is below n.
  abbrev pub FreeBelow : ℕ → Formula B → Type 0
  FreeBelow n truth = Unit {0}
  FreeBelow n (variable k) = k < n
  FreeBelow n (transition e φ) = FreeBelow n φ
  FreeBelow n (output e b) = Unit {0}
  FreeBelow n (conjunction φ χ) = FreeBelow n φ × FreeBelow n χ
  FreeBelow n (greatest φ) = FreeBelow (suc n) φ

  -- Every variable has a binder.
  abbrev pub Closed : Formula B → Type 0
  Closed φ = FreeBelow zero φ

  -- The grammar's two kinds of position (source 000, definition 3). The root and the part of V are closed to a variable; the part of G is open to it;
  -- the parts of A are as A is. `OpenPosition φ`: φ may stand at an open position.
  abbrev mutual
    pub OpenPosition : Formula B → Type 0
    OpenPosition truth = Unit {0}
    OpenPosition (variable n) = Unit {0}
    OpenPosition (transition e φ) = OpenPosition φ
    OpenPosition (output e b) = Unit {0}
    OpenPosition (conjunction φ χ) = OpenPosition φ × OpenPosition χ
    OpenPosition (greatest φ) = ClosedPosition φ

    pub ClosedPosition : Formula B → Type 0
    ClosedPosition truth = Unit {0}
    ClosedPosition (variable n) = ⊥
    ClosedPosition (transition e φ) = OpenPosition φ
    ClosedPosition (output e b) = Unit {0}
    ClosedPosition (conjunction φ χ) = ClosedPosition φ × ClosedPosition χ
    ClosedPosition (greatest φ) = ClosedPosition φ

  -- Variable k stands only below a transition.
  abbrev pub GuardedIn : ℕ → Formula B → Type 0
  GuardedIn k truth = Unit {0}
  GuardedIn k (variable n) = ¬ (n ≡ k)
  GuardedIn k (transition e φ) = Unit {0}
  GuardedIn k (output e b) = Unit {0}
  GuardedIn k (conjunction φ χ) = GuardedIn k φ × GuardedIn k χ
  GuardedIn k (greatest φ) = GuardedIn (suc k) φ

  -- Document 02, F-2: a transition lies between each variable and its own binder. Wider than the grammar's class.
  abbrev pub Guarded : Formula B → Type 0
  Guarded truth = Unit {0}
  Guarded (variable n) = Unit {0}
  Guarded (transition e φ) = Guarded φ
  Guarded (output e b) = Unit {0}
  Guarded (conjunction φ χ) = Guarded φ × Guarded χ
  Guarded (greatest φ) = GuardedIn zero φ × Guarded φ

  -- The formula's events are below the event count and its values are values of the set.
  abbrev pub Fits : ℕ → (B → Type 0) → Formula B → Type 0
  Fits events In truth = Unit {0}
  Fits events In (variable n) = Unit {0}
  Fits events In (transition e φ) = (e < events) × Fits events In φ
  Fits events In (output e b) = (e < events) × In b
  Fits events In (conjunction φ χ) = Fits events In φ × Fits events In χ
  Fits events In (greatest φ) = Fits events In φ

-- What the theorems ask of a formula: closed, guarded, within the set-up.
pub record WellFormed {B : Type 0} (events : ℕ) (In : B → Type 0) (φ : Formula B) : Type 0 where
  pub closed : Closed φ
  pub guarded : Guarded φ
  pub fits : Fits events In φ

-- What refusals 5 to 9 and 23 let through: also at most so many nodes, and so many V nodes on a path.
pub record Accepted {B : Type 0} (nodes depth events : ℕ) (In : B → Type 0) (φ : Formula B) : Type 0 where
  pub within : size φ ≤ nodes
  pub shallow : binder_depth φ ≤ depth
  pub well_formed : WellFormed events In φ
