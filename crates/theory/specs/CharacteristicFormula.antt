-- The formula of a table (document 01, "Rule of a table"; source 000, theorem 4(2)).
use mathlib.Core.{Path.{◌≡◌}, List.{List, ◌∷◌}}
use Rattle.std.specs.Prelude.{ℕ, zero, suc, ◌<◌}
use Rattle.theory.specs.{Formula.{Formula, variable, transition, output, conjunction, greatest}, MealyMachine.{Machine}}

-- State s is open on the path, with i binders between; the innermost state of the path stands first.
pub data OpenAt (s : ℕ) : List ℕ → ℕ → Type 0 where
  here : {path : List ℕ} → OpenAt s (s ∷ path) zero
  above : {path : List ℕ} {t i : ℕ} → ¬ (s ≡ t) → OpenAt s path i → OpenAt s (t ∷ path) (suc i)

module _ {B : Type 0} (m : Machine ℕ B) (events : ℕ) where
  mutual
    -- `Writes path s φ`: φ is written for s below the open states of the path. A state already open on the path is written as X.
    pub data Writes : List ℕ → ℕ → Formula B → Type 0 where
      already_open : {path : List ℕ} {s i : ℕ} → OpenAt s path i → Writes path s (variable i)
      opened : {path : List ℕ} {s : ℕ} {φ : Formula B} → ((i : ℕ) → ¬ OpenAt s path i) → Rows (s ∷ path) s zero φ → Writes path s (greatest φ)

    -- `Rows path s e φ`: φ is, for each event from e on in rising order, G event (formula of the next state), O event.value,
    -- joined by A nested to the right.
    pub data Rows : List ℕ → ℕ → ℕ → Formula B → Type 0 where
      last_row : {path : List ℕ} {s e : ℕ} {φ : Formula B} →
          suc e ≡ events → Writes path (m.next s e) φ → Rows path s e (conjunction (transition e φ) (output e (m.value s e)))
      row : {path : List ℕ} {s e : ℕ} {φ χ : Formula B} → suc e < events → Writes path (m.next s e) φ → Rows path s (suc e) χ →
          Rows path s e (conjunction (transition e φ) (conjunction (output e (m.value s e)) χ))
