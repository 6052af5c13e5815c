-- Twin of CharacteristicFormula, pinned by theory CharacteristicClaim.
-- The formula of a table, computed.
use mathlib.Core.{Bool.{cond}, List.{List, [], ◌∷◌}, Option.{Option, none, some}}
use Rattle.std.specs.Prelude.{ℕ, zero, suc, eqb}
use Rattle.theory.specs.{Formula.{Formula, truth, variable, transition, output, conjunction, greatest}, MealyMachine.{Machine}}

-- How many binders lie between, where the state is open on the path.
abbrev pub one_more : Option ℕ → Option ℕ
one_more none = none
one_more (some i) = some (suc i)

abbrev pub open_at : ℕ → List ℕ → Option ℕ
open_at s [] = none
open_at s (t ∷ path) = cond (eqb s t) (some zero) (one_more (open_at s path))

module _ {B : Type 0} where
  abbrev pub variable_or : Option ℕ → Formula B → Formula B
  variable_or (some i) φ = variable i
  variable_or none φ = φ

  module _ (m : Machine ℕ B) where
    -- The rows of event e and of c more events, with f for the formulas of the next states.
    abbrev pub rows : (ℕ → Formula B) → ℕ → ℕ → ℕ → Formula B
    rows f s e zero = conjunction (transition e (f (m.next s e))) (output e (m.value s e))
    rows f s e (suc c) =
        conjunction (transition e (f (m.next s e))) (conjunction (output e (m.value s e)) (rows f s (suc e) c))

    -- At least one event, last + 1 in all; `left` is at least the number of states that are not open yet.
    abbrev pub write : ℕ → ℕ → List ℕ → ℕ → Formula B
    write last zero path s = variable_or (open_at s path) truth
    write last (suc left) path s = variable_or (open_at s path) (greatest (rows (write last left (s ∷ path)) s zero last))

    -- The formula of a table of n states and last + 1 events, from a start.
    abbrev pub written : ℕ → ℕ → ℕ → Formula B
    written n last start = write last n [] start
