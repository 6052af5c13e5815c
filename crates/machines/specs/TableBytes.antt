-- Tables in bytes (document 01, "Table of a rule": a table entry is a value and a next state, ordered by state, then event).
use mathlib.Core.{Path.{◌≡◌}, List.{List, [], ◌∷◌, ◌++◌}}
use Rattle.std.specs.Prelude.{ℕ, zero, suc, ◌+◌, ◌*◌, ◌≤◌, ◌<◌, length, get_or}
use Rattle.theory.specs.MealyMachine.{Machine}
use Rattle.values.specs.{declared.ValueKind.{ValueKind}, declared.ValueKind.TheVariants.{Numbered, Register}, Setup.{value_width, value_bytes, value_from}}
use Rattle.refusal.specs.{Refusal.{Condition, plain}, declared.Refusal.TheVariants.{TableLimits}}

-- The entries of one state from event e on, c events in all; then the states from l on, n states in all. `encode b t` is how an
-- entry with value b and next state t lies in bytes.
module _ {B : Type 0} (encode : B → ℕ → List ℕ) (events : ℕ) (m : Machine ℕ B) where
  abbrev pub row_bytes : ℕ → ℕ → ℕ → List ℕ
  row_bytes zero l e = []
  row_bytes (suc c) l e = encode (m.value l e) (m.next l e) ++ row_bytes c l (suc e)

  abbrev pub rows_bytes : ℕ → ℕ → List ℕ
  rows_bytes zero l = []
  rows_bytes (suc n) l = row_bytes events l zero ++ rows_bytes n (suc l)

  -- A table of n states.
  abbrev pub table_bytes : ℕ → List ℕ
  table_bytes n = rows_bytes n zero

-- The bytes of the value, and one for the next state: two where values are numbers, five where they are registers' masks.
abbrev pub entry_width : ValueKind → ℕ
entry_width (Numbered n) = 2
entry_width (Register lines) = 5

abbrev pub entry_bytes : ValueKind → ℕ → ℕ → List ℕ
entry_bytes kind v t = value_bytes kind v ++ (t ∷ [])

-- Lent bytes read as a machine: the entry of state l and event e is entry l × events + e. `value_at i` and `next_at i` read entry i.
abbrev pub entries : {B : Type 0} → ℕ → (ℕ → B) → (ℕ → ℕ) → Machine ℕ B
entries events value_at next_at =
    record { value = λ l e. value_at (l * events + e); next = λ l e. next_at (l * events + e) }

-- The machine of lent bytes, with values of a kind.
abbrev pub machine_of : ValueKind → ℕ → List ℕ → Machine ℕ ℕ
machine_of kind events bytes =
    entries events (λ i. value_from kind bytes (i * entry_width kind)) (λ i. get_or bytes (i * entry_width kind + value_width kind) 0)

-- 11, for a device or any other table handed in: states not 1 to the limit, entry count not states × events, start, value or next
-- state too large. A byte count that is no multiple of an entry's bytes is a wrong entry count.
module _ {B : Type 0} (width limit events : ℕ) (In : B → Type 0) (states start : ℕ) (bytes : List ℕ) (m : Machine ℕ B) where
  pub record TableInOrder : Type 0 where
    pub some_states : 0 < states
    pub few_states : states ≤ limit
    pub entry_count : length bytes ≡ states * events * width
    pub start_in : start < states
    pub values_in : (l e : ℕ) → l < states → e < events → In (m.value l e)
    pub nexts_in : (l e : ℕ) → l < states → e < events → m.next l e < states

  abbrev pub table_condition : Condition
  table_condition = plain TableLimits (¬ TableInOrder)
