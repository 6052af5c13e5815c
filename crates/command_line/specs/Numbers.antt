-- A number of a line: one or more digits, in decimal; leading zeros say nothing.
use Rattle.std.specs.Prelude.{ℕ, ◌+◌, ◌-◌, ◌*◌, ◌≤◌, min, List, [], ◌∷◌, cond, length, Option, Some, None}
use Rattle.text_format.specs.Decimal.{is_digit, Digits, value_from}

-- ---- the sentence

pub data IsNumber (w : List ℕ) : Option ℕ → Type 0 where
  number : Digits w → 1 ≤ length w → IsNumber w (Some (value_from 0 w))
  other : (Digits w → 1 ≤ length w → ⊥) → IsNumber w None

-- ---- the computing twin

unfoldable pub digits_from : ℕ → List ℕ → Option ℕ
digits_from v [] = Some v
digits_from v (b ∷ s) = cond (is_digit b) (digits_from (v * 10 + (b - 48)) s) None

unfoldable pub number_of : List ℕ → Option ℕ
number_of [] = None
number_of (b ∷ s) = digits_from 0 (b ∷ s)

-- ---- the answer is kept up to a limit

-- The largest number that a place of a line takes is that of an event's pulses, "0 to 4,294,967,295" (document 02, F-6). The limit is one more;
-- a number above it stands as the limit, and no place takes either.
abbrev pub number_limit : ℕ
number_limit = 4294967296

abbrev pub capped : ℕ → ℕ
capped v = min v number_limit
