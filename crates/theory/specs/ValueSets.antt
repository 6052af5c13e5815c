-- Value sets (document 01, "Value sets"; source 000, section 2), and the two kinds of values: numbers, and registers of lines (document 02, F-7).
use mathlib.Core.{Path.{◌≡◌}, List.{List, [], ◌∷◌}}
use Rattle.std.specs.Prelude.{ℕ, ◌+◌, ◌*◌, ◌-◌, ◌/◌, ◌%◌, ◌^◌, ◌<◌, get_or}

-- Meet is idempotent, commutative, associative for every three values, and top is neutral.
-- The carrier is any type; `In` says which of its elements are values of the set.
pub record MeetSemilattice {B : Type 0} (In : B → Type 0) (meet : B → B → B) (top : B) : Type 0 where
  pub top_in : In top
  pub meet_in : (a b : B) → In a → In b → In (meet a b)
  pub idempotent : (a : B) → In a → meet a a ≡ a
  pub commutative : (a b : B) → In a → In b → meet a b ≡ meet b a
  pub associative : (a b c : B) → In a → In b → In c → meet (meet a b) c ≡ meet a (meet b c)
  pub neutral : (a : B) → In a → meet a top ≡ a

-- b is at or below c when the meet of b and c is b.
abbrev pub AtOrBelow : {B : Type 0} → (B → B → B) → B → B → Type 0
AtOrBelow meet b c = meet b c ≡ b

-- Values are the numbers below n.
abbrev pub Below : ℕ → ℕ → Type 0
Below n v = v < n

-- The meet table, row by row, n × n entries.
unfoldable pub meet_at : ℕ → List ℕ → ℕ → ℕ → ℕ
meet_at n table a b = get_or table (a * n + b) 0

-- The four-value set: 0 is conflict, 1 low, 2 high, 3 top.
unfoldable pub four_value_meet : List ℕ
four_value_meet = 0 ∷ 0 ∷ 0 ∷ 0 ∷ 0 ∷ 1 ∷ 0 ∷ 1 ∷ 0 ∷ 0 ∷ 2 ∷ 2 ∷ 0 ∷ 1 ∷ 2 ∷ 3 ∷ []

-- A register value of some lines: which lines may be low, and which may be high. Bit 0 is line 0.
pub record Masks : Type 0 where
  pub low : ℕ
  pub high : ℕ

-- No bit at or above the line count is set.
pub record OfLines (lines : ℕ) (m : Masks) : Type 0 where
  pub low : m.low < 2 ^ lines
  pub high : m.high < 2 ^ lines

-- Top has all lines' bits set in both masks.
unfoldable pub top_masks : ℕ → Masks
top_masks lines = record { low = 2 ^ lines - 1; high = 2 ^ lines - 1 }

-- Two masks of at most 16 lines as one number below 2 ^ 32.
unfoldable pub pack : Masks → ℕ
pack m = m.low + 65536 * m.high

unfoldable pub unpack : ℕ → Masks
unpack v = record { low = v % 65536; high = v / 65536 }
