-- Sets of node numbers in words of 64 bits, four words a set.
use mathlib.Core.{Path.{◌≡◌}, Bool.{Bool, ◌&&◌}, List.{List, []}}
use Rattle.std.specs.Prelude.{ℕ, ◌+◌, ◌/◌, ◌%◌, ◌^◌, ◌<◌}
use lib.{Dec.{ltb, eqb}, ListN.{length, get_or, set}}
use Rattle.limits.specs.Limits.{node_limit}
use Rattle.theory.specs.{ReachableStates.{NodeSet}, Exploration.{bits}}

-- A set of nodes is kept in words of 64 bits.
abbrev pub set_words : ℕ
set_words = node_limit / 64

-- A row for each node and an empty one.
abbrev pub row_count : ℕ
row_count = node_limit + 1

-- Bit k of a number.
unfoldable pub bit_at : ℕ → ℕ → ℕ
bit_at a k = a / 2 ^ k % 2

-- The set of these words: node k is bit k % 64 of word k / 64.
unfoldable pub set_of : List ℕ → NodeSet
set_of words k = ltb k node_limit && eqb (bit_at (get_or words (k / 64) 0) (k % 64)) 1

-- The set as a list of bits.
unfoldable pub set_bits : List ℕ → List Bool
set_bits words = bits node_limit 0 (set_of words)

-- The set kept for number i, and its bits.
abbrev pub row : List (List ℕ) → ℕ → NodeSet
row rows i = set_of (get_or rows i [])

abbrev pub bits_at : List (List ℕ) → ℕ → List Bool
bits_at sets i = set_bits (get_or sets i [])

-- The set is stored for number i, and the others are as before.
abbrev pub Stored : List (List ℕ) → List (List ℕ) → ℕ → List ℕ → Type 0
Stored before after i words = (i < length before) × (after ≡ set before i words)
