-- How a state is found by its set: states have places, and those of a place are linked, the last first.
use mathlib.Core.{Path.{◌≡◌}, List.{List, []}}
use Rattle.std.specs.Prelude.{ℕ, ◌/◌, ◌%◌, ◌^◌, ◌<◌}
use lib.{Bits.{bit_xor}, ListN.{get_or}}
use Rattle.limits.specs.Limits.{state_limit}
use Rattle.synthesis.specs.NodeWords.{bits_at}

-- How many places there are, and how many states can be linked.
abbrev pub place_count : ℕ
place_count = 131

abbrev pub link_count : ℕ
link_count = state_limit

-- Word w of a set.
abbrev pub set_word : List ℕ → ℕ → ℕ
set_word words w = get_or words w 0 % 2 ^ 64

-- The place of a set.
unfoldable pub set_place : List ℕ → ℕ
set_place words =
    bit_xor (bit_xor (bit_xor (set_word words 0) (set_word words 1 / 2 ^ 1)) (set_word words 2 / 2 ^ 2)) (set_word words 3 / 2 ^ 3) % place_count

-- No two of the first n states are the same.
abbrev pub Different : ℕ → List (List ℕ) → Type 0
Different n states = (j i : ℕ) → j < i → i < n → bits_at states j ≡ bits_at states i → ⊥

-- From state j one comes to state i by links to earlier states.
pub data Linked (links : List ℕ) : ℕ → ℕ → Type 0 where
  there : {j : ℕ} → Linked links j j
  further : {j i : ℕ} → get_or links j 0 < j → Linked links (get_or links j 0) i → Linked links j i

-- Heads are among the first n states, and each of these is linked to from the head of its place.
pub record Chained (n : ℕ) (states : List (List ℕ)) (heads links : List ℕ) : Type 0 where
  pub heads_are : (p : ℕ) → get_or heads p 0 < n
  pub linked : (i : ℕ) → i < n → Linked links (get_or heads (set_place (get_or states i [])) 0) i
