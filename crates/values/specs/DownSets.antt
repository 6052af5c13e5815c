-- The laws of a meet table by sets of values: what is at or below a meet is what is at or below both of its parts (document 01, "Value sets").
use mathlib.Core.{Path.{◌≡◌}, Bool.{Bool, ◌&&◌, cond}, List.{List}}
use Rattle.std.specs.Prelude.{ℕ, zero, suc, ◌+◌, ◌*◌, ◌<◌}
use lib.{Bits.{bit_and}, Dec.{eqb, ltb}, ListN.{length, get_or}}
use Rattle.limits.specs.Limits.{value_limit}
use Rattle.theory.specs.ValueSets.{meet_at}
use Rattle.theory.specs.ValueSetTests.{every, idempotent_test, neutral_test}

-- The numbers below n that pass a test: a bit for each number, that of 0 the highest.
unfoldable pub mask : ℕ → (ℕ → Bool) → ℕ
mask zero test = 0
mask (suc n) test = mask n test * 2 + cond (test n) 1 0

-- The values at or below a: those b whose meet with a is b.
abbrev pub down_set : ℕ → List ℕ → ℕ → ℕ
down_set n table a = mask n (λ b. eqb (meet_at n table a b) b)

-- Of two values: their order does not matter, their meet is a value, and what is at or below it is what is at or below both.
unfoldable pub pair_test : ℕ → List ℕ → ℕ → ℕ → Bool
pair_test n table a b =
    eqb (meet_at n table a b) (meet_at n table b a)
    && (ltb (meet_at n table a b) n && eqb (down_set n table (meet_at n table a b)) (bit_and (down_set n table a) (down_set n table b)))

-- Of every two, in one order.
unfoldable pub pairs_test : ℕ → List ℕ → Bool
pairs_test n table = every n (λ a. every a (λ b. pair_test n table a b))

-- The test of the laws with pairs in the place of triples.
unfoldable pub lawful_by_sets : ℕ → List ℕ → ℕ → Bool
lawful_by_sets n table top = ltb top n && (idempotent_test n table && (pairs_test n table && neutral_test n table top))

-- The sets of all values of a table, in an array with room for as many as there may be.
pub record DownSets (n : ℕ) (table sets : List ℕ) : Type 0 where
  pub sized : length sets ≡ value_limit
  pub each : (a : ℕ) → a < n → get_or sets a 0 ≡ down_set n table a
