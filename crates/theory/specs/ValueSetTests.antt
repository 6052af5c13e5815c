-- Twin of ValueSets, pinned by theory LawfulClaim.
-- The laws of a meet table as tests.
use mathlib.Core.{Bool.{Bool, true, ◌&&◌}, List.{List}}
use Rattle.std.specs.Prelude.{ℕ, zero, suc, eqb, ltb}
use Rattle.theory.specs.ValueSets.{meet_at}

-- A test passes at each number below n.
unfoldable pub every : ℕ → (ℕ → Bool) → Bool
every zero test = true
every (suc n) test = test n && every n test

-- The laws of a table of n values as tests: of each value, of every two, of every three.
unfoldable pub closed_test : ℕ → List ℕ → Bool
closed_test n table = every n (λ a. every n (λ b. ltb (meet_at n table a b) n))

unfoldable pub idempotent_test : ℕ → List ℕ → Bool
idempotent_test n table = every n (λ a. eqb (meet_at n table a a) a)

unfoldable pub commutative_test : ℕ → List ℕ → Bool
commutative_test n table = every n (λ a. every n (λ b. eqb (meet_at n table a b) (meet_at n table b a)))

unfoldable pub associative_test : ℕ → List ℕ → Bool
associative_test n table =
    every n (λ a. every n (λ b. every n (λ c. eqb (meet_at n table (meet_at n table a b) c) (meet_at n table a (meet_at n table b c)))))

unfoldable pub neutral_test : ℕ → List ℕ → ℕ → Bool
neutral_test n table top = every n (λ a. eqb (meet_at n table a top) a)

-- The computing twin of `MeetSemilattice (Below n) (meet_at n table) top`.
unfoldable pub lawful : ℕ → List ℕ → ℕ → Bool
lawful n table top =
    ltb top n
    && (closed_test n table
    && (idempotent_test n table && (commutative_test n table && (associative_test n table && neutral_test n table top))))
