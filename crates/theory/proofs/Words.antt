-- The values of a sequence, event by event.
use mathlib.Core.{Path.{◌≡◌, refl, ap}, List.{List, [], ◌∷◌}}
use Prim.Native.Nat.{ℕ, zero, suc, ◌<◌}
use native.Mathlib.Nat.{not-suc-le-zero, le_of_suc-le-suc}
use lib.ListN.{length, get_or, take}
use Rattle.theory.specs.MealyMachine.{Machine, after}
use Rattle.theory.specs.MachineRuns.{word_values}

pub length_word_values : (m : Machine ℕ ℕ) (q : ℕ) (w : List ℕ) → length (word_values m q w) ≡ length w
length_word_values m q [] = refl
length_word_values m q (e ∷ w) = ap suc (length_word_values m (m.next q e) w)

pub word_values_at :
    (m : Machine ℕ ℕ) (q : ℕ) (w : List ℕ) (i : ℕ) → i < length w →
    get_or (word_values m q w) i 0 ≡ m.value (after m q (take i w)) (get_or w i 0)
word_values_at m q [] i h = absurd (not-suc-le-zero h)
word_values_at m q (e ∷ w) zero h = refl
word_values_at m q (e ∷ w) (suc i) h = word_values_at m (m.next q e) w i (le_of_suc-le-suc h)

pub after_take :
    (m : Machine ℕ ℕ) (q : ℕ) (w : List ℕ) (i : ℕ) → i < length w →
    after m q (take (suc i) w) ≡ m.next (after m q (take i w)) (get_or w i 0)
after_take m q [] i h = absurd (not-suc-le-zero h)
after_take m q (e ∷ w) zero h = refl
after_take m q (e ∷ w) (suc i) h = after_take m (m.next q e) w i (le_of_suc-le-suc h)
