-- Twin of ReachableStates, pinned by theory TableClaim.
-- Reachable states found breadth first, and the table computed from them: the computing twin of `ReachableStates`.
-- Here a sequence is kept with its LAST event first.
use mathlib.Core.{Bool.{Bool, true, false, ◌&&◌, ◌||◌, cond, beq}, List.{List, [], ◌∷◌, ◌++◌}}
use Rattle.std.specs.Prelude.{ℕ, zero, suc}
use lib.{Dec.{ltb}, ListN.{length, get_or}}
use Rattle.theory.specs.{Formula.{Formula}, MealyMachine.{Machine}, ReachableStates.{NodeSet, value_of_set}, DemandSets.{moved, first_set}}

-- The state after a sequence, its last event first.
abbrev pub reached : {S : Type 0} → (S → ℕ → S) → S → List ℕ → S
reached next start [] = start
reached next start (e ∷ w) = next (reached next start w) e

module _ {S : Type 0} (same : S → S → Bool) (next : S → ℕ → S) (start : S) where
  -- Some sequence of the list reaches the state.
  abbrev pub has_state : List (List ℕ) → S → Bool
  has_state [] x = false
  has_state (w ∷ P) x = same (reached next start w) x || has_state P x

  -- The list with the sequence, where it reaches a new state.
  abbrev pub add : List (List ℕ) → List ℕ → List (List ℕ)
  add P w = cond (has_state P (reached next start w)) P (P ++ (w ∷ []))

  -- The sequence w followed by each of c events from e on.
  abbrev pub add_events : ℕ → ℕ → List (List ℕ) → List ℕ → List (List ℕ)
  add_events zero e P w = P
  add_events (suc c) e P w = add_events c (suc e) (add P (e ∷ w)) w

  module _ (events : ℕ) where
    -- The successors of k sequences from number i on.
    abbrev pub explore : ℕ → ℕ → List (List ℕ) → List (List ℕ)
    explore zero i P = P
    explore (suc k) i P =
        let more = explore k (suc i) (add_events events zero P (get_or P i [])) in
        cond (ltb i (length P)) more P

    -- The first sequence to each state, in order. With more than `limit` states the list is longer than `limit`.
    abbrev pub explored : ℕ → List (List ℕ)
    explored limit = explore limit zero ([] ∷ [])

  -- The number of the first sequence that reaches x.
  abbrev pub index : List (List ℕ) → S → ℕ
  index [] x = zero
  index (w ∷ P) x = cond (same (reached next start w) x) zero (suc (index P x))

-- The machine whose states are the numbers of the sequences.
module _ {S B : Type 0} (same : S → S → Bool) (m : Machine S B) (start : S) where
  abbrev pub numbered : List (List ℕ) → Machine ℕ B
  numbered P =
      record {
        value = λ l e. m.value (reached m.next start (get_or P l [])) e;
        next = λ l e. index same m.next start P (m.next (reached m.next start (get_or P l [])) e);
      }

-- A set of numbers below a width as a list of bits.
abbrev pub member : List Bool → NodeSet
member L i = get_or L i false

abbrev pub bits : ℕ → ℕ → NodeSet → List Bool
bits zero i D = []
bits (suc n) i D = D i ∷ bits n (suc i) D

abbrev pub same_bits : List Bool → List Bool → Bool
same_bits [] [] = true
same_bits [] (y ∷ M) = false
same_bits (x ∷ L) [] = false
same_bits (x ∷ L) (y ∷ M) = beq x y && same_bits L M

-- A formula's machine of node sets, the sets as bits; the width is at least the formula's size.
module _ (width : ℕ) {B : Type 0} (meet : B → B → B) (top : B) (φ : Formula B) where
  abbrev pub bit_machine : Machine (List Bool) B
  bit_machine =
      record {
        value = λ L e. value_of_set meet top φ (member L) e;
        next = λ L e. bits width zero (moved (member L) e [] zero φ);
      }

  abbrev pub first_bits : List Bool
  first_bits = bits width zero (first_set φ)

  module _ (events limit : ℕ) where
    abbrev pub sequences_of : List (List ℕ)
    sequences_of = explored same_bits bit_machine.next first_bits events limit

    -- How many states the formula's table has, where that is within the limit; above the limit otherwise.
    abbrev pub state_count : ℕ
    state_count = length sequences_of

    -- The formula's table, where its states are within the limit.
    abbrev pub table_of : Machine ℕ B
    table_of = numbered same_bits bit_machine first_bits sequences_of
