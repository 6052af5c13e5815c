-- Twin of MealyMachine, pinned by theory ConformanceClaim.
-- The first failing word of one table against another, computed, for any test of two values: at or below; or equal (document 02, F-5).
use mathlib.Core.{Bool.{Bool, true, false, not, ◌&&◌, cond}, List.{List, [], ◌∷◌, reverse}, Option.{Option, none, some}}
use Rattle.std.specs.Prelude.{ℕ, zero, suc, ◌*◌, eqb}
use Rattle.theory.specs.{MealyMachine.{Machine}, Exploration.{reached, explored}}

-- Breadth first over pairs of states, each pair judged once, events rising.
abbrev pub first_found : Option (List ℕ) → Option (List ℕ) → Option (List ℕ)
first_found none o = o
first_found (some w) o = some w

abbrev pub same_pair : ℕ × ℕ → ℕ × ℕ → Bool
same_pair x y = eqb x.0 y.0 && eqb x.1 y.1

abbrev pub is_none : {A : Type 0} → Option A → Bool
is_none none = true
is_none (some a) = false

abbrev pub in_play_order : Option (List ℕ) → Option (List ℕ)
in_play_order none = none
in_play_order (some w) = some (reverse w)

module _ {S : Type 0} (next : S → ℕ → S) (start : S) (bad : S → ℕ → Bool) where
  -- Among the words w, then one of c events from e on. Words have their last event first.
  abbrev pub bad_event : ℕ → ℕ → List ℕ → Option (List ℕ)
  bad_event zero e w = none
  bad_event (suc c) e w = cond (bad (reached next start w) e) (some (e ∷ w)) (bad_event c (suc e) w)

  abbrev pub first_bad : ℕ → List (List ℕ) → Option (List ℕ)
  first_bad events [] = none
  first_bad events (w ∷ P) = first_found (bad_event events zero w) (first_bad events P)

-- The pair of states after an event.
abbrev pub next_pair : {B : Type 0} → Machine ℕ B → Machine ℕ B → ℕ × ℕ → ℕ → ℕ × ℕ
next_pair m q x e = (m.next x.0 e, q.next x.1 e)

module _ {B : Type 0} (related : B → B → Bool) (m q : Machine ℕ B) where
  abbrev pub bad_pair : ℕ × ℕ → ℕ → Bool
  bad_pair x e = not (related (m.value x.0 e) (q.value x.1 e))

  -- The first word on which a table of n states fails against one of k states.
  abbrev pub counterexample : ℕ → ℕ → ℕ → ℕ → ℕ → Option (List ℕ)
  counterexample events n k s t =
      in_play_order (first_bad (next_pair m q) (s, t) bad_pair events (explored same_pair (next_pair m q) (s, t) events (n * k)))
