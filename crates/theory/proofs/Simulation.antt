-- Simulation (definition 1) is being at or below on every event sequence, and is being so up to every length.
use mathlib.Core.{Logic.{◌↔◌}, List.{List, [], ◌∷◌}}
use Prim.Native.Nat.{ℕ, zero, suc, ◌<◌}
use lib.ListN.{length}
use Rattle.theory.specs.ValueSets.{AtOrBelow}
use Rattle.theory.specs.MealyMachine.{Machine, Word, after, IsSimulation, Runs}
use Rattle.theory.specs.MachineRuns.{BelowOnWords}
use Rattle.theory.specs.Claims.{SimulationClaim}

-- A simulation that holds of two states has the first at or below the second on every word.
module _ {B S Q : Type 0} (events : ℕ) (In : B → Type 0) (meet : B → B → B)
    (StateS : S → Type 0) (m : Machine S B) (StateQ : Q → Type 0) (q : Machine Q B)
    (runs_m : Runs events In StateS m) (runs_q : Runs events In StateQ q)
    (R : S → Q → Type 0) (simulation : IsSimulation events meet StateS m StateQ q R) where
  pub simulation_below : (s : S) (t : Q) → StateS s → StateQ t → R s t → BelowOnWords events meet m q s t
  simulation_below s t hs ht r [] v e l = (simulation s t hs ht r e l).0
  simulation_below s t hs ht r (a ∷ w) v e l =
      simulation_below (m.next s a) (q.next t a) (runs_m.next_in s hs a v.0) (runs_q.next_in t ht a v.0)
      (simulation s t hs ht r a v.0).1 w v.1 e l

module _ {B S Q : Type 0} (events : ℕ) (meet : B → B → B)
    (StateS : S → Type 0) (m : Machine S B) (StateQ : Q → Type 0) (q : Machine Q B) where
  below_simulation :
      IsSimulation events meet StateS m StateQ q (BelowOnWords events meet m q)
  below_simulation s t hs ht r e l = (r [] tt e l, λ w v a k. r (e ∷ w) (l, v) a k)

-- The same for sequences of at most k events, event by event.
module _ {B S Q : Type 0} (events : ℕ) (meet : B → B → B) (m : Machine S B) (q : Machine Q B) where
  abbrev pub BelowUpTo : ℕ → S → Q → Type 0
  BelowUpTo zero s t = Unit {0}
  BelowUpTo (suc k) s t =
      (e : ℕ) → e < events → AtOrBelow meet (m.value s e) (q.value t e) × BelowUpTo k (m.next s e) (q.next t e)

  words_up_to : (k : ℕ) (s : S) (t : Q) → BelowOnWords events meet m q s t → BelowUpTo k s t
  words_up_to zero s t h = tt
  words_up_to (suc k) s t h = λ e l.
      (h [] tt e l, words_up_to k (m.next s e) (q.next t e) (λ w v a j. h (e ∷ w) (l, v) a j))

  up_to_word :
      (w : List ℕ) (s : S) (t : Q) → BelowUpTo (suc (length w)) s t → Word events w → (e : ℕ) → e < events →
      AtOrBelow meet (m.value (after m s w) e) (q.value (after q t w) e)
  up_to_word [] s t h v e l = (h e l).0
  up_to_word (a ∷ w) s t h v e l = up_to_word w (m.next s a) (q.next t a) (h a v.0).1 v.1 e l

  pub up_to_iff : (s : S) (t : Q) → ((k : ℕ) → BelowUpTo k s t) ↔ BelowOnWords events meet m q s t
  up_to_iff s t = ((λ h w v e l. up_to_word w s t (h (suc (length w))) v e l), λ h k. words_up_to k s t h)

module _ {B : Type 0} (In : B → Type 0) (meet : B → B → B) (top : B) (events : ℕ) where
  pub simulation_claim : SimulationClaim In meet top events
  simulation_claim S Q StateS m StateQ q rm rq s t hs ht = (
    (λ h. simulation_below events In meet StateS m StateQ q rm rq h.0 h.1 s t hs ht h.2),
    λ h. (BelowOnWords events meet m q, below_simulation events meet StateS m StateQ q, h),
  )
