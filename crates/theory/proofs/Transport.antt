-- Two machines whose words reach the same state in one exactly where they do in the other, with the same values, have the same
-- numbering and the same tables. A map that is injective on the states reached makes two machines such.
use mathlib.Core.{Path.{◌≡◌, refl, sym, ◌∙◌, ap}, List.{List, [], ◌∷◌, ◌++◌}}
use Prim.Native.Nat.{ℕ, ◌<◌}
use native.Mathlib.Omega.{arith}
use lib.ListN.{length, get_or}
use Rattle.theory.specs.{MealyMachine.{Machine, Word, after}, ReachableStates.{state_at, Numbering, ReachesAtMost, IsTable}}
use Rattle.theory.proofs.{WordOrder.{word_append}, ReachableStates.{after_append, after_in}}

module _ {S Q B : Type 0} (events : ℕ) (m : Machine S B) (start : S) (q : Machine Q B) (begin : Q) where
  pub record SameStates : Type 0 where
    pub together :
        (v w : List ℕ) → Word events v → Word events w → after m start v ≡ after m start w → after q begin v ≡ after q begin w
    pub apart :
        (v w : List ℕ) → Word events v → Word events w → after q begin v ≡ after q begin w → after m start v ≡ after m start w
    pub values :
        (w : List ℕ) → Word events w → (e : ℕ) → e < events → m.value (after m start w) e ≡ q.value (after q begin w) e

module _ {S Q B : Type 0} {events : ℕ} {m : Machine S B} {start : S} {q : Machine Q B} {begin : Q} where
  pub same_states_sym : SameStates events m start q begin → SameStates events q begin m start
  same_states_sym c =
      record { together = c.apart; apart = c.together; values = λ w v e h. sym (c.values w v e h) }

  pub transport_numbering :
      SameStates events m start q begin → (W : List (List ℕ)) → Numbering events m start W → Numbering events q begin W
  transport_numbering c W N =
      record {
        words = N.words;
        rising = N.rising;
        different = λ j l u h e.
            N.different j l u h (c.apart (get_or W j []) (get_or W l []) (N.words j (omega arith)) (N.words l h) e);
        complete = λ w v.
            let r : (l : ℕ) × (l < length W) × (state_at events m start W l ≡ after m start w) × _ = N.complete w v in
            (r.0, r.1, c.together (get_or W r.0 []) w (N.words r.0 r.1) v r.2, r.3);
      }

  pub transport_at_most :
      SameStates events m start q begin → (limit : ℕ) → ReachesAtMost events m start limit → ReachesAtMost events q begin limit
  transport_at_most c limit r = (r.0, transport_numbering c r.0 r.1, r.2)

  pub transport_table :
      SameStates events m start q begin → (n : ℕ) (t : Machine ℕ B) → IsTable events m start n t → IsTable events q begin n t
  transport_table c n t x =
      record {
        sequences = x.sequences;
        numbering = transport_numbering c x.sequences x.numbering;
        count = x.count;
        values = λ l e h a. x.values l e h a ∙ c.values (entry l) (entry_word l h) e a;
        nexts = λ l e h a. (
          (x.nexts l e h a).0,
          c.together (entry (t.next l e)) (entry l ++ (e ∷ [])) (entry_word (t.next l e) (x.nexts l e h a).0)
              (word_append events (entry l) (e ∷ []) (entry_word l h) (a, tt))
              ((x.nexts l e h a).1 ∙ sym (after_append m start (entry l) (e ∷ [])))
              ∙ after_append q begin (entry l) (e ∷ []),
        );
      }
    where
      entry : ℕ → List ℕ
      entry l = get_or x.sequences l []

      entry_word : (l : ℕ) → l < n → Word events (entry l)
      entry_word l h = x.numbering.words l (omega (arith, x.count))

-- The map f takes the states `State` of m, among which are all those reached, to states of q.
module _ {S Q B : Type 0} (events : ℕ) (m : Machine S B) (start : S) (q : Machine Q B) (begin : Q)
    (State : S → Type 0) (start_in : State start)
    (next_in : (s : S) → State s → (e : ℕ) → e < events → State (m.next s e))
    (f : S → Q) (f_start : f start ≡ begin)
    (f_next : (s : S) → State s → (e : ℕ) → e < events → f (m.next s e) ≡ q.next (f s) e)
    (f_value : (s : S) → State s → (e : ℕ) → e < events → m.value s e ≡ q.value (f s) e)
    (f_injective : (s t : S) → State s → State t → f s ≡ f t → s ≡ t) where
  reached_in : (w : List ℕ) → Word events w → State (after m start w)
  reached_in w v = after_in events m State next_in w v start start_in

  f_after : (w : List ℕ) → Word events w → (s : S) → State s → f (after m s w) ≡ after q (f s) w
  f_after [] v s h = refl
  f_after (e ∷ w) v s h =
      f_after w v.1 (m.next s e) (next_in s h e v.0) ∙ ap (λ x. after q x w) (f_next s h e v.0)

  f_reached : (w : List ℕ) → Word events w → f (after m start w) ≡ after q begin w
  f_reached w v = f_after w v start start_in ∙ ap (λ x. after q x w) f_start

  pub map_same_states : SameStates events m start q begin
  map_same_states =
      record {
        together = λ v w hv hw e. sym (f_reached v hv) ∙ ap f e ∙ f_reached w hw;
        apart = λ v w hv hw e.
            f_injective (after m start v) (after m start w) (reached_in v hv) (reached_in w hw)
            (f_reached v hv ∙ e ∙ sym (f_reached w hw));
        values = λ w v e h.
            f_value (after m start w) (reached_in w v) e h ∙ ap (λ x. q.value x e) (f_reached w v);
      }
