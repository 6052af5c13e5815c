-- Exploration finds the numbering of the states reached and the table, where at most `limit` states are reached; and it finds more
-- than `limit` sequences exactly where more are reached. For any test `same` that decides equality of states.
use mathlib.Core.{Path.{◌≡◌, sym, ◌∙◌, ap}, Bool.{Bool, true, false, cond}, Logic.{◌↔◌}, List.{List, [], ◌∷◌, map, reverse, reverse-reverse}}
use Prim.Native.Nat.{ℕ, zero, suc, ◌≤◌, ◌<◌, zero-le, suc-le-suc}
use native.Mathlib.{Nat.{le_of_suc-le-suc, not-suc-le-zero}, Decide.{dec_lt}, Omega.{arith}}
use lib.{Dec.{T}, ListN.{length, get_or, length-map, get_or-map, get_or-eq_default}}
use Rattle.theory.specs.MealyMachine.{Machine, Word, after, Before, NoLater}
use Rattle.theory.specs.{ReachableStates.{state_at, Numbering, ReachesAtMost, IsTable}, Exploration.{reached, explored, index, numbered}}
use Rattle.theory.proofs.{Numbers.{pigeonhole}, WordOrder.{code, word_reverse, number_before, no_later_iff_number}}
use Rattle.theory.proofs.{Exploration.{at, Kept, Hits, invariant, all_reached}, ReachableStates.{after_reverse, reached_reverse}}

-- The sequences in order of play.
abbrev pub in_order : List (List ℕ) → List (List ℕ)
in_order P = map reverse P

entry_in_order : (P : List (List ℕ)) (l : ℕ) → get_or (in_order P) l [] ≡ reverse (at P l)
entry_in_order P l = get_or-map reverse P l []

module _ {S B : Type 0} (same : S → S → Bool) (same_iff : (x y : S) → T (same x y) ↔ (x ≡ y))
    (events : ℕ) (m : Machine S B) (start : S) where
  abbrev state : List ℕ → S
  state w = reached m.next start w

  abbrev number_in : List (List ℕ) → S → ℕ
  number_in Q x = index same m.next start Q x

  state_in_order : (Q : List (List ℕ)) (l : ℕ) → state_at events m start (in_order Q) l ≡ state (at Q l)
  state_in_order Q l = ap (after m start) (entry_in_order Q l) ∙ after_reverse m start (at Q l)

  -- The index of a state that is there.
  index_at :
      (Q : List (List ℕ)) (x : S) (l : ℕ) → l < length Q → state (at Q l) ≡ x →
      (number_in Q x < length Q) × (state (at Q (number_in Q x)) ≡ x)
  index_at [] x l h e = absurd (not-suc-le-zero h)
  index_at (w ∷ Q) x l h e = go (same (state w) x) (same_iff (state w) x) (index_at Q x) l h e
    where
      i : ℕ
      i = number_in Q x

      go :
          (b : Bool) → T b ↔ (state w ≡ x) →
          ((l : ℕ) → l < length Q → state (at Q l) ≡ x → (i < length Q) × (state (at Q i) ≡ x)) →
          (l : ℕ) → l < suc (length Q) → state (at (w ∷ Q) l) ≡ x →
          (cond b zero (suc i) < suc (length Q)) × (state (at (w ∷ Q) (cond b zero (suc i))) ≡ x)
      go true f r l h e = (suc-le-suc zero-le, f.0 tt)
      go false f r zero h e = absurd (f.1 e)
      go false f r (suc l) h e = (suc-le-suc (r l (le_of_suc-le-suc h) e).0, (r l (le_of_suc-le-suc h) e).1)

  module _ (limit : ℕ) where
    abbrev P : List (List ℕ)
    P = explored same m.next start events limit

    inv : Kept same same_iff m.next start events P
    inv = invariant same same_iff m.next start events limit

    abbrev FoundNoLater : List ℕ → Type 0
    FoundNoLater w = Hits same same_iff m.next start events P (state w) (code events w)

    all_found : length P ≤ limit → (w : List ℕ) → Word events w → FoundNoLater w
    all_found few w v = all_reached same same_iff m.next start events limit few w v

    reached_word : (l : ℕ) → Word events (at P l)
    reached_word l = go (dec_lt l (length P))
      where
        go : Dec (l < length P) → Word events (at P l)
        go (yes h) = inv.1.words l h
        go (no h) = rw (get_or-eq_default P [] {n = l} (omega arith)) tt

    in_order_below : (l : ℕ) → l < length (in_order P) → l < length P
    in_order_below l h = rw length-map at h

    -- Whatever the limit: words of the events, to different states.
    pub explored_word : (l : ℕ) → Word events (reverse (at P l))
    explored_word l = word_reverse events (at P l) (reached_word l)

    pub explored_words : (l : ℕ) → l < length (in_order P) → Word events (get_or (in_order P) l [])
    explored_words l h = rw entry_in_order (explored_word l)

    pub explored_different :
        (j l : ℕ) → j < l → l < length (in_order P) →
        ¬ (state_at events m start (in_order P) j ≡ state_at events m start (in_order P) l)
    explored_different j l u h e =
        inv.1.different j l u (in_order_below l h) (sym (state_in_order P j) ∙ e ∙ state_in_order P l)

    module _ (few : length P ≤ limit) where
      pub explored_numbering : Numbering events m start (in_order P)
      explored_numbering =
          record {
            words = explored_words;
            rising = λ j l u h. rw (entry_in_order P j, entry_in_order P l) (before j l u (in_order_below l h));
            different = explored_different;
            complete = λ w v. complete w v;
          }
        where
          before : (j l : ℕ) → j < l → l < length P → Before (reverse (at P j)) (reverse (at P l))
          before j l u h =
              number_before events (reverse (at P j)) (reverse (at P l)) (explored_word j) (explored_word l)
              (rw (reverse-reverse (at P j), reverse-reverse (at P l)) (inv.1.rising j l u h))

          complete :
              (w : List ℕ) → Word events w →
              (l : ℕ) × (l < length (in_order P)) × (state_at events m start (in_order P) l ≡ after m start w)
              × NoLater (get_or (in_order P) l []) w
          complete w v =
              let r : FoundNoLater (reverse w) = all_found few (reverse w) (word_reverse events w v) in
              let u : List ℕ = at P r.0 in (
                r.0,
                rw length-map r.1,
                state_in_order P r.0 ∙ r.2 ∙ reached_reverse m start w,
                rw (entry_in_order P r.0)
                    ((no_later_iff_number events (reverse u) w (explored_word r.0) v).1 (rw (reverse-reverse u) r.3)),
              )

      -- The table computed from the sequences is the machine's.
      pub explored_table : IsTable events m start (length P) (numbered same m start P)
      explored_table =
          record {
            sequences = in_order P;
            numbering = explored_numbering;
            count = length-map P reverse;
            values = λ l e h a. ap (λ x. m.value x e) (sym (state_in_order P l));
            nexts = λ l e h a.
                let x : S = m.next (state (at P l)) e in
                let r : FoundNoLater (e ∷ at P l) = all_found few (e ∷ at P l) (a, inv.1.words l h) in
                let i : (number_in P x < length P) × (state (at P (number_in P x)) ≡ x) = index_at P x r.0 r.1 r.2 in
                (i.0, state_in_order P (number_in P x) ∙ i.1 ∙ ap (λ s. m.next s e) (sym (state_in_order P l)));
          }

    -- Each sequence found has a number of its own in any numbering.
    no_more_found : (W : List (List ℕ)) → Numbering events m start W → length P ≤ length W
    no_more_found W N =
        pigeonhole (length W) (length P) (λ j. (place j).0) (λ j h. (place j).1)
        (λ j l u h e. inv.1.different j l u h (sym (place_state j) ∙ ap (state_at events m start W) e ∙ place_state l))
      where
        place :
            (j : ℕ) →
            (l : ℕ) × (l < length W) × (state_at events m start W l ≡ after m start (reverse (at P j)))
            × NoLater (get_or W l []) (reverse (at P j))
        place j = N.complete (reverse (at P j)) (word_reverse events (at P j) (reached_word j))

        place_state : (j : ℕ) → state_at events m start W (place j).0 ≡ state (at P j)
        place_state j = (place j).2 ∙ after_reverse m start (at P j)

    -- The count tells whether more than `limit` states are reached.
    pub explored_at_most : (length P ≤ limit) ↔ ReachesAtMost events m start limit
    explored_at_most = (
      (λ few. (in_order P, explored_numbering few, rw length-map few)),
      λ r. omega (arith, no_more_found r.0 r.1, r.2),
    )
