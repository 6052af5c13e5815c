-- Pushing the successors of a pair, event by event, adds their words.
use mathlib.Core.{Path.{◌≡◌, sym, ◌∙◌, ap, subst⁻¹}, Bool.{Bool, false}, List.{List, [], ◌∷◌}}
use Prim.Native.Nat.{ℕ, zero, suc, ◌+◌, ◌*◌, ◌-◌, ◌≤◌, ◌<◌}
use native.Mathlib.{Nat.{mul-le-mul_right, suc-mul}, Numerals.{add-one}, Omega.{arith}}
use lib.ListN.{length, get_or}
use Rattle.theory.specs.Exploration.{add, add_events}
use Rattle.theory.specs.ConformanceCheck.{same_pair, next_pair}
use Rattle.theory.proofs.Exploration.{add_grows, add_events_grows}
use Rattle.conformance.specs.Trial.{TrialInput, device_machine, table_machine}
use Rattle.conformance.specs.declared.Queue.{Queue}
use Rattle.conformance.specs.PairQueue.{pair_at, HoldsPairs, Ready, pair_after, has_pair, pushed, Expandable}
use Rattle.conformance.proofs.{Places.{product_bounded}, Queues.{push_room, push_holds}}

-- Adding words, to any list and over any states.
module _ {S : Type 0} (same : S → S → Bool) (next : S → ℕ → S) (start : S) where
  abbrev added : ℕ → ℕ → List (List ℕ) → List ℕ → List (List ℕ)
  added c a P w = add_events same next start c a P w

  -- The last of the events.
  add_last : (c a : ℕ) (P : List (List ℕ)) (w : List ℕ) → added (suc c) a P w ≡ add same next start (added c a P w) ((a + c) ∷ w)
  add_last zero a P w = ap (λ x. add same next start P (x ∷ w)) (omega arith)
  add_last (suc c) a P w =
      add_last c (suc a) (add same next start P (a ∷ w)) w
      ∙ ap (λ x. add same next start (added (suc c) a P w) (x ∷ w)) (omega arith)

  module _ (P : List (List ℕ)) (w : List ℕ) where
    abbrev part : ℕ → List (List ℕ)
    part e = added e zero P w

    pub part_more : (e : ℕ) → part (e + 1) ≡ add same next start (part e) (e ∷ w)
    part_more e = ap part (add-one e) ∙ add_last e zero P w ∙ ap (λ x. add same next start (part e) (x ∷ w)) (omega arith)

    part_next : (e : ℕ) → length (part e) ≤ length (part (e + 1))
    part_next e = subst⁻¹ (λ Q. length (part e) ≤ length Q) (part_more e) (add_grows same next start (part e) (e ∷ w)).0

    pub part_length : (e d : ℕ) → length (part e) ≤ length (part (e + d))
    part_length e zero = let z : e + zero ≡ e = omega arith in subst⁻¹ (λ x. length (part e) ≤ length (part x)) z (omega arith)
    part_length e (suc d) =
        let z : e + suc d ≡ e + d + 1 = omega arith in
        subst⁻¹ (λ x. length (part e) ≤ length (part x)) z (omega (arith, part_length e d, part_next (e + d)))

    pub part_grows : (e : ℕ) → length P ≤ length (part e)
    part_grows e = (add_events_grows same next start e zero P w).0

    pub part_keeps : (l : ℕ) → l < length P → (e : ℕ) → get_or (part e) l [] ≡ get_or P l []
    part_keeps l h e = (add_events_grows same next start e zero P w).1 l h

-- The words with the successors of word i on the events before e.
module _ (x : TrialInput) (P : List (List ℕ)) (i : ℕ) where
  abbrev pub parts : ℕ → List (List ℕ)
  parts e = add_events same_pair (next_pair (device_machine x) (table_machine x)) (x.device_start, zero) e zero P (get_or P i [])

-- What holds at each turn of the loop over the events, of whatever words the queue held at first.
module _ {size : ℕ} {x : TrialInput} {i : ℕ} {a₀ : Queue size} (ready : Ready size x) (h : Expandable x a₀ i) where
  abbrev w : List ℕ
  w = get_or h.words i []

  grow : (e : ℕ) → length h.words ≤ length (parts x h.words i e)
  grow e = part_grows same_pair (next_pair (device_machine x) (table_machine x)) (x.device_start, zero) h.words w e

  -- The place is one of the arrays, and is small enough to be stored.
  place_in : i < x.device_states * x.states
  place_in = omega (arith, h.taken, grow x.set_up.events, h.room)

  pub place_small : i < size
  place_small = omega (arith, place_in, ready.few_pairs)

  pub place_stored : i < 65536
  place_stored = omega (arith, place_in, product_bounded ready.few_device_states ready.few_table_states)

  -- The pair's states, as they are read from the queue.
  module _ (s t : ℕ) (s_is : s ≡ (pair_at a₀.pairs i).device) (t_is : t ≡ (pair_at a₀.pairs i).table) where
    pair_is : pair_after x w ≡ (s, t)
    pair_is = sym (h.held.reached i h.taken) ∙ (λ j. (sym s_is j, sym t_is j))

    s_in : s < x.device_states
    s_in = subst⁻¹ (λ u. u < x.device_states) s_is (h.held.device_in i h.taken)

    t_in : t < x.states
    t_in = subst⁻¹ (λ u. u < x.states) t_is (h.held.table_in i h.taken)

    pub s_small : s < 256
    s_small = omega (arith, s_in, ready.few_device_states)

    pub t_small : t < 256
    t_small = omega (arith, t_in, ready.few_table_states)

    module _ (e u v : ℕ) (e_in : e < x.set_up.events) (u_is : u ≡ (device_machine x).next s e) (v_is : v ≡ (table_machine x).next t e) where
      u_in : u < x.device_states
      u_in = subst⁻¹ (λ z. z < x.device_states) u_is (ready.device_nexts s e s_in e_in)

      v_in : v < x.states
      v_in = subst⁻¹ (λ z. z < x.states) v_is (ready.table_nexts t e t_in e_in)

      pub next_place : u * x.states + v < size
      next_place = omega (arith, v_in, mul-le-mul_right x.states u_in, suc-mul u x.states, ready.few_pairs)

      module _ (a : Queue size) (held : HoldsPairs x (parts x h.words i e) a) where
        abbrev P : List (List ℕ)
        P = parts x h.words i e

        i_in : i < length P
        i_in = omega (arith, h.taken, grow e)

        word_i : get_or P i [] ≡ w
        word_i = part_keeps same_pair (next_pair (device_machine x) (table_machine x)) (x.device_start, zero) h.words w i h.taken e

        next_is : pair_after x (e ∷ get_or P i []) ≡ (u, v)
        next_is =
            ap (λ y. next_pair (device_machine x) (table_machine x) (pair_after x y) e) word_i
            ∙ ap (λ p. next_pair (device_machine x) (table_machine x) p e) pair_is ∙ (λ j. (sym u_is j, sym v_is j))

        abbrev more : List (List ℕ)
        more = add same_pair (next_pair (device_machine x) (table_machine x)) (x.device_start, zero) P (e ∷ get_or P i [])

        more_is : parts x h.words i (e + 1) ≡ more
        more_is =
            part_more same_pair (next_pair (device_machine x) (table_machine x)) (x.device_start, zero) h.words w e
            ∙ ap (λ y. add same_pair (next_pair (device_machine x) (table_machine x)) (x.device_start, zero) P (e ∷ y)) (sym word_i)

        more_fits : length more ≤ size
        more_fits =
            let d : x.set_up.events ≡ e + 1 + (x.set_up.events - (e + 1)) = omega arith in
            omega (
              arith,
              ap length more_is,
              part_length same_pair (next_pair (device_machine x) (table_machine x)) (x.device_start, zero) h.words w (e + 1) (x.set_up.events - (e + 1)),
              ap (λ c. length (parts x h.words i c)) d,
              h.room,
              ready.few_pairs,
            )

        pub next_room : has_pair a (u * x.states + v) ≡ false → a.count < size
        next_room z = omega (arith, held.counted, push_room x P a held i e i_in u v next_is u_in v_in ready.few_pairs more_fits z)

        pub turned :
            (b : Queue size) → b ≡ pushed a (u * x.states + v) (record { device = u; table = v; event = e; parent = i }) →
            HoldsPairs x (parts x h.words i (e + 1)) b
        turned b b_is =
            subst⁻¹ (λ Q. HoldsPairs x Q b) more_is
            (subst⁻¹ (HoldsPairs x more) b_is (push_holds x P a held i e i_in u v next_is u_in v_in ready.few_pairs more_fits))
