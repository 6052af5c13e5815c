-- The queue after a pair is pushed holds the words with one more.
use mathlib.Core.{Path.{◌≡◌, refl, sym, ◌∙◌, ap, ap₂, subst⁻¹}, Bool.{Bool, true, false, cond, ◌||◌, or-false, or-true, or_assoc}}
use mathlib.Core.{Logic.{◌⊎◌, inl, inr}, List.{List, [], ◌∷◌, ◌++◌}}
use Prim.Native.Nat.{ℕ, zero, suc, ◌+◌, ◌*◌, ◌≤◌, ◌<◌}
use native.Mathlib.{Nat.{mul-le-mul_right, suc-mul, eq-or-lt_of_le, le_of_suc-le-suc, suc_inj}, Omega.{arith}}
use borrow.Author.Tests.{eq-eqb}
use lib.{Dec.{T, eqb, eqb→eq}, ListN.{length, get_or, set, length-append, length-set, get_or-append}}
use lib.Seq.{get_or-append_seam, get_or-set_same, get_or-set_other}
use mir.Facts.{and_yes}
use Rattle.theory.specs.Exploration.{has_state, add}
use Rattle.theory.specs.ConformanceCheck.{same_pair, next_pair}
use Rattle.theory.proofs.{Numbers.{digits_equal}, Exploration.{length_end}}
use Rattle.conformance.specs.Trial.{TrialInput, device_machine, table_machine}
use Rattle.conformance.specs.declared.{Queue.{Queue}, Pair.{Pair}}
use Rattle.conformance.specs.PairQueue.{Linked, HoldsPairs, pair_at, states, pair_after, has_pair, push, pushed}

-- A place of a list with one more at its end is an old one or the last.
data Spot (P : List (List ℕ)) (v : List ℕ) (l : ℕ) : Type 0 where
  old : l < length P → get_or (P ++ (v ∷ [])) l [] ≡ get_or P l [] → Spot P v l
  new : l ≡ length P → get_or (P ++ (v ∷ [])) l [] ≡ v → Spot P v l

spot : (P : List (List ℕ)) (v : List ℕ) (l : ℕ) → l < length (P ++ (v ∷ [])) → Spot P v l
spot P v l h = go (eq-or-lt_of_le {n = suc l} {m = suc (length P)} (omega (arith, length-append P (v ∷ []))))
  where
    go : (suc l ≡ suc (length P)) ⊎ (suc l < suc (length P)) → Spot P v l
    go (inl q) = new (suc_inj q) (ap (λ i. get_or (P ++ (v ∷ [])) i []) (suc_inj q) ∙ get_or-append_seam P v [] [])
    go (inr u) = old (le_of_suc-le-suc u) (get_or-append P (v ∷ []) [] l (le_of_suc-le-suc u))

-- A pair at the end of the pairs, and those before it.
pair_new : (pairs : List Pair) (c : ℕ) (r : Pair) → c < length pairs → pair_at (set pairs c r) c ≡ r
pair_new pairs c r h = get_or-set_same pairs c r _ h

pair_old : (pairs : List Pair) (c l : ℕ) (r : Pair) → l < c → pair_at (set pairs c r) l ≡ pair_at pairs l
pair_old pairs c l r h = get_or-set_other pairs c l r _ (λ z. omega arith)

-- The words with one more, which is its parent's with one event more.
linked_push :
    (P : List (List ℕ)) (pairs : List Pair) (r : Pair) → r.parent < length P → length P < length pairs → Linked P pairs →
    Linked (P ++ ((r.event ∷ get_or P r.parent []) ∷ [])) (set pairs (length P) r)
linked_push P pairs r hi hp v =
    record {
      some_word = omega (arith, length_end P w);
      empty_first = get_or-append P (w ∷ []) [] 0 v.some_word ∙ v.empty_first;
      earlier = λ l u h. earlier' l u (spot P w l h);
      longer = λ l u h. longer' l u (spot P w l h);
    }
  where
    w : List ℕ
    w = r.event ∷ get_or P r.parent []

    P' : List (List ℕ)
    P' = P ++ (w ∷ [])

    later : List Pair
    later = set pairs (length P) r

    old_is : (l : ℕ) → l < length P → pair_at later l ≡ pair_at pairs l
    old_is l h = pair_old pairs (length P) l r h

    new_is : (l : ℕ) → l ≡ length P → pair_at later l ≡ r
    new_is l h = ap (pair_at later) h ∙ pair_new pairs (length P) r hp

    earlier' : (l : ℕ) → 0 < l → Spot P w l → (pair_at later l).parent < l
    earlier' l u (old h q) = subst⁻¹ (λ y. y.parent < l) (old_is l h) (v.earlier l u h)
    earlier' l u (new h q) = subst⁻¹ (λ y. y.parent < l) (new_is l h) (subst⁻¹ (λ y. r.parent < y) h hi)

    longer' : (l : ℕ) → 0 < l → Spot P w l → get_or P' l [] ≡ (pair_at later l).event ∷ get_or P' (pair_at later l).parent []
    longer' l u (old h q) =
        q ∙ v.longer l u h
        ∙ ap (λ y. (pair_at pairs l).event ∷ y) (sym (get_or-append P (w ∷ []) [] (pair_at pairs l).parent (omega (arith, v.earlier l u h))))
        ∙ ap (λ (y : Pair). y.event ∷ get_or P' y.parent []) (sym (old_is l h))
    longer' l u (new h q) =
        q ∙ ap (λ y. r.event ∷ y) (sym (get_or-append P (w ∷ []) [] r.parent hi))
        ∙ ap (λ (y : Pair). y.event ∷ get_or P' y.parent []) (sym (new_is l h))

pub same_pair_self : (x y : ℕ) → same_pair (x, y) (x, y) ≡ true
same_pair_self x y = rw (eq-eqb x x refl, eq-eqb y y refl)

pub same_pair_true : (x y : ℕ × ℕ) → same_pair x y ≡ true → (x.0 ≡ y.0) × (x.1 ≡ y.1)
same_pair_true x y e =
    let h : T (eqb x.0 y.0) × T (eqb x.1 y.1) = and_yes (eqb x.0 y.0) (eqb x.1 y.1) (subst⁻¹ T e tt) in
    (eqb→eq _ _ h.0, eqb→eq _ _ h.1)

module _ (x : TrialInput) where
  abbrev has : List (List ℕ) → ℕ × ℕ → Bool
  has P pair = has_state same_pair (next_pair (device_machine x) (table_machine x)) (x.device_start, zero) P pair

  abbrev with_word : List (List ℕ) → List ℕ → List (List ℕ)
  with_word P w = add same_pair (next_pair (device_machine x) (table_machine x)) (x.device_start, zero) P w

  has_end : (P : List (List ℕ)) (v : List ℕ) (pair : ℕ × ℕ) → has (P ++ (v ∷ [])) pair ≡ (has P pair || same_pair (pair_after x v) pair)
  has_end [] v pair = or-false (same_pair (pair_after x v) pair)
  has_end (w ∷ P) v pair =
      ap (λ b. same_pair (pair_after x w) pair || b) (has_end P v pair)
      ∙ sym (or_assoc (same_pair (pair_after x w) pair) (has P pair) (same_pair (pair_after x v) pair))

  module _ {size : ℕ} (P : List (List ℕ)) (a : Queue size) (held : HoldsPairs x P a) (i e : ℕ) (i_in : i < length P) where
    abbrev w : List ℕ
    w = get_or P i []

    module _ (u v : ℕ) (next_pair_is : pair_after x (e ∷ w) ≡ (u, v)) (u_in : u < x.device_states) (v_in : v < x.states)
        (pairs : x.device_states * x.states ≤ size) where
      abbrev place : ℕ
      place = u * x.states + v

      place_in : place < x.device_states * x.states
      place_in = omega (arith, mul-le-mul_right x.states u_in, suc-mul u x.states)

      -- The flag tells whether the pair is in the queue.
      in_queue : has_pair a place ≡ has P (pair_after x (e ∷ w))
      in_queue = held.flagged u v u_in v_in ∙ ap (has P) (sym next_pair_is)

      abbrev P' : List (List ℕ)
      P' = P ++ ((e ∷ w) ∷ [])

      abbrev r : Pair
      r = record { device = u; table = v; event = e; parent = i }

      -- The queue with the pair at place c.
      abbrev push_at : ℕ → Queue size
      push_at c = record { count = c + 1; pairs = set a.pairs c r; flags = set a.flags place true }

      extended : length P < size → HoldsPairs x P' (push a place r)
      extended room =
          subst⁻¹ (λ c. HoldsPairs x P' (push_at c)) held.counted (record {
            sized = record { pairs_size = simp length-set held.sized.pairs_size; flags_size = simp length-set held.sized.flags_size };
            counted = omega (arith, length_end P (e ∷ w));
            linked = linked_push P a.pairs r i_in (omega (arith, held.sized.pairs_size)) held.linked;
            reached = λ l h. reached' l (spot P (e ∷ w) l h);
            device_in = λ l h. device_in' l (spot P (e ∷ w) l h);
            table_in = λ l h. table_in' l (spot P (e ∷ w) l h);
            flagged = λ s t hs ht. flagged' s t hs ht (same_pair (u, v) (s, t)) refl;
          })
        where
          later : List Pair
          later = set a.pairs (length P) r

          old_is : (l : ℕ) → l < length P → pair_at later l ≡ pair_at a.pairs l
          old_is l h = pair_old a.pairs (length P) l r h

          new_is : (l : ℕ) → l ≡ length P → pair_at later l ≡ r
          new_is l h = ap (pair_at later) h ∙ pair_new a.pairs (length P) r (omega (arith, held.sized.pairs_size))

          reached' : (l : ℕ) → Spot P (e ∷ w) l → states (pair_at later l) ≡ pair_after x (get_or P' l [])
          reached' l (old h z) = ap states (old_is l h) ∙ held.reached l h ∙ ap (pair_after x) (sym z)
          reached' l (new h z) = ap states (new_is l h) ∙ sym next_pair_is ∙ ap (pair_after x) (sym z)

          device_in' : (l : ℕ) → Spot P (e ∷ w) l → (pair_at later l).device < x.device_states
          device_in' l (old h z) = subst⁻¹ (λ y. y.device < x.device_states) (old_is l h) (held.device_in l h)
          device_in' l (new h z) = subst⁻¹ (λ y. y.device < x.device_states) (new_is l h) u_in

          table_in' : (l : ℕ) → Spot P (e ∷ w) l → (pair_at later l).table < x.states
          table_in' l (old h z) = subst⁻¹ (λ y. y.table < x.states) (old_is l h) (held.table_in l h)
          table_in' l (new h z) = subst⁻¹ (λ y. y.table < x.states) (new_is l h) v_in

          -- The flags tell the new list's pairs.
          told : (s t : ℕ) (b : Bool) → same_pair (u, v) (s, t) ≡ b → has P' (s, t) ≡ (has P (s, t) || b)
          told s t b z = has_end P (e ∷ w) (s, t) ∙ ap (λ y. has P (s, t) || y) (ap (λ y. same_pair y (s, t)) next_pair_is ∙ z)

          flagged' :
              (s t : ℕ) → s < x.device_states → t < x.states → (b : Bool) → same_pair (u, v) (s, t) ≡ b →
              get_or (set a.flags place true) (s * x.states + t) false ≡ has P' (s, t)
          flagged' s t hs ht true z =
              let d : (u ≡ s) × (v ≡ t) = same_pair_true (u, v) (s, t) z in
              ap (λ y. get_or (set a.flags place true) y false) (sym (ap₂ (λ y y'. y * x.states + y') d.0 d.1))
              ∙ get_or-set_same a.flags place true false (omega (arith, held.sized.flags_size, place_in))
              ∙ sym (told s t true z ∙ or-true (has P (s, t)))
          flagged' s t hs ht false z =
              get_or-set_other a.flags place (s * x.states + t) true false (λ y. other (digits_equal x.states s u t v ht v_in y))
              ∙ held.flagged s t hs ht ∙ sym (told s t false z ∙ or-false (has P (s, t)))
            where
              other : (s ≡ u) × (t ≡ v) → ⊥
              other d =
                  let c : ◌≡◌ {A = Bool} true false
                  = sym (same_pair_self u v) ∙ ap₂ (λ y y'. same_pair (u, v) (y, y')) (sym d.0) (sym d.1) ∙ z in cc

      -- Room for one more where the pair is new.
      pub push_room : length (with_word P (e ∷ w)) ≤ size → has_pair a place ≡ false → length P < size
      push_room room z = go (has P (pair_after x (e ∷ w))) (sym in_queue ∙ z) room
        where
          go : (b : Bool) → b ≡ false → length (cond b P P') ≤ size → length P < size
          go true h r = absurd cc
          go false h r = omega (arith, length_end P (e ∷ w))

      -- Pushing the next pair adds its word.
      pub push_holds : length (with_word P (e ∷ w)) ≤ size → HoldsPairs x (with_word P (e ∷ w)) (pushed a place r)
      unfolding pushed
      push_holds room = go (has P (pair_after x (e ∷ w))) (has_pair a place) in_queue room
        where
          go :
              (b c : Bool) → c ≡ b → length (cond b P P') ≤ size →
              HoldsPairs x (cond b P P') (cond c a (push a place r))
          go true true h r = held
          go true false h r = absurd cc
          go false true h r = absurd cc
          go false false h r = extended (omega (arith, length_end P (e ∷ w)))
