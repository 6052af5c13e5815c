-- The loops over states: what one more candidate, one more entry and one more state do to what is kept.
use mathlib.Core.{Path.{◌≡◌, refl, sym, ◌∙◌, ap, ap₂, subst}, Bool.{Bool, true, false, ◌||◌, cond, or-true}, List.{List, [], ◌∷◌, ◌++◌}}
use Prim.Native.Nat.{ℕ, zero, suc, ◌+◌, ◌*◌, ◌-◌, ◌/◌, ◌%◌, ◌≤◌, ◌<◌}
use native.Mathlib.{Nat.{zero-mul, add-mul}, Decide.{dec_lt, ℕ_discrete}, Numerals.{add-one}, Omega.{arith}}
use borrow.Author.Tests.{lt-ltb, le-ltb}
use lib.{Arith.{digits_div, digits_mod}, Dec.{T}, ListN.{length, get_or, set, length-append, get_or-append}}
use lib.Seq.{get_or-append_seam, get_or-set_same, get_or-set_other}
use Rattle.limits.specs.Limits.{node_limit}
use Rattle.theory.specs.Exploration.{reached, has_state, add, add_events, explore, index, bits, same_bits}
use Rattle.theory.proofs.{BitSets.{same_bits_iff}, Exploration.{add_grows}}
use Rattle.synthesis.specs.NodeWords.{set_of, set_bits, row, bits_at, Stored}
use Rattle.synthesis.specs.Exploring.{stepped, next_bits, Found, state_of, events_to, Entry, Kept, Expanded, sequences}
use Rattle.synthesis.proofs.NodeWords.{member_set_bits, stored_there, stored_else}

same_true : (L K : List Bool) → L ≡ K → same_bits L K ≡ true
same_true L K e = go (same_bits L K) ((same_bits_iff L K).1 e)
  where
    go : (b : Bool) → T b → b ≡ true
    go true t = refl
    go false t = absurd t

same_false : (L K : List Bool) → (L ≡ K → ⊥) → same_bits L K ≡ false
same_false L K h = go (same_bits L K) (λ t. h ((same_bits_iff L K).0 t))
  where
    go : (b : Bool) → (T b → ⊥) → b ≡ false
    go true t = absurd (t tt)
    go false t = refl

-- The set that the code steps to, as bits.
pub step_bits :
    (kinds firsts : List ℕ) (rows states : List (List ℕ)) (from : List ℕ) (n i e : ℕ) →
    set_of from ≡ stepped kinds firsts rows n (row states i) e →
    set_bits from ≡ next_bits kinds firsts rows n (bits_at states i) e
unfolding set_bits next_bits
step_bits kinds firsts rows states from n i e h =
    ap (bits node_limit 0) (h ∙ ap (λ D. stepped kinds firsts rows n D e) (sym (member_set_bits (get_or states i []))))

module _ (next : List Bool → ℕ → List Bool) (start : List Bool) where
  abbrev Seqs : Type 0
  Seqs = List (List ℕ)

  abbrev st : List ℕ → List Bool
  st w = reached next start w

  abbrev in? : Seqs → List Bool → Bool
  in? P x = has_state same_bits next start P x

  abbrev plus : Seqs → List ℕ → Seqs
  plus P w = add same_bits next start P w

  abbrev number_in : Seqs → List Bool → ℕ
  number_in P x = index same_bits next start P x

  has_yes : (P : Seqs) (x : List Bool) (j : ℕ) → j < length P → st (get_or P j []) ≡ x → in? P x ≡ true
  has_yes [] x j h e = absurd (omega arith)
  has_yes (w ∷ P) x zero h e = ap (λ t. t || in? P x) (same_true (st w) x e)
  has_yes (w ∷ P) x (suc j) h e =
      ap (λ t. same_bits (st w) x || t) (has_yes P x j (omega arith) e) ∙ or-true (same_bits (st w) x)

  has_no : (P : Seqs) (x : List Bool) → ((j : ℕ) → j < length P → st (get_or P j []) ≡ x → ⊥) → in? P x ≡ false
  has_no [] x f = refl
  has_no (w ∷ P) x f =
      ap₂ (λ a b. a || b) (same_false (st w) x (f 0 (omega arith))) (has_no P x (λ j h. f (suc j) (omega arith)))

  add_yes : (P : Seqs) (w : List ℕ) → in? P (st w) ≡ true → plus P w ≡ P
  add_yes P w e = ap (λ t. cond t P (P ++ (w ∷ []))) e

  add_no : (P : Seqs) (w : List ℕ) → in? P (st w) ≡ false → plus P w ≡ P ++ (w ∷ [])
  add_no P w e = ap (λ t. cond t P (P ++ (w ∷ []))) e

  end_length : (P : Seqs) (w : List ℕ) → length (P ++ (w ∷ [])) ≡ length P + 1
  end_length P w = length-append P (w ∷ [])

  -- The number of the first sequence that reaches x.
  index_at :
      (P : Seqs) (x : List Bool) (r : ℕ) → r < length P → ((j : ℕ) → j < r → st (get_or P j []) ≡ x → ⊥) →
      st (get_or P r []) ≡ x → number_in P x ≡ r
  index_at [] x r h f e = absurd (omega arith)
  index_at (w ∷ P) x zero h f e = ap (λ t. cond t zero (suc (number_in P x))) (same_true (st w) x e)
  index_at (w ∷ P) x (suc r) h f e =
      ap (λ t. cond t zero (suc (number_in P x))) (same_false (st w) x (f 0 (omega arith)))
      ∙ ap suc (index_at P x r (omega arith) (λ j l. f (suc j) (omega arith)) e)

  index_append : (P Q : Seqs) (x : List Bool) → number_in P x < length P → number_in (P ++ Q) x ≡ number_in P x
  index_append [] Q x h = absurd (omega arith)
  index_append (w ∷ P) Q x h = go (index_append P Q x) (same_bits (st w) x) h
    where
      go :
          (number_in P x < length P → number_in (P ++ Q) x ≡ number_in P x) →
          (b : Bool) → cond b zero (suc (number_in P x)) < suc (length P) →
          cond b zero (suc (number_in (P ++ Q) x)) ≡ cond b zero (suc (number_in P x))
      go ih true u = refl
      go ih false u = ap suc (ih (omega arith))

  module _ (events : ℕ) where
    -- Entries remain right when a sequence is added.
    entry_stays :
        (P : Seqs) (w : List ℕ) (n k : ℕ) (nexts : List ℕ) (x : ℕ) → length P ≡ n → n ≤ k →
        Entry next start events P n nexts x → Entry next start events (P ++ (w ∷ [])) k nexts x
    entry_stays P w n k nexts x q h v =
        let at : get_or (P ++ (w ∷ [])) (x / events) [] ≡ get_or P (x / events) []
        = get_or-append P (w ∷ []) [] (x / events) (omega (arith, q, v.of_state)) in
        let y : List Bool = next (st (get_or P (x / events) [])) (x % events) in
        record {
          of_state = omega (arith, v.of_state);
          to_state = omega (arith, v.to_state);
          number =
              ap (λ u. number_in (P ++ (w ∷ [])) (next (st u) (x % events))) at
              ∙ index_append P (w ∷ []) y (omega (arith, v.number, v.to_state, q))
              ∙ v.number;
        }

    -- One more entry.
    kept_entry :
        (P : Seqs) (n m : ℕ) (states : List (List ℕ)) (nexts : List ℕ) (v : ℕ) → m < length nexts → m / events < n → v < n →
        number_in P (next (st (get_or P (m / events) [])) (m % events)) ≡ v →
        Kept next start events P n m states nexts → Kept next start events P n (m + 1) states (set nexts m v)
    kept_entry P n m states nexts v fits of to q k =
        record { count = k.count; state = k.state; entry = λ x h. go x h (ℕ_discrete x m) }
      where
        go : (x : ℕ) → x < m + 1 → Dec (x ≡ m) → Entry next start events P n (set nexts m v) x
        go x h (yes e) =
            subst (Entry next start events P n (set nexts m v)) (sym e)
            (record {
              of_state = of;
              to_state = subst (λ y. y < n) (sym (get_or-set_same nexts m v 0 fits)) to;
              number = q ∙ sym (get_or-set_same nexts m v 0 fits);
            })
        go x h (no e) =
            let o : Entry next start events P n nexts x = k.entry x (omega arith) in
            let z : get_or (set nexts m v) x 0 ≡ get_or nexts x 0 = get_or-set_other nexts m x v 0 e in
            record {
              of_state = o.of_state;
              to_state = subst (λ y. y < n) (sym z) o.to_state;
              number = o.number ∙ sym z;
            }

    -- The candidate is a state that is kept, or a new one.
    keep_old :
        (P : Seqs) (w : List ℕ) (k m : ℕ) (states : List (List ℕ)) (nexts from : List ℕ) (j : ℕ) → Kept next start events P k m states nexts →
        Found states k from j → j < k → set_bits from ≡ st w →
        Kept next start events (plus P w) k m states nexts × (number_in (plus P w) (st w) ≡ j)
    keep_old P w k m states nexts from j v f h e =
        let at : st (get_or P j []) ≡ st w = sym (v.state j h) ∙ f.here h ∙ e in
        let q : plus P w ≡ P = add_yes P w (has_yes P (st w) j (omega (arith, v.count)) at) in (
          subst (λ Q. Kept next start events Q k m states nexts) (sym q) v,
          ap (λ Q. number_in Q (st w)) q
              ∙ index_at P (st w) j (omega (arith, v.count))
              (λ i l u. f.before i l (v.state i (omega arith) ∙ u ∙ sym e)) at,
        )

    new_one :
        (P : Seqs) (w : List ℕ) (k m : ℕ) (states : List (List ℕ)) (nexts from : List ℕ) → Kept next start events P k m states nexts →
        Found states k from k → set_bits from ≡ st w → plus P w ≡ P ++ (w ∷ [])
    new_one P w k m states nexts from v f e =
        add_no P w
        (has_no P (st w) (λ j h q. f.before j (omega (arith, v.count)) (v.state j (omega (arith, v.count)) ∙ q ∙ sym e)))

    too_many :
        (P : Seqs) (w : List ℕ) (k m : ℕ) (states : List (List ℕ)) (nexts from : List ℕ) → Kept next start events P k m states nexts →
        Found states k from k → set_bits from ≡ st w → k < length (plus P w)
    too_many P w k m states nexts from v f e =
        omega (arith, ap length (new_one P w k m states nexts from v f e), end_length P w, v.count)

    keep_new :
        (P : Seqs) (w : List ℕ) (k m : ℕ) (states : List (List ℕ)) (nexts from : List ℕ) (after : List (List ℕ)) → Kept next start events P k m states nexts →
        Found states k from k → set_bits from ≡ st w → Stored states after k from →
        Kept next start events (plus P w) (k + 1) m after nexts × (number_in (plus P w) (st w) ≡ k)
    keep_new P w k m states nexts from after v f e stored =
        let q : plus P w ≡ P ++ (w ∷ []) = new_one P w k m states nexts from v f e in (
          subst (λ Q. Kept next start events Q (k + 1) m after nexts) (sym q)
              (record {
                count = omega (arith, end_length P w, v.count);
                state = λ j h. go j h (ℕ_discrete j k);
                entry = λ x h. entry_stays P w k (k + 1) nexts x v.count (omega arith) (v.entry x h);
              }),
          ap (λ Q. number_in Q (st w)) q
              ∙ index_at (P ++ (w ∷ [])) (st w) k (omega (arith, end_length P w, v.count))
              (λ i l u. f.before i l
              (v.state i l ∙ ap st (sym (get_or-append P (w ∷ []) [] i (omega (arith, v.count)))) ∙ u ∙ sym e))
              (ap st last),
        )
      where
        last : get_or (P ++ (w ∷ [])) k [] ≡ w
        last = ap (λ x. get_or (P ++ (w ∷ [])) x []) (sym v.count) ∙ get_or-append_seam P w [] []

        go : (j : ℕ) → j < k + 1 → Dec (j ≡ k) → bits_at after j ≡ st (get_or (P ++ (w ∷ [])) j [])
        go j h (yes c) =
            ap (bits_at after) c
            ∙ ap set_bits (stored_there states after from k stored)
            ∙ e
            ∙ ap st (sym last ∙ ap (λ x. get_or (P ++ (w ∷ [])) x []) (sym c))
        go j h (no c) =
            ap set_bits (stored_else states after from k j stored c)
            ∙ v.state j (omega arith)
            ∙ ap st (sym (get_or-append P (w ∷ []) [] j (omega (arith, v.count))))

  -- The events after one sequence.
  upto_grows : (c d : ℕ) (P : Seqs) (w : List ℕ) → length (events_to next start c P w) ≤ length (events_to next start (c + d) P w)
  upto_grows c zero P w =
      let e : c + zero ≡ c = omega arith in
      omega (arith, ap (λ x. length (events_to next start x P w)) e)
  upto_grows c (suc d) P w =
      let e : c + suc d ≡ suc (c + d) = omega arith in
      omega (
        arith,
        ap (λ x. length (events_to next start x P w)) e,
        upto_grows c d P w,
        (add_grows same_bits next start (events_to next start (c + d) P w) ((c + d) ∷ w)).0,
      )

  upto_at : (c : ℕ) (P : Seqs) (w : List ℕ) (i : ℕ) → i < length P → get_or (events_to next start c P w) i [] ≡ get_or P i []
  upto_at zero P w i h = refl
  upto_at (suc c) P w i h =
      (add_grows same_bits next start (events_to next start c P w) (c ∷ w)).1 i (omega (arith, h, len c)) ∙ upto_at c P w i h
    where
      len : (c : ℕ) → length P ≤ length (events_to next start c P w)
      len zero = omega arith
      len (suc c) = omega (arith, len c, (add_grows same_bits next start (events_to next start c P w) (c ∷ w)).0)

  add_events_to :
      (c e : ℕ) (P : Seqs) (w : List ℕ) →
      add_events same_bits next start c e (events_to next start e P w) w ≡ events_to next start (e + c) P w
  add_events_to zero e P w =
      let z : e ≡ e + zero = omega arith in
      ap (λ x. events_to next start x P w) z
  add_events_to (suc c) e P w =
      let z : suc e + c ≡ e + suc c = omega arith in
      add_events_to c (suc e) P w ∙ ap (λ x. events_to next start x P w) z

  -- The sequences whose events were added, one after the other.
  module _ (events : ℕ) where
    abbrev explored_to : ℕ → ℕ → Seqs → Seqs
    explored_to k i P = explore same_bits next start events k i P

    abbrev one_row : Seqs → ℕ → Seqs
    one_row P i = add_events same_bits next start events zero P (get_or P i [])

    still : (k i : ℕ) (P : Seqs) → length P ≤ i → explored_to k i P ≡ P
    still zero i P h = refl
    still (suc k) i P h = ap (λ t. cond t (explored_to k (suc i) (one_row P i)) P) (le-ltb i (length P) h)

    first_row : (k i : ℕ) (P : Seqs) → i < length P → explored_to (suc k) i P ≡ explored_to k (suc i) (one_row P i)
    first_row k i P h = ap (λ t. cond t (explored_to k (suc i) (one_row P i)) P) (lt-ltb i (length P) h)

    last_row :
        (k i : ℕ) (P : Seqs) → i + k < length (explored_to k i P) →
        explored_to (suc k) i P ≡ one_row (explored_to k i P) (i + k)
    last_row zero i P h =
        let z : i ≡ i + zero = omega arith in
        first_row zero i P (omega arith) ∙ ap (one_row P) z
    last_row (suc k) i P h = go (λ u. last_row k (suc i) (one_row P i) u) (dec_lt i (length P))
      where
        go :
            (suc i + k < length (explored_to k (suc i) (one_row P i)) →
            explored_to (suc k) (suc i) (one_row P i) ≡ one_row (explored_to k (suc i) (one_row P i)) (suc i + k)) →
            Dec (i < length P) → explored_to (suc (suc k)) i P ≡ one_row (explored_to (suc k) i P) (i + suc k)
        go ih (yes u) =
            let e : explored_to (suc k) i P ≡ explored_to k (suc i) (one_row P i) = first_row k i P u in
            let z : suc i + k ≡ i + suc k = omega arith in
            first_row (suc k) i P u ∙ ih (omega (arith, h, ap length e)) ∙ ap₂ one_row (sym e) z
        go ih (no u) = absurd (omega (arith, h, u, ap length (still (suc k) i P (omega arith))))

    done_row : (k i : ℕ) (P : Seqs) → length (explored_to k i P) ≤ i + k → explored_to (suc k) i P ≡ explored_to k i P
    done_row zero i P h = still (suc zero) i P (omega arith)
    done_row (suc k) i P h = go (λ u. done_row k (suc i) (one_row P i) u) (dec_lt i (length P))
      where
        go :
            (length (explored_to k (suc i) (one_row P i)) ≤ suc i + k →
            explored_to (suc k) (suc i) (one_row P i) ≡ explored_to k (suc i) (one_row P i)) →
            Dec (i < length P) → explored_to (suc (suc k)) i P ≡ explored_to (suc k) i P
        go ih (yes u) =
            let e : explored_to (suc k) i P ≡ explored_to k (suc i) (one_row P i) = first_row k i P u in
            first_row (suc k) i P u ∙ ih (omega (arith, h, ap length e)) ∙ sym e
        go ih (no u) = still (suc (suc k)) i P (omega arith) ∙ sym (still (suc k) i P (omega arith))

    abbrev pub from_start : ℕ → Seqs
    from_start k = explored_to k zero ([] ∷ [])

    row_events : (P : Seqs) (i : ℕ) → one_row P i ≡ events_to next start events P (get_or P i [])
    row_events P i =
        let z : zero + events ≡ events = omega arith in
        add_events_to events zero P (get_or P i []) ∙ ap (λ x. events_to next start x P (get_or P i [])) z

    next_row :
        (k : ℕ) → k < length (from_start k) →
        from_start (k + 1) ≡ events_to next start events (from_start k) (get_or (from_start k) k [])
    next_row k h =
        let z : zero + k ≡ k = omega arith in
        ap from_start (add-one k)
        ∙ last_row k zero ([] ∷ []) (omega (arith, h))
        ∙ ap (one_row (from_start k)) z
        ∙ row_events (from_start k) k

    finished : (k d : ℕ) → length (from_start k) ≤ k → from_start (k + d) ≡ from_start k
    finished k zero h =
        let z : k + zero ≡ k = omega arith in
        ap from_start z
    finished k (suc d) h =
        let e : from_start (k + d) ≡ from_start k = finished k d h in
        let z : k + suc d ≡ suc (k + d) = omega arith in
        ap from_start z ∙ done_row (k + d) zero ([] ∷ []) (omega (arith, ap length e, h)) ∙ e

    one_row_grows : (P : Seqs) (i : ℕ) → length P ≤ length (one_row P i)
    one_row_grows P i =
        let z : zero + events ≡ events = omega arith in
        omega (
          arith,
          ap length (row_events P i),
          upto_grows zero events P (get_or P i []),
          ap (λ x. length (events_to next start x P (get_or P i []))) z,
        )

    step_grows : (k : ℕ) → length (from_start k) ≤ length (from_start (suc k))
    step_grows k = go (dec_lt (zero + k) (length (from_start k)))
      where
        go : Dec (zero + k < length (from_start k)) → length (from_start k) ≤ length (from_start (suc k))
        go (yes u) = omega (arith, ap length (last_row k zero ([] ∷ []) u), one_row_grows (from_start k) (zero + k))
        go (no u) = omega (arith, ap length (done_row k zero ([] ∷ []) (omega arith)))

    more_rows : (k d : ℕ) → length (from_start k) ≤ length (from_start (k + d))
    more_rows k zero =
        let z : k + zero ≡ k = omega arith in
        omega (arith, ap (λ x. length (from_start x)) z)
    more_rows k (suc d) =
        let z : k + suc d ≡ suc (k + d) = omega arith in
        omega (arith, ap (λ x. length (from_start x)) z, more_rows k d, step_grows (k + d))

pub below : {j k : ℕ} → j ≤ k → ¬ (j ≡ k) → j < k
below {j} {k} h d = go (dec_lt j k)
  where
    go : Dec (j < k) → j < k
    go (yes u) = u
    go (no u) = absurd (d (omega arith))

-- A candidate found by the code: the set that event e leads to from state i.
module _ (kinds firsts : List ℕ) (rows : List (List ℕ)) (count events i n k e : ℕ) (before₀ : List (List ℕ)) (nexts₀ : List ℕ)
    (states : List (List ℕ)) (nexts from : List ℕ) (small : i < n)
    (less : n ≤ k) (event : e < events)
    (moved : set_of from ≡ stepped kinds firsts rows count (row states i) e) where
  abbrev go_to : List Bool → ℕ → List Bool
  go_to = next_bits kinds firsts rows count

  module _ (start : List Bool) (P : List (List ℕ)) (old : Kept go_to start events P n (i * events) before₀ nexts₀) where
    abbrev at_i : List ℕ
    at_i = get_or P i []

    abbrev so_far : List (List ℕ)
    so_far = events_to go_to start e P at_i

    abbrev one_more : List (List ℕ)
    one_more = events_to go_to start (e + 1) P at_i

    one_more_is : add same_bits go_to start so_far (e ∷ at_i) ≡ one_more
    one_more_is = ap (λ x. events_to go_to start x P at_i) (sym (add-one e))

    module _ (v : Kept go_to start events so_far k (i * events + e) states nexts) where
      candidate : set_bits from ≡ reached go_to start (e ∷ at_i)
      candidate =
          step_bits kinds firsts rows states from count i e moved
          ∙ ap (λ L. go_to L e)
          (v.state i (omega arith) ∙ ap (reached go_to start) (upto_at go_to start e P at_i i (omega (arith, old.count))))

      -- The entry of state i and event e.
      entered :
          (k' j at value : ℕ) (after : List (List ℕ)) → k ≤ k' → j < k' → at ≡ i * events + e → value ≡ j → at < length nexts →
          Kept go_to start events one_more k' (i * events + e) after nexts →
          index same_bits go_to start one_more (reached go_to start (e ∷ at_i)) ≡ j →
          Kept go_to start events one_more k' (i * events + (e + 1)) after (set nexts at value)
      entered k' j at value after u h a q l w m =
          let x : ℕ = i * events + e in
          let of : x / events ≡ i = digits_div i event in
          let on : x % events ≡ e = digits_mod i event in
          let here : get_or one_more (x / events) [] ≡ at_i
          = ap (λ y. get_or one_more y []) of ∙ upto_at go_to start (e + 1) P at_i i (omega (arith, old.count)) in
          let z : x + 1 ≡ i * events + (e + 1) = omega arith in
          subst (λ y. Kept go_to start events one_more k' y after (set nexts at value)) z
          (subst (λ y. Kept go_to start events one_more k' (x + 1) after (set nexts y value)) (sym a)
          (kept_entry go_to start events one_more k' x after nexts value (omega (arith, a, l)) (omega (arith, of)) (omega (arith, q, h))
          (ap₂ (λ s y. index same_bits go_to start one_more (go_to (reached go_to start s) y)) here on ∙ m ∙ sym q) w))

      pub candidate_old :
          (j at value : ℕ) → Found states k from j → j < k → at ≡ i * events + e → value ≡ j → at < length nexts →
          Kept go_to start events one_more k (i * events + (e + 1)) states (set nexts at value)
      candidate_old j at value f h a q l =
          let r : Kept go_to start events (add same_bits go_to start so_far (e ∷ at_i)) k (i * events + e) states nexts
          × (index same_bits go_to start (add same_bits go_to start so_far (e ∷ at_i)) (reached go_to start (e ∷ at_i)) ≡ j)
          = keep_old go_to start events so_far (e ∷ at_i) k (i * events + e) states nexts from j v f h candidate in
          entered k j at value states (omega arith) h a q l
          (subst (λ Q. Kept go_to start events Q k (i * events + e) states nexts) one_more_is r.0)
          (subst (λ Q. index same_bits go_to start Q (reached go_to start (e ∷ at_i)) ≡ j) one_more_is r.1)

      pub candidate_new :
          (after : List (List ℕ)) (j at value : ℕ) → j ≡ k → Found states k from j → Stored states after k from →
          at ≡ i * events + e → value ≡ j → at < length nexts →
          Kept go_to start events one_more (k + 1) (i * events + (e + 1)) after (set nexts at value)
      candidate_new after j at value c f stored a q l =
          let r : Kept go_to start events (add same_bits go_to start so_far (e ∷ at_i)) (k + 1) (i * events + e) after nexts
          × (index same_bits go_to start (add same_bits go_to start so_far (e ∷ at_i)) (reached go_to start (e ∷ at_i)) ≡ k)
          = keep_new go_to start events so_far (e ∷ at_i) k (i * events + e) states nexts from after v
          (subst (Found states k from) c f) candidate stored in
          entered (k + 1) k at value after (omega arith) (omega arith) a (q ∙ c) l
          (subst (λ Q. Kept go_to start events Q (k + 1) (i * events + e) after nexts) one_more_is r.0)
          (subst (λ Q. index same_bits go_to start Q (reached go_to start (e ∷ at_i)) ≡ k) one_more_is r.1)

      pub candidate_many :
          (j : ℕ) → j ≡ k → Found states k from j → k < length (events_to go_to start events P at_i)
      candidate_many j c f =
          let d : (e + 1) + (events - (e + 1)) ≡ events = omega arith in
          omega (
            arith,
            too_many go_to start events so_far (e ∷ at_i) k (i * events + e) states nexts from v (subst (Found states k from) c f) candidate,
            ap length one_more_is,
            upto_grows go_to start (e + 1) (events - (e + 1)) P at_i,
            ap (λ x. length (events_to go_to start x P at_i)) d,
          )

-- The loop over states.
module _ (next : List Bool → ℕ → List Bool) (rows : List (List ℕ)) (events : ℕ) where
  abbrev from_here : List Bool
  from_here = bits_at rows 0

  abbrev pub all_to : ℕ → List (List ℕ)
  all_to k = from_start next from_here events k

  pub kept_start :
      (states : List (List ℕ)) (nexts : List ℕ) → bits_at states 0 ≡ from_here → Kept next from_here events (all_to 0) 1 (0 * events) states nexts
  kept_start states nexts e = record { count = refl; state = one; entry = λ x h. absurd (omega (arith, zero-mul events)) }
    where
      one : (j : ℕ) → j < 1 → bits_at states j ≡ state_of next from_here (get_or ([] ∷ []) j [])
      one zero h = e
      one (suc j) h = absurd (omega arith)

  module _ (limit i n m : ℕ) (now : List (List ℕ)) (nexts : List ℕ) (after : List (List ℕ)) (nexts' : List ℕ) (h : i < n)
      (k : Kept next from_here events (all_to i) n (i * events) now nexts)
      (x : Expanded next events limit i n now nexts m after nexts') where
    the_row : all_to (i + 1) ≡ events_to next from_here events (all_to i) (get_or (all_to i) i [])
    the_row = next_row next from_here events i (omega (arith, h, k.count))

    pub row_kept : m ≤ limit → Kept next from_here events (all_to (i + 1)) m ((i + 1) * events) after nexts'
    row_kept l =
        let z : i * events + events ≡ (i + 1) * events = omega (arith, add-mul i 1 events) in
        subst (λ Q. Kept next from_here events Q m ((i + 1) * events) after nexts') (sym the_row)
        (subst (λ y. Kept next from_here events (events_to next from_here events (all_to i) (get_or (all_to i) i [])) m y after nexts') z
        ((x from_here (all_to i) k).all l))

    pub row_over : m ≡ suc limit → i < limit → limit < length (sequences next from_here events limit)
    unfolding sequences
    row_over q u =
        let d : (i + 1) + (limit - (i + 1)) ≡ limit = omega arith in
        omega (
          arith,
          (x from_here (all_to i) k).more q,
          ap length the_row,
          more_rows next from_here events (i + 1) (limit - (i + 1)),
          ap (λ y. length (all_to y)) d,
        )

  pub all_kept :
      (limit i n : ℕ) (now : List (List ℕ)) (nexts : List ℕ) → n ≡ i → i ≤ limit → Kept next from_here events (all_to i) n (i * events) now nexts →
      Kept next from_here events (sequences next from_here events limit) n (n * events) now nexts
  unfolding sequences
  all_kept limit i n now nexts h u k =
      let d : i + (limit - i) ≡ limit = omega arith in
      subst (λ y. Kept next from_here events (all_to limit) n (y * events) now nexts) (sym h)
      (subst (λ Q. Kept next from_here events Q n (i * events) now nexts)
      (sym (finished next from_here events i (limit - i) (omega (arith, h, k.count))) ∙ ap all_to d) k)
