-- Numberings of the states that a machine reaches: there is only one, it depends only on which words reach the same state, and
-- exploration finds it. The same for the table, which has the machine's values on every word.
use mathlib.Core.{Path.{◌≡◌, refl, sym, ◌∙◌, ap, subst, subst⁻¹}, Logic.{inl, inr}}
use mathlib.Core.List.{List, [], ◌∷◌, ◌++◌, reverse, reverse-cons, reverse-reverse}
use Prim.Native.Nat.{ℕ, zero, suc, ◌≤◌, ◌<◌, zero-le}
use native.Mathlib.Omega.{arith}
use lib.{ListN.{length, get_or}, Seq.{ext_get_or}}
use Rattle.theory.specs.MealyMachine.{Machine, Word, after, States, Runs, Before, NoLater}
use Rattle.theory.specs.{ReachableStates.{state_at, Numbering, IsTable}, Exploration.{reached}}
use Rattle.theory.proofs.Numbers.{Trichotomy, less, equal, greater, trichotomy}
use Rattle.theory.proofs.WordOrder.{not_before_empty, before_irreflexive, before_asymmetric, no_later_antisymmetric}

pub after_append : {S B : Type 0} (m : Machine S B) (s : S) (v w : List ℕ) → after m s (v ++ w) ≡ after m (after m s v) w
after_append m s [] w = refl
after_append m s (e ∷ v) w = after_append m (m.next s e) v w

-- States that every event keeps within a set are kept in it by every word.
pub after_in :
    {S B : Type 0} (events : ℕ) (m : Machine S B) (State : S → Type 0) →
    ((s : S) → State s → (e : ℕ) → e < events → State (m.next s e)) →
    (w : List ℕ) → Word events w → (s : S) → State s → State (after m s w)
after_in events m State next_in [] v s h = h
after_in events m State next_in (e ∷ w) v s h = after_in events m State next_in w v.1 (m.next s e) (next_in s h e v.0)

-- The state after a word in order of play, and with its last event first.
pub after_reverse : {S B : Type 0} (m : Machine S B) (s : S) (w : List ℕ) → after m s (reverse w) ≡ reached m.next s w
after_reverse m s [] = refl
after_reverse m s (e ∷ w) =
    ap (after m s) (reverse-cons e w) ∙ after_append m s (reverse w) (e ∷ []) ∙ ap (λ x. m.next x e) (after_reverse m s w)

pub reached_reverse : {S B : Type 0} (m : Machine S B) (s : S) (w : List ℕ) → reached m.next s (reverse w) ≡ after m s w
reached_reverse m s w = sym (after_reverse m s (reverse w)) ∙ ap (after m s) (reverse-reverse w)

module _ {S B : Type 0} (events : ℕ) (m : Machine S B) (start : S) where
  abbrev entry : List (List ℕ) → ℕ → List ℕ
  entry W l = get_or W l []

  abbrev state : List (List ℕ) → ℕ → S
  state W l = state_at events m start W l

  -- An entry of W reaches the state of w, and is no later than w.
  abbrev Found : List (List ℕ) → List ℕ → Type 0
  Found W w = (l : ℕ) × (l < length W) × (state W l ≡ after m start w) × NoLater (entry W l) w

  abbrev Numbers : List (List ℕ) → Type 0
  Numbers W = Numbering events m start W

  -- A state has one number.
  pub one_number :
      (W : List (List ℕ)) → Numbers W → (j l : ℕ) → j < length W → l < length W →
      state W j ≡ state W l → j ≡ l
  one_number W N j l hj hl e = go (trichotomy j l)
    where
      go : Trichotomy j l → j ≡ l
      go (less h) = absurd (N.different j l h hl e)
      go (equal h) = h
      go (greater h) = absurd (N.different l j h hj (sym e))

  -- Number 0 has the empty word, and its state is the start.
  pub first_entry : (W : List (List ℕ)) → Numbers W → (0 < length W) × (entry W zero ≡ [])
  first_entry W N = at_least (N.complete [] tt)
    where
      is_empty : (w : List ℕ) → NoLater w [] → w ≡ []
      is_empty w (inl e) = e
      is_empty w (inr b) = absurd (not_before_empty w b)

      at_least :
          Found W [] → (0 < length W) × (entry W zero ≡ [])
      at_least (zero, h, e, k) = (h, is_empty (entry W zero) k)
      at_least (suc l, h, e, k) =
          absurd (not_before_empty (entry W zero)
          (subst (λ w. Before (entry W zero) w) (is_empty (entry W (suc l)) k) (N.rising zero (suc l) (omega arith) h)))

  -- Each entry of one numbering is an entry of any other.
  module _ (U W : List (List ℕ)) (M : Numbers U) (N : Numbers W) where
    pub shared : (l : ℕ) → l < length U → (j : ℕ) × (j < length W) × (entry W j ≡ entry U l)
    shared l h =
        let r : Found W (entry U l) = N.complete (entry U l) (M.words l h) in
        let b : Found U (entry W r.0) = M.complete (entry W r.0) (N.words r.0 r.1) in
        let q : b.0 ≡ l = one_number U M b.0 l b.1 h (b.2 ∙ r.2) in
        let back : NoLater (entry U l) (entry W r.0) = subst (λ i. NoLater (entry U i) (entry W r.0)) q b.3 in
        (r.0, r.1, no_later_antisymmetric (entry W r.0) (entry U l) r.3 back)

    shared_rising : (j l : ℕ) (hj : j < length U) (hl : l < length U) → j < l → (shared j hj).0 < (shared l hl).0
    shared_rising j l hj hl u = go (trichotomy (shared j hj).0 (shared l hl).0)
      where
        before : Before (entry W (shared j hj).0) (entry W (shared l hl).0)
        before = rw ((shared j hj).2, (shared l hl).2) (M.rising j l u hl)

        go : Trichotomy (shared j hj).0 (shared l hl).0 → (shared j hj).0 < (shared l hl).0
        go (less h) = h
        go (equal h) =
            absurd (before_irreflexive (entry W (shared l hl).0)
            (subst (λ i. Before (entry W i) (entry W (shared l hl).0)) h before))
        go (greater h) =
            absurd (before_asymmetric (entry W (shared j hj).0) (entry W (shared l hl).0) before
            (N.rising (shared l hl).0 (shared j hj).0 h (shared j hj).1))

    pub shared_no_less : (l : ℕ) (h : l < length U) → l ≤ (shared l h).0
    shared_no_less zero h = zero-le
    shared_no_less (suc l) h =
        omega (arith, shared_no_less l (omega arith), shared_rising l (suc l) (omega arith) h (omega arith))

  same_entry :
      (U W : List (List ℕ)) (M : Numbers U) (N : Numbers W) (l : ℕ) → l < length U → (l < length W) × (entry U l ≡ entry W l)
  same_entry U W M N l h =
      let r : (j : ℕ) × (j < length W) × (entry W j ≡ entry U l) = shared U W M N l h in
      let b : (i : ℕ) × (i < length U) × (entry U i ≡ entry W r.0) = shared W U N M r.0 r.1 in
      let back : b.0 ≡ l = one_number U M b.0 l b.1 h (ap (after m start) (b.2 ∙ r.2)) in
      let q : r.0 ≡ l = omega (arith, shared_no_less U W M N l h, shared_no_less W U N M r.0 r.1) in
      (subst (λ i. i < length W) q r.1, sym r.2 ∙ ap (entry W) q)

  pub no_longer : (U W : List (List ℕ)) → Numbers U → Numbers W → length U ≤ length W
  no_longer U W M N = go (trichotomy (length W) (length U))
    where
      go : Trichotomy (length W) (length U) → length U ≤ length W
      go (less h) = absurd (omega (arith, (same_entry U W M N (length W) h).0))
      go (equal h) = omega arith
      go (greater h) = omega arith

  pub numbering_unique : (U W : List (List ℕ)) → Numbers U → Numbers W → U ≡ W
  numbering_unique U W M N =
      ext_get_or [] U W (omega (arith, no_longer U W M N, no_longer W U N M)) (λ l h. (same_entry U W M N l h).1)

  -- What a table says of a next state.
  abbrev NextIs : ℕ → Machine ℕ B → List (List ℕ) → ℕ → ℕ → Type 0
  NextIs n t W l e = (t.next l e < n) × (state W (t.next l e) ≡ m.next (state W l) e)

  -- The table is the only one.
  pub table_unique :
      (n k : ℕ) (t u : Machine ℕ B) → IsTable events m start n t → IsTable events m start k u →
      (n ≡ k) × ((l e : ℕ) → l < n → e < events → (t.value l e ≡ u.value l e) × (t.next l e ≡ u.next l e))
  table_unique n k t u x y = (
    count,
    λ l e h a. (value l e h a, next l e h a),
  )
    where
      lists : x.sequences ≡ y.sequences
      lists = numbering_unique x.sequences y.sequences x.numbering y.numbering

      count : n ≡ k
      count = sym x.count ∙ ap length lists ∙ y.count

      states : (l : ℕ) → state x.sequences l ≡ state y.sequences l
      states l = ap (λ W. state W l) lists

      value : (l e : ℕ) → l < n → e < events → t.value l e ≡ u.value l e
      value l e h a =
          x.values l e h a ∙ ap (λ z. m.value z e) (states l) ∙ sym (y.values l e (omega (arith, count)) a)

      next : (l e : ℕ) → l < n → e < events → t.next l e ≡ u.next l e
      next l e h a =
          let p : NextIs n t x.sequences l e = x.nexts l e h a in
          let q : NextIs k u y.sequences l e = y.nexts l e (omega (arith, count)) a in
          one_number x.sequences x.numbering (t.next l e) (u.next l e) (omega (arith, x.count)) (omega (arith, x.count, count))
          (p.1 ∙ ap (λ z. m.next z e) (states l) ∙ sym q.1 ∙ sym (states (u.next l e)))

  -- The table has the machine's values on every word.
  module _ (n : ℕ) (t : Machine ℕ B) (x : IsTable events m start n t) where
    pub table_nonempty : 0 < n
    table_nonempty = omega (arith, x.count, (first_entry x.sequences x.numbering).0)

    pub table_start : state x.sequences zero ≡ start
    table_start = ap (after m start) (first_entry x.sequences x.numbering).1

    abbrev Follows : ℕ → List ℕ → Type 0
    Follows l w = (after t l w < n) × (state x.sequences (after t l w) ≡ after m (state x.sequences l) w)

    pub table_after : (w : List ℕ) → Word events w → (l : ℕ) → l < n → Follows l w
    table_after [] v l h = (h, refl)
    table_after (e ∷ w) v l h =
        let r : NextIs n t x.sequences l e = x.nexts l e h v.0 in
        let a : Follows (t.next l e) w = table_after w v.1 (t.next l e) r.0 in
        (a.0, a.1 ∙ ap (λ z. after m z w) r.1)

    pub table_runs :
        (In : B → Type 0) (State : S → Type 0) → Runs events In State m → State start → Runs events In (States n) t
    table_runs In State runs start_in =
        record {
          value_in = λ l h e a.
              subst⁻¹ In (x.values l e h a) (runs.value_in (state x.sequences l) (state_in l h) e a);
          next_in = λ l h e a. (x.nexts l e h a).0;
        }
      where
        state_in : (l : ℕ) → l < n → State (state x.sequences l)
        state_in l h =
            after_in events m State runs.next_in (entry x.sequences l) (x.numbering.words l (omega (arith, x.count))) start start_in

    pub table_values :
        (w : List ℕ) → Word events w → (e : ℕ) → e < events → t.value (after t zero w) e ≡ m.value (after m start w) e
    table_values w v e h =
        let a : Follows zero w = table_after w v zero table_nonempty in
        x.values (after t zero w) e a.0 h ∙ ap (λ z. m.value z e) (a.1 ∙ ap (λ z. after m z w) table_start)
