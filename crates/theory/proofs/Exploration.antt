-- `explored` has different states' sequences in rising order; where they are within the limit, the first sequence of each state
-- that is reached. Sequences have their last event first here. For any test `same` that decides equality of states.
use mathlib.Core.{Path.{◌≡◌, refl, sym, ◌∙◌, ap, ap₂, subst, subst⁻¹}, Bool.{Bool, true, false, ◌||◌, cond}, Logic.{◌↔◌, ◌⊎◌, inl, inr}}
use mathlib.Core.List.{List, [], ◌∷◌, ◌++◌}
use Prim.Native.Nat.{ℕ, zero, suc, ◌+◌, ◌*◌, ◌≤◌, ◌<◌, zero-le, suc-le-suc}
use native.Mathlib.{Nat.{le_of_suc-le-suc, not-suc-le-zero, eq-or-lt_of_le, suc_inj, mul-le-mul_right, mul-le-mul_left, suc-mul}, Decide.{dec_lt}}
use native.Mathlib.Omega.{arith}
use lib.{Dec.{T, ltb}, ListN.{length, get_or, length-append, get_or-append}, Seq.{get_or-append_seam}}
use borrow.Author.Tests.{ltb-true, ltb-false}
use Rattle.theory.specs.{MealyMachine.{Word}, Exploration.{reached, has_state, add, add_events, explore, explored}}
use Rattle.theory.proofs.{Numbers.{Trichotomy, less, equal, greater, trichotomy, digits_less, digits_equal}, WordOrder.{code}}

abbrev Sequences : Type 0
Sequences = List (List ℕ)

-- The sequence at a number.
abbrev pub at : List (List ℕ) → ℕ → List ℕ
at P l = get_or P l []

pub length_end : (P : List (List ℕ)) (w : List ℕ) → length (P ++ (w ∷ [])) ≡ suc (length P)
length_end P w = omega (arith, length-append P (w ∷ []))

at_before : (P : Sequences) (w : List ℕ) (l : ℕ) → l < length P → at (P ++ (w ∷ [])) l ≡ at P l
at_before P w l h = get_or-append P (w ∷ []) [] l h

-- The second list begins with the first.
abbrev pub Grows : List (List ℕ) → List (List ℕ) → Type 0
Grows P Q = (length P ≤ length Q) × ((l : ℕ) → l < length P → at Q l ≡ at P l)

grows_refl : (P : Sequences) → Grows P P
grows_refl P = (omega arith, λ l u. refl)

grows_trans : (P Q R : Sequences) → Grows P Q → Grows Q R → Grows P R
grows_trans P Q R g h = (omega (arith, g.0, h.0), λ l u. h.1 l (omega (arith, g.0)) ∙ g.1 l u)

less_times : (base x : ℕ) → 0 < base → x ≤ x * base
less_times base x h = omega (arith, mul-le-mul_left x h)

-- Sequences added to a list: it only grows.
module _ {S : Type 0} (same : S → S → Bool) (next : S → ℕ → S) (start : S) where
  pub add_grows : (P : List (List ℕ)) (w : List ℕ) → Grows P (add same next start P w)
  add_grows P w = go (has_state same next start P (reached next start w))
    where
      go : (b : Bool) → Grows P (cond b P (P ++ (w ∷ [])))
      go true = grows_refl P
      go false = (omega (arith, length_end P w), λ l u. at_before P w l u)

  pub add_events_grows : (c e : ℕ) (P : List (List ℕ)) (w : List ℕ) → Grows P (add_events same next start c e P w)
  add_events_grows zero e P w = grows_refl P
  add_events_grows (suc c) e P w =
      grows_trans P (add same next start P (e ∷ w)) (add_events same next start (suc c) e P w)
      (add_grows P (e ∷ w)) (add_events_grows c (suc e) (add same next start P (e ∷ w)) w)

module _ {S : Type 0} (same : S → S → Bool) (same_iff : (x y : S) → T (same x y) ↔ (x ≡ y))
    (next : S → ℕ → S) (start : S) (events : ℕ) where
  abbrev state : List ℕ → S
  state w = reached next start w

  abbrev rank : List ℕ → ℕ
  rank w = code events w

  -- A sequence of the list reaches x and its code is at most c.
  abbrev pub Hits : Sequences → S → ℕ → Type 0
  Hits P x c = (l : ℕ) × (l < length P) × (state (at P l) ≡ x) × (rank (at P l) ≤ c)

  -- A sequence of the list reaches the state of sequence j followed by event a, and is no later than that.
  abbrev pub HitsNext : Sequences → ℕ → ℕ → Type 0
  HitsNext P j a = Hits P (state (a ∷ at P j)) (rank (a ∷ at P j))

  has_hit : (P : Sequences) (x : S) → T (has_state same next start P x) → (l : ℕ) × (l < length P) × (state (at P l) ≡ x)
  has_hit [] x t = absurd t
  has_hit (w ∷ P) x t = go (same (state w) x) refl t (has_hit P x)
    where
      go :
          (b : Bool) → same (state w) x ≡ b → T (b || has_state same next start P x) →
          (T (has_state same next start P x) → (l : ℕ) × (l < length P) × (state (at P l) ≡ x)) →
          (l : ℕ) × (l < suc (length P)) × (state (at (w ∷ P) l) ≡ x)
      go true e t f = (zero, suc-le-suc zero-le, (same_iff (state w) x).0 (subst⁻¹ T e tt))
      go false e t f = let r = f t in (suc r.0, suc-le-suc r.1, r.2)

  hit_has : (P : Sequences) (x : S) (l : ℕ) → l < length P → state (at P l) ≡ x → T (has_state same next start P x)
  hit_has [] x l h e = absurd (not-suc-le-zero h)
  hit_has (w ∷ P) x zero h e = or_left (same (state w) x) (has_state same next start P x) ((same_iff (state w) x).1 e)
    where
      or_left : (a b : Bool) → T a → T (a || b)
      or_left true b t = tt
      or_left false b t = absurd t
  hit_has (w ∷ P) x (suc l) h e =
      or_right (same (state w) x) (has_state same next start P x) (hit_has P x l (le_of_suc-le-suc h) e)
    where
      or_right : (a b : Bool) → T b → T (a || b)
      or_right true b t = tt
      or_right false b t = t

  -- What holds once every candidate (a sequence of the list, then one event) with a code below c is taken in.
  pub record Invariant (c : ℕ) (P : Sequences) : Type 0 where
    pub nonempty : 0 < length P
    pub empty_first : at P 0 ≡ []
    pub words : (l : ℕ) → l < length P → Word events (at P l)
    pub different : (j l : ℕ) → j < l → l < length P → ¬ (state (at P j) ≡ state (at P l))
    pub rising : (j l : ℕ) → j < l → l < length P → rank (at P j) < rank (at P l)
    pub below : (l : ℕ) → l < length P → rank (at P l) < c
    pub short : (l : ℕ) → l < length P → length (at P l) ≤ l
    pub taken : (j a : ℕ) → j < length P → a < events → rank (a ∷ at P j) < c → HitsNext P j a

  by_code : (c : ℕ) (P : Sequences) → Invariant c P → (j i : ℕ) → j < length P → i < length P → rank (at P j) ≡ rank (at P i) → j ≡ i
  by_code c P v j i hj hi q = go (trichotomy j i)
    where
      go : Trichotomy j i → j ≡ i
      go (less h) = absurd (omega (arith, v.rising j i h hi, q))
      go (equal h) = h
      go (greater h) = absurd (omega (arith, v.rising i j h hj, q))

  -- Taking in the next candidate.
  module _ (P : Sequences) (i e : ℕ) (hi : i < length P) (he : e < events) (v : Invariant (rank (e ∷ at P i)) P) where
    abbrev candidate : List ℕ
    candidate = e ∷ at P i

    -- A candidate with this code is this candidate.
    one_candidate : (j a : ℕ) → j < length P → a < events → rank (a ∷ at P j) ≡ rank candidate → (a ∷ at P j) ≡ candidate
    one_candidate j a h k q =
        let d : (rank (at P j) ≡ rank (at P i)) × (a ≡ e)
        = digits_equal events (rank (at P j)) (rank (at P i)) a e k he (suc_inj q) in
        ap₂ ◌∷◌ d.1 (ap (at P) (by_code (rank candidate) P v j i h hi d.0))

    keep : T (has_state same next start P (state candidate)) → Invariant (suc (rank candidate)) P
    keep t =
        record {
          nonempty = v.nonempty;
          empty_first = v.empty_first;
          words = v.words;
          different = v.different;
          rising = v.rising;
          below = λ l h. omega (arith, v.below l h);
          short = v.short;
          taken = λ j a h k u. go j a h k (eq-or-lt_of_le (le_of_suc-le-suc u));
        }
      where
        go :
            (j a : ℕ) → j < length P → a < events → (rank (a ∷ at P j) ≡ rank candidate) ⊎ (rank (a ∷ at P j) < rank candidate) →
            HitsNext P j a
        go j a h k (inr u) = v.taken j a h k u
        go j a h k (inl q) =
            let r : (l : ℕ) × (l < length P) × (state (at P l) ≡ state candidate) = has_hit P (state candidate) t in
            (r.0, r.1, r.2 ∙ sym (ap state (one_candidate j a h k q)), omega (arith, v.below r.0 r.1, q))

    abbrev P' : Sequences
    P' = P ++ (candidate ∷ [])

    data Spot (l : ℕ) : Type 0 where
      old : l < length P → at P' l ≡ at P l → Spot l
      new : l ≡ length P → at P' l ≡ candidate → Spot l

    at_end : at P' (length P) ≡ candidate
    at_end = get_or-append_seam P candidate [] []

    spot : (l : ℕ) → l < length P' → Spot l
    spot l h = go (eq-or-lt_of_le {n = suc l} {m = suc (length P)} (omega (arith, h, length_end P candidate)))
      where
        go : (suc l ≡ suc (length P)) ⊎ (suc l < suc (length P)) → Spot l
        go (inl q) = new (suc_inj q) (ap (at P') (suc_inj q) ∙ at_end)
        go (inr u) = old (le_of_suc-le-suc u) (at_before P candidate l (le_of_suc-le-suc u))

    hits_more : (x : S) (c : ℕ) → Hits P x c → Hits P' x c
    hits_more x c h = (
      h.0,
      omega (arith, h.1, length_end P candidate),
      ap state (at_before P candidate h.0 h.1) ∙ h.2,
      subst⁻¹ (λ w. rank w ≤ c) (at_before P candidate h.0 h.1) h.3,
    )

    push : (T (has_state same next start P (state candidate)) → ⊥) → Invariant (suc (rank candidate)) P'
    push t =
        record {
          nonempty = omega (arith, length_end P candidate);
          empty_first = at_before P candidate 0 v.nonempty ∙ v.empty_first;
          words = λ l h. words' l (spot l h);
          different = λ j l u h. different' j l u (spot j (omega arith)) (spot l h);
          rising = λ j l u h. rising' j l u (spot j (omega arith)) (spot l h);
          below = λ l h. below' l (spot l h);
          short = λ l h. short' l (spot l h);
          taken = λ j a h k u. taken' j a k (spot j h) u;
        }
      where
        words' : (l : ℕ) → Spot l → Word events (at P' l)
        words' l (old h q) = subst⁻¹ (Word events) q (v.words l h)
        words' l (new h q) = subst⁻¹ (Word events) q (he, v.words i hi)

        different' : (j l : ℕ) → j < l → Spot j → Spot l → ¬ (state (at P' j) ≡ state (at P' l))
        different' j l u (old a p) (old b q) x = v.different j l u b (sym (ap state p) ∙ x ∙ ap state q)
        different' j l u (old a p) (new b q) x = t (hit_has P (state candidate) j a (sym (ap state p) ∙ x ∙ ap state q))
        different' j l u (new a p) (old b q) x = omega arith
        different' j l u (new a p) (new b q) x = omega arith

        rising' : (j l : ℕ) → j < l → Spot j → Spot l → rank (at P' j) < rank (at P' l)
        rising' j l u (old a p) (old b q) =
            subst⁻¹ (λ x. rank x < rank (at P' l)) p (subst⁻¹ (λ x. rank (at P j) < rank x) q (v.rising j l u b))
        rising' j l u (old a p) (new b q) =
            subst⁻¹ (λ x. rank x < rank (at P' l)) p (subst⁻¹ (λ x. rank (at P j) < rank x) q (v.below j a))
        rising' j l u (new a p) (old b q) = absurd (omega arith)
        rising' j l u (new a p) (new b q) = absurd (omega arith)

        below' : (l : ℕ) → Spot l → rank (at P' l) < suc (rank candidate)
        below' l (old h q) = subst⁻¹ (λ x. rank x < suc (rank candidate)) q (omega (arith, v.below l h))
        below' l (new h q) = subst⁻¹ (λ x. rank x < suc (rank candidate)) q (omega arith)

        short' : (l : ℕ) → Spot l → length (at P' l) ≤ l
        short' l (old h q) = subst⁻¹ (λ x. length x ≤ l) q (v.short l h)
        short' l (new h q) = subst⁻¹ (λ x. length x ≤ l) q (omega (arith, v.short i hi))

        taken' : (j a : ℕ) → a < events → Spot j → rank (a ∷ at P' j) < suc (rank candidate) → HitsNext P' j a
        taken' j a k (new h q) u =
            absurd (omega (arith, less_times events (rank candidate) (omega arith), subst (λ x. rank (a ∷ x) < suc (rank candidate)) q u))
        taken' j a k (old h q) u =
            subst⁻¹ (λ x. Hits P' (state (a ∷ x)) (rank (a ∷ x))) q
            (go (eq-or-lt_of_le (le_of_suc-le-suc (subst (λ x. rank (a ∷ x) < suc (rank candidate)) q u))))
          where
            go : (rank (a ∷ at P j) ≡ rank candidate) ⊎ (rank (a ∷ at P j) < rank candidate) → Hits P' (state (a ∷ at P j)) (rank (a ∷ at P j))
            go (inr x) = hits_more (state (a ∷ at P j)) (rank (a ∷ at P j)) (v.taken j a h k x)
            go (inl x) = (
              length P,
              omega (arith, length_end P candidate),
              ap state (at_end ∙ sym (one_candidate j a h k x)),
              subst⁻¹ (λ y. rank y ≤ rank (a ∷ at P j)) at_end (omega (arith, x)),
            )

  add_invariant :
      (P : Sequences) (i e : ℕ) (w : List ℕ) → i < length P → at P i ≡ w → e < events → Invariant (rank (e ∷ w)) P →
      Invariant (suc (rank (e ∷ w))) (add same next start P (e ∷ w))
  add_invariant P i e w hi q he v =
      go (has_state same next start P (state (e ∷ w))) refl
    where
      v' : Invariant (rank (e ∷ at P i)) P
      v' = subst⁻¹ (λ x. Invariant (rank (e ∷ x)) P) q v

      kept : T (has_state same next start P (state (e ∷ w))) → Invariant (suc (rank (e ∷ w))) P
      kept t =
          subst (λ x. Invariant (suc (rank (e ∷ x))) P) q
          (keep P i e hi he v' (subst⁻¹ (λ x. T (has_state same next start P (state (e ∷ x)))) q t))

      pushed : (T (has_state same next start P (state (e ∷ w))) → ⊥) → Invariant (suc (rank (e ∷ w))) (P ++ ((e ∷ w) ∷ []))
      pushed t =
          subst (λ x. Invariant (suc (rank (e ∷ x))) (P ++ ((e ∷ x) ∷ []))) q
          (push P i e hi he v' (λ u. t (subst (λ x. T (has_state same next start P (state (e ∷ x)))) q u)))

      go :
          (b : Bool) → has_state same next start P (state (e ∷ w)) ≡ b →
          Invariant (suc (rank (e ∷ w))) (cond b P (P ++ ((e ∷ w) ∷ [])))
      go true r = kept (subst⁻¹ T r tt)
      go false r = pushed (λ u. subst T r u)

  -- The list with the successors of sequence i.
  abbrev successors : Sequences → ℕ → Sequences
  successors P i = add_events same next start events zero P (at P i)

  abbrev explore_from : ℕ → ℕ → Sequences → Sequences
  explore_from k i P = explore same next start events k i P

  pub explore_grows : (k i : ℕ) (P : Sequences) → Grows P (explore_from k i P)
  explore_grows zero i P = grows_refl P
  explore_grows (suc k) i P = go (ltb i (length P)) (explore_grows k (suc i) (successors P i))
    where
      go :
          (b : Bool) →
          Grows (successors P i) (explore_from k (suc i) (successors P i)) →
          Grows P (cond b (explore_from k (suc i) (successors P i)) P)
      go true g =
          grows_trans P (successors P i)
          (explore_from k (suc i) (successors P i))
          (add_events_grows same next start events zero P (at P i)) g
      go false g = grows_refl P

  add_events_invariant :
      (c e : ℕ) (P : Sequences) (i : ℕ) (w : List ℕ) → i < length P → at P i ≡ w → e + c ≡ events → Invariant (rank (e ∷ w)) P →
      Invariant (rank (events ∷ w)) (add_events same next start c e P w)
  add_events_invariant zero e P i w hi q h v = subst (λ x. Invariant (rank (x ∷ w)) P) (omega arith) v
  add_events_invariant (suc c) e P i w hi q h v =
      let Q : Sequences = add same next start P (e ∷ w) in
      let r : Invariant (suc (rank (e ∷ w))) Q = add_invariant P i e w hi q (omega arith) v in
      let g : Grows P Q = add_grows same next start P (e ∷ w) in
      let p : suc (rank (e ∷ w)) ≡ rank (suc e ∷ w) = omega arith in
      add_events_invariant c (suc e) Q i w (omega (arith, hi, g.0)) (g.1 i hi ∙ q) (omega arith) (subst (λ x. Invariant x Q) p r)

  -- Every candidate is taken in.
  pub Done : Sequences → Type 0
  Done P = (c : ℕ) × Invariant c P × ((j a : ℕ) → j < length P → a < events → rank (a ∷ at P j) < c)

  raise :
      (c d : ℕ) (P : Sequences) → Invariant c P → c ≤ d →
      ((j a : ℕ) → j < length P → a < events → rank (a ∷ at P j) < d → rank (a ∷ at P j) < c) → Invariant d P
  raise c d P v h f =
      record {
        nonempty = v.nonempty;
        empty_first = v.empty_first;
        words = v.words;
        different = v.different;
        rising = v.rising;
        below = λ l u. omega (arith, v.below l u);
        short = v.short;
        taken = λ j a u k x. v.taken j a u k (f j a u k x);
      }

  -- The candidates of the sequences up to i come before those after i.
  up_to :
      (c : ℕ) (P : Sequences) (i : ℕ) → Invariant c P → i < length P → (j a : ℕ) → j ≤ i → a < events →
      rank (a ∷ at P j) < rank (events ∷ at P i)
  up_to c P i v hi j a h k = go (eq-or-lt_of_le h)
    where
      go : (j ≡ i) ⊎ (j < i) → rank (a ∷ at P j) < rank (events ∷ at P i)
      go (inl q) = subst⁻¹ (λ x. rank (a ∷ at P x) < rank (events ∷ at P i)) q (omega arith)
      go (inr u) = suc-le-suc (digits_less events (rank (at P j)) (rank (at P i)) a events (v.rising j i u hi) k)

  abbrev Ready : ℕ → Sequences → Type 0
  Ready i P = (i < length P → Invariant (rank (0 ∷ at P i)) P) × (length P ≤ i → Done P)

  after_events : (Q : Sequences) (i : ℕ) → i < length Q → Invariant (rank (events ∷ at Q i)) Q → Ready (suc i) Q
  unfolding Done
  after_events Q i hi v = (
    (λ h. raise (rank (events ∷ at Q i)) (rank (0 ∷ at Q (suc i))) Q v
        (omega (arith, mul-le-mul_right events (v.rising i (suc i) (omega arith) h), suc-mul (rank (at Q i)) events))
        (λ j a u k x. into j a u k (earlier h j a u k x))),
    λ h. (rank (events ∷ at Q i), v, λ j a u k. into j a u k (omega arith)),
  )
    where
      into : (j a : ℕ) → j < length Q → a < events → j ≤ i → rank (a ∷ at Q j) < rank (events ∷ at Q i)
      into j a u k h = up_to (rank (events ∷ at Q i)) Q i v hi j a h k

      earlier : suc i < length Q → (j a : ℕ) → j < length Q → a < events → rank (a ∷ at Q j) < rank (0 ∷ at Q (suc i)) → j ≤ i
      earlier h j a u k x = go (trichotomy j (suc i))
        where
          go : Trichotomy j (suc i) → j ≤ i
          go (less l) = omega arith
          go (equal l) = absurd (omega (arith, x, ap (λ y. rank (at Q y) * events) l))
          go (greater l) =
              absurd (omega (arith, x, digits_less events (rank (at Q (suc i))) (rank (at Q j)) 0 a (v.rising (suc i) j l u) (omega arith)))

  abbrev pub Kept : Sequences → Type 0
  Kept P = (c : ℕ) × Invariant c P

  abbrev Result : ℕ → Sequences → Type 0
  Result b R = Kept R × (length R ≤ b → Done R)

  explore_invariant : (k i : ℕ) (P : Sequences) → Ready i P → Result (i + k) (explore_from k i P)
  unfolding Done
  explore_invariant zero i P r = (go (dec_lt i (length P)), λ h. r.1 (omega arith))
    where
      go : Dec (i < length P) → Kept P
      go (yes h) = (rank (0 ∷ at P i), r.0 h)
      go (no h) = let d : Done P = r.1 (omega arith) in (d.0, d.1)
  explore_invariant (suc k) i P r =
      go (ltb i (length P)) refl (λ h. explore_invariant k (suc i) (successors P i) h)
    where
      ready : i < length P → Ready (suc i) (successors P i)
      ready h =
          let R : Sequences = successors P i in
          let g : Grows P R = add_events_grows same next start events zero P (at P i) in
          let t : Invariant (rank (events ∷ at P i)) R = add_events_invariant events zero P i (at P i) h refl (omega arith) (r.0 h) in
          after_events R i (omega (arith, g.0, h)) (subst⁻¹ (λ x. Invariant (rank (events ∷ x)) R) (g.1 i h) t)

      go :
          (b : Bool) → ltb i (length P) ≡ b →
          (Ready (suc i) (successors P i) →
          Result (suc i + k) (explore_from k (suc i) (successors P i))) →
          Result (i + suc k) (cond b (explore_from k (suc i) (successors P i)) P)
      go true e f =
          let t : Result (suc i + k) (explore_from k (suc i) (successors P i))
          = f (ready (ltb-true i (length P) e)) in
          (t.0, λ h. t.1 (omega arith))
      go false e f =
          let d : Done P = r.1 (ltb-false i (length P) e) in
          ((d.0, d.1), λ h. d)

  begin : Ready zero ([] ∷ [])
  unfolding Done
  begin = (
    (λ h. record {
      nonempty = omega arith;
      empty_first = refl;
      words = λ l u. words' l u;
      different = λ j l u k. absurd (omega arith);
      rising = λ j l u k. absurd (omega arith);
      below = λ l u. below' l u;
      short = λ l u. short' l u;
      taken = λ j a u k x. absurd (not_yet j a u x);
    }),
    λ h. absurd (omega arith),
  )
    where
      none_else : (l : ℕ) → suc l < 1 → ⊥
      none_else l h = omega arith

      not_yet : (j a : ℕ) → j < 1 → rank (a ∷ at ([] ∷ []) j) < rank (0 ∷ []) → ⊥
      not_yet zero a h x = omega arith
      not_yet (suc j) a h x = none_else j h

      words' : (l : ℕ) → l < 1 → Word events (at ([] ∷ []) l)
      words' zero h = tt
      words' (suc l) h = absurd (none_else l h)

      below' : (l : ℕ) → l < 1 → rank (at ([] ∷ []) l) < rank (0 ∷ [])
      below' zero h = omega arith
      below' (suc l) h = absurd (none_else l h)

      short' : (l : ℕ) → l < 1 → length (at ([] ∷ []) l) ≤ l
      short' zero h = omega arith
      short' (suc l) h = absurd (none_else l h)

  module _ (limit : ℕ) where
    abbrev Q : Sequences
    Q = explored same next start events limit

    result : Result (zero + limit) Q
    result = explore_invariant limit zero ([] ∷ []) begin

    -- Whatever the limit: words to different states, in order, none longer than its number.
    pub invariant : Kept Q
    invariant = result.0

    -- Within the limit: every word's state is there, with a sequence that is no later.
    pub all_reached : length Q ≤ limit → (w : List ℕ) → Word events w → Hits Q (state w) (rank w)
    unfolding Done
    all_reached h [] v = (
      zero,
      result.0.1.nonempty,
      ap state result.0.1.empty_first,
      subst⁻¹ (λ x. rank x ≤ zero) result.0.1.empty_first zero-le,
    )
    all_reached h (a ∷ w) v =
        let d : Done Q = result.1 (omega (arith, h)) in
        let r : Hits Q (state w) (rank w) = all_reached h w v.1 in
        let t : HitsNext Q r.0 a
        = d.1.taken r.0 a r.1 v.0 (d.2 r.0 a r.1 v.0) in (
          t.0,
          t.1,
          t.2 ∙ ap (λ x. next x a) r.2,
          omega (arith, t.3, mul-le-mul_right events r.3),
        )

    -- So the sequence of a state is the first of all that reach it.
    pub is_first :
        length Q ≤ limit → (l : ℕ) → l < length Q → (w : List ℕ) → Word events w → state w ≡ state (at Q l) → rank (at Q l) ≤ rank w
    is_first h l u w v q =
        let r : Hits Q (state w) (rank w) = all_reached h w v in
        subst (λ x. rank (at Q x) ≤ rank w) (one_place r.0 r.1 (r.2 ∙ q)) r.3
      where
        one_place : (j : ℕ) → j < length Q → state (at Q j) ≡ state (at Q l) → j ≡ l
        one_place j b e = go (trichotomy j l)
          where
            go : Trichotomy j l → j ≡ l
            go (less x) = absurd (result.0.1.different j l x u e)
            go (equal x) = x
            go (greater x) = absurd (result.0.1.different l j x b (sym e))
