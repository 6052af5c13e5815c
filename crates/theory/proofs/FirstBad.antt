-- `first_bad` finds the first word at which a test of states and events strikes, where there is one, once all states are explored.
-- Words have their last event first here.
use mathlib.Core.{Path.{◌≡◌, refl, ap, subst, subst⁻¹}, Bool.{Bool, true, false, cond}, Logic.{◌↔◌, ◌⊎◌, inl, inr}, List.{List, [], ◌∷◌}}
use mathlib.Core.Option.{Option, none, some}
use Prim.Native.Nat.{ℕ, zero, suc, ◌+◌, ◌*◌, ◌≤◌, ◌<◌, zero-le, suc-le-suc}
use native.Mathlib.{Nat.{le_of_suc-le-suc, not-suc-le-zero, eq-or-lt_of_le, mul-le-mul_right}, Omega.{arith}}
use lib.{Dec.{T}, ListN.{length}}
use Rattle.theory.specs.MealyMachine.{Word}
use Rattle.theory.specs.Exploration.{reached, explored}
use Rattle.theory.specs.ConformanceCheck.{bad_event, first_found, first_bad}
use Rattle.theory.proofs.{Numbers.{digits_less}, WordOrder.{code}, Exploration.{at, Kept, Hits, invariant, all_reached}}

module _ {S : Type 0} (next : S → ℕ → S) (start : S) (bad : S → ℕ → Bool) (events : ℕ) where
  abbrev state : List ℕ → S
  state w = reached next start w

  EventFound : ℕ → ℕ → List ℕ → Option (List ℕ) → Type 0
  EventFound c e w none = (a : ℕ) → e ≤ a → a < e + c → T (bad (state w) a) → ⊥
  EventFound c e w (some u) =
      (a : ℕ) × (e ≤ a) × (a < e + c) × (u ≡ a ∷ w) × T (bad (state w) a) × ((b : ℕ) → e ≤ b → T (bad (state w) b) → a ≤ b)

  event_found : (c e : ℕ) (w : List ℕ) → EventFound c e w (bad_event next start bad c e w)
  unfolding EventFound
  event_found zero e w = λ a l u x. omega arith
  event_found (suc c) e w = go (bad (state w) e) refl (bad_event next start bad c (suc e) w) (event_found c (suc e) w)
    where
      later : bad (state w) e ≡ false → (a : ℕ) → e ≤ a → T (bad (state w) a) → suc e ≤ a
      later q a l x = by_case (eq-or-lt_of_le l)
        where
          by_case : (e ≡ a) ⊎ (e < a) → suc e ≤ a
          by_case (inl y) = absurd (subst T q (subst⁻¹ (λ z. T (bad (state w) z)) y x))
          by_case (inr y) = y

      go :
          (t : Bool) → bad (state w) e ≡ t → (o : Option (List ℕ)) → EventFound c (suc e) w o →
          EventFound (suc c) e w (cond t (some (e ∷ w)) o)
      go true q o s = (e, omega arith, omega arith, refl, subst⁻¹ T q tt, λ b l x. l)
      go false q none s = λ a l u x. s a (later q a l x) (omega arith) x
      go false q (some v) s =
          (s.0, omega (arith, s.1), omega (arith, s.2), s.3, s.4, λ b l x. s.5 b (later q b l x) x)

  WordFound : List (List ℕ) → Option (List ℕ) → Type 0
  WordFound P none = (l a : ℕ) → l < length P → a < events → T (bad (state (at P l)) a) → ⊥
  WordFound P (some u) =
      (l : ℕ) × (a : ℕ) × (l < length P) × (a < events) × (u ≡ a ∷ at P l) × T (bad (state (at P l)) a)
      × ((j b : ℕ) → j < length P → b < events → T (bad (state (at P j)) b) → (l < j) ⊎ ((l ≡ j) × (a ≤ b)))

  word_found : (P : List (List ℕ)) → WordFound P (first_bad next start bad events P)
  unfolding WordFound EventFound
  word_found [] = λ l a h k x. not-suc-le-zero h
  word_found (w ∷ P) =
      go (bad_event next start bad events zero w) (event_found events zero w) (first_bad next start bad events P) (word_found P)
    where
      go :
          (o : Option (List ℕ)) → EventFound events zero w o → (r : Option (List ℕ)) → WordFound P r →
          WordFound (w ∷ P) (first_found o r)
      go (some u) s r k = (zero, s.0, suc-le-suc zero-le, omega (arith, s.2), s.3, s.4, first)
        where
          first :
              (j b : ℕ) → j < suc (length P) → b < events → T (bad (state (at (w ∷ P) j)) b) →
              (zero < j) ⊎ ((zero ≡ j) × (s.0 ≤ b))
          first zero b h l x = inr (refl, s.5 b zero-le x)
          first (suc j) b h l x = inl (suc-le-suc zero-le)
      go none s none k = nowhere
        where
          nowhere : (l a : ℕ) → l < suc (length P) → a < events → T (bad (state (at (w ∷ P) l)) a) → ⊥
          nowhere zero a h l x = s a zero-le (omega arith) x
          nowhere (suc j) a h l x = k j a (le_of_suc-le-suc h) l x
      go none s (some u) k = (suc k.0, k.1, suc-le-suc k.2, k.3, k.4, k.5, first)
        where
          first :
              (j b : ℕ) → j < suc (length P) → b < events → T (bad (state (at (w ∷ P) j)) b) →
              (suc k.0 < j) ⊎ ((suc k.0 ≡ j) × (k.1 ≤ b))
          first zero b h l x = absurd (s b zero-le (omega arith) x)
          first (suc j) b h l x = up (k.6 j b (le_of_suc-le-suc h) l x)
            where
              up : (k.0 < j) ⊎ ((k.0 ≡ j) × (k.1 ≤ b)) → (suc k.0 < suc j) ⊎ ((suc k.0 ≡ suc j) × (k.1 ≤ b))
              up (inl y) = inl (suc-le-suc y)
              up (inr y) = inr (ap suc y.0, y.1)

  module _ (same : S → S → Bool) (same_iff : (x y : S) → T (same x y) ↔ (x ≡ y)) (limit : ℕ) where
    abbrev Q : List (List ℕ)
    Q = explored same next start events limit

    -- Nothing is bad anywhere; or u is bad, no longer than there are states, and none that is bad comes before it.
    unfoldable pub Answer : Option (List ℕ) → Type 0
    Answer none = (w : List ℕ) (a : ℕ) → Word events w → a < events → T (bad (state w) a) → ⊥
    Answer (some u) =
        (w : List ℕ) × (a : ℕ) × (u ≡ a ∷ w) × Word events u × T (bad (state w) a) × (length u ≤ length Q)
        × ((v : List ℕ) (b : ℕ) → Word events v → b < events → T (bad (state v) b) → code events u ≤ code events (b ∷ v))

    pub answer : length Q ≤ limit → Answer (first_bad next start bad events Q)
    unfolding Answer WordFound
    answer h = go (first_bad next start bad events Q) (word_found Q)
      where
        inv : Kept same same_iff next start events Q
        inv = invariant same same_iff next start events limit

        hits : (w : List ℕ) → Word events w → Hits same same_iff next start events Q (state w) (code events w)
        hits w i = all_reached same same_iff next start events limit h w i

        go : (o : Option (List ℕ)) → WordFound Q o → Answer o
        go none s = λ w a i l x.
            let r : Hits same same_iff next start events Q (state w) (code events w) = hits w i in
            s r.0 a r.1 l (subst⁻¹ (λ y. T (bad y a)) r.2 x)
        go (some u) s = (
          at Q s.0,
          s.1,
          s.4,
          subst⁻¹ (Word events) s.4 (s.3, inv.1.words s.0 s.2),
          s.5,
          omega (arith, ap length s.4, inv.1.short s.0 s.2, s.2),
          λ w b i l x. subst⁻¹ (λ y. code events y ≤ code events (b ∷ w)) s.4 (no_later w b l x (hits w i)),
        )
          where
            no_later :
                (w : List ℕ) (b : ℕ) → b < events → T (bad (state w) b) → Hits same same_iff next start events Q (state w) (code events w) →
                code events (s.1 ∷ at Q s.0) ≤ code events (b ∷ w)
            no_later w b l x r = by_place (s.6 r.0 b r.1 l (subst⁻¹ (λ y. T (bad y b)) r.2 x))
              where
                by_place : (s.0 < r.0) ⊎ ((s.0 ≡ r.0) × (s.1 ≤ b)) → code events (s.1 ∷ at Q s.0) ≤ code events (b ∷ w)
                by_place (inl y) =
                    let rising : code events (at Q s.0) < code events (at Q r.0) = inv.1.rising s.0 r.0 y r.1 in
                    omega (
                      arith,
                      digits_less events (code events (at Q s.0)) (code events (at Q r.0)) s.1 b rising s.3,
                      mul-le-mul_right events r.3,
                    )
                by_place (inr y) =
                    omega (arith, ap (λ z. code events (at Q z) * events) y.0, y.1, mul-le-mul_right events r.3)
