-- Over a table of n states the set definition with decided sets is the set definition: the greatest set of a binder comes down
-- from all states in n rounds.
use mathlib.Core.{Path.{◌≡◌, refl, sym, ◌∙◌, ap, subst⁻¹, fun_ext}, Bool.{Bool, true, false, ◌&&◌}, Logic.{◌↔◌, ◌⊎◌, inl, inr}}
use Prim.Native.Nat.{ℕ, zero, suc, ◌+◌, ◌≤◌, ◌<◌}
use native.Mathlib.{Omega.{arith}, Decide.{dec_lt}}
use lib.Dec.{T, ltb, lt→ltb, ltb→lt}
use mir.Facts.{and_yes, yes_and}
use Rattle.theory.specs.ValueSets.{MeetSemilattice, AtOrBelow}
use Rattle.theory.specs.Formula.{Formula, truth, variable, transition, output, conjunction, greatest}
use Rattle.theory.specs.FormulaClasses.{Fits}
use Rattle.theory.specs.MealyMachine.{Machine, States, Runs, extend, SatisfiesIn}
use Rattle.theory.specs.TableSatisfaction.{TableSatisfiesIn}
use Rattle.theory.specs.Claims.{TableSatisfactionClaim}
use Rattle.theory.proofs.Counting.{count, count_le, Inside, inside_or_fewer}

-- All states below n, then again and again what a round keeps.
abbrev rounds : ℕ → ((ℕ → Bool) → ℕ → Bool) → ℕ → ℕ → Bool
rounds n F zero = λ t. ltb t n
rounds n F (suc j) = λ t. rounds n F j t && F (rounds n F j) t

module _ (n : ℕ) (F : (ℕ → Bool) → ℕ → Bool) where
  outside : (j t : ℕ) → n ≤ t → rounds n F j t ≡ false
  outside zero t h = go (ltb t n) (λ x. ltb→lt t n x)
    where
      go : (b : Bool) → (T b → t < n) → b ≡ false
      go true f = absurd (omega (arith, f tt))
      go false f = refl
  outside (suc j) t h = ap (λ x. x && F (rounds n F j) t) (outside j t h)

  kept : (j : ℕ) → Inside n (rounds n F j) (F (rounds n F j)) → rounds n F (suc j) ≡ rounds n F j
  kept j f = fun_ext (λ t. go t (dec_lt t n))
    where
      go : (t : ℕ) → Dec (t < n) → rounds n F (suc j) t ≡ rounds n F j t
      go t (yes h) = f t h
      go t (no h) = outside (suc j) t (omega arith) ∙ sym (outside j t (omega arith))

  -- A round keeps everything, or each round so far has lost a state.
  keeps_or_loses : (j : ℕ) → (rounds n F (suc j) ≡ rounds n F j) ⊎ (count n (rounds n F (suc j)) + suc j ≤ n)
  keeps_or_loses zero = go (inside_or_fewer n (rounds n F zero) (F (rounds n F zero)))
    where
      go :
          Inside n (rounds n F zero) (F (rounds n F zero)) ⊎ (count n (rounds n F 1) < count n (rounds n F zero)) →
          (rounds n F 1 ≡ rounds n F zero) ⊎ (count n (rounds n F 1) + 1 ≤ n)
      go (inl f) = inl (kept zero f)
      go (inr l) = inr (omega (arith, l, count_le n (rounds n F zero)))
  keeps_or_loses (suc j) = go (keeps_or_loses j) (inside_or_fewer n (rounds n F (suc j)) (F (rounds n F (suc j))))
    where
      go :
          (rounds n F (suc j) ≡ rounds n F j) ⊎ (count n (rounds n F (suc j)) + suc j ≤ n) →
          Inside n (rounds n F (suc j)) (F (rounds n F (suc j)))
          ⊎ (count n (rounds n F (suc (suc j))) < count n (rounds n F (suc j))) →
          (rounds n F (suc (suc j)) ≡ rounds n F (suc j)) ⊎ (count n (rounds n F (suc (suc j))) + suc (suc j) ≤ n)
      go (inl e) x = inl (ap (λ A. λ t. A t && F A t) e)
      go (inr l) (inl f) = inl (kept (suc j) f)
      go (inr l) (inr f) = inr (omega (arith, l, f))

  settled : rounds n F (suc n) ≡ rounds n F n
  settled = go (keeps_or_loses n)
    where
      go :
          (rounds n F (suc n) ≡ rounds n F n) ⊎ (count n (rounds n F (suc n)) + suc n ≤ n) →
          rounds n F (suc n) ≡ rounds n F n
      go (inl e) = e
      go (inr l) = absurd (omega (arith, l))

  -- The last round lies within what it is taken to.
  settled_inside : (t : ℕ) → T (rounds n F n t) → T (F (rounds n F n) t)
  settled_inside t h = (and_yes (rounds n F n t) (F (rounds n F n) t) (subst⁻¹ (λ A. T (A t)) settled h)).1

-- A set that each round keeps lies within every round.
in_rounds :
    (n : ℕ) (F : (ℕ → Bool) → ℕ → Bool) (A : ℕ → Type 0) →
    ((C : ℕ → Bool) → ((t : ℕ) → t < n → A t → T (C t)) → (t : ℕ) → t < n → A t → T (F C t)) →
    (j t : ℕ) → t < n → A t → T (rounds n F j t)
in_rounds n F A h zero t l i = lt→ltb t n l
in_rounds n F A h (suc j) t l i =
    yes_and (rounds n F j t) (F (rounds n F j) t) (in_rounds n F A h j t l i) (h (rounds n F j) (in_rounds n F A h j) t l i)

module _ {B : Type 0} (meet : B → B → B)
    (at_or_below : B → B → Bool) (decides : (b c : B) → T (at_or_below b c) ↔ AtOrBelow meet b c)
    (n : ℕ) (m : Machine ℕ B) where
  -- The set definition, decided.
  abbrev satisfies : (ℕ → ℕ → Bool) → Formula B → ℕ → Bool
  satisfies η truth s = true
  satisfies η (variable k) s = η k s
  satisfies η (transition e φ) s = satisfies η φ (m.next s e)
  satisfies η (output e b) s = at_or_below (m.value s e) b
  satisfies η (conjunction φ χ) s = satisfies η φ s && satisfies η χ s
  satisfies η (greatest φ) s = rounds n (λ A. satisfies (extend A η) φ) n s

  -- What the test passes has its decided sets.
  test_satisfies : (φ : Formula B) (η : ℕ → ℕ → Bool) (s : ℕ) → T (satisfies η φ s) → TableSatisfiesIn meet n m η φ s
  test_satisfies truth η s h = tt
  test_satisfies (variable k) η s h = h
  test_satisfies (transition e φ) η s h = test_satisfies φ η (m.next s e) h
  test_satisfies (output e b) η s h = (decides (m.value s e) b).0 h
  test_satisfies (conjunction φ χ) η s h = (
    test_satisfies φ η s (and_yes (satisfies η φ s) (satisfies η χ s) h).0,
    test_satisfies χ η s (and_yes (satisfies η φ s) (satisfies η χ s) h).1,
  )
  test_satisfies (greatest φ) η s h =
      let F : (ℕ → Bool) → ℕ → Bool = λ A. satisfies (extend A η) φ in
      (rounds n F n, h, λ t l i. test_satisfies φ (extend (rounds n F n) η) t (settled_inside n F t i))

  -- Decided sets are sets.
  table_satisfies :
      (φ : Formula B) (η : ℕ → ℕ → Bool) (θ : ℕ → ℕ → Type 0) → ((k t : ℕ) → T (η k t) → θ k t) →
      (s : ℕ) → TableSatisfiesIn meet n m η φ s → SatisfiesIn meet (States n) m θ φ s
  table_satisfies truth η θ f s h = tt
  table_satisfies (variable k) η θ f s h = record { lower = f k s h }
  table_satisfies (transition e φ) η θ f s h = table_satisfies φ η θ f (m.next s e) h
  table_satisfies (output e b) η θ f s h = record { lower = h }
  table_satisfies (conjunction φ χ) η θ f s h = (table_satisfies φ η θ f s h.0, table_satisfies χ η θ f s h.1)
  table_satisfies (greatest φ) η θ f s h = (
    (λ t. T (h.0 t)),
    h.1,
    λ t l i. table_satisfies φ (extend h.0 η) (extend (λ x. T (h.0 x)) θ) into t (h.2 t l i),
  )
    where
      into : (k t : ℕ) → T (extend h.0 η k t) → extend (λ x. T (h.0 x)) θ k t
      into zero t i = i
      into (suc k) t i = f k t i

  module _ (events : ℕ) (In : B → Type 0) (runs : Runs events In (States n) m) where
    extended :
        (θ : ℕ → ℕ → Type 0) (η : ℕ → ℕ → Bool) (A : ℕ → Type 0) (C : ℕ → Bool) →
        ((k t : ℕ) → t < n → θ k t → T (η k t)) → ((t : ℕ) → t < n → A t → T (C t)) →
        (k t : ℕ) → t < n → extend A θ k t → T (extend C η k t)
    extended θ η A C h hC zero t l i = hC t l i
    extended θ η A C h hC (suc k) t l i = h k t l i

    -- What is satisfied with any sets passes the test.
    satisfies_test :
        (φ : Formula B) (θ : ℕ → ℕ → Type 0) (η : ℕ → ℕ → Bool) → Fits events In φ →
        ((k t : ℕ) → t < n → θ k t → T (η k t)) →
        (s : ℕ) → s < n → SatisfiesIn meet (States n) m θ φ s → T (satisfies η φ s)
    satisfies_test truth θ η f h s l v = tt
    satisfies_test (variable k) θ η f h s l v = h k s l v.lower
    satisfies_test (transition e φ) θ η f h s l v =
        satisfies_test φ θ η f.1 h (m.next s e) (runs.next_in s l e f.0) v
    satisfies_test (output e b) θ η f h s l v = (decides (m.value s e) b).1 v.lower
    satisfies_test (conjunction φ χ) θ η f h s l v =
        yes_and (satisfies η φ s) (satisfies η χ s)
        (satisfies_test φ θ η f.0 h s l v.0) (satisfies_test χ θ η f.1 h s l v.1)
    satisfies_test (greatest φ) θ η f h s l v =
        in_rounds n (λ C. satisfies (extend C η) φ) v.0
        (λ C hC t lt i. satisfies_test φ (extend v.0 θ) (extend C η) f (extended θ η v.0 C h hC) t lt (v.2 t lt i))
        n s l v.1

module _ {B : Type 0} (In : B → Type 0) (meet : B → B → B) (top : B) (laws : MeetSemilattice In meet top) (events : ℕ) where
  pub table_satisfaction_claim : TableSatisfactionClaim In meet top laws events
  table_satisfaction_claim at_or_below decides n m runs φ g s l = (
    table_satisfies meet at_or_below decides n m φ (λ k t. false) (λ k t. ⊥) (λ k t i. i) s,
    λ v. test_satisfies meet at_or_below decides n m φ (λ k t. false) s
        (satisfies_test meet at_or_below decides n m events In runs φ (λ k t. ⊥) (λ k t. false) g.fits (λ k t lt i. i) s l v),
  )
