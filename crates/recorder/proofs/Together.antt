-- Numbers taken together two by two, and one test for all of them: entries below a bound by the largest, masks of so many lines by or.
use mathlib.Core.{Path.{◌≡◌, refl, sym, ◌∙◌, ap, ap₂}, Logic.{⊎_elim}, Bool.{Bool, true, false, ◌&&◌, and-false}, List.{List}}
use Prim.Native.Nat.{ℕ, zero, suc, ◌+◌, ◌-◌, ◌/◌, ◌%◌, ◌^◌, ◌≤◌, ◌<◌, max, min}
use native.Mathlib.{Nat.{eq-or-lt_of_le, le_of_suc-le-suc}, Numerals.{add-one}, Omega.{arith}}
use borrow.Author.Tests.{lt-ltb, le-ltb, ltb-true, leb-true, leb-false}
use lib.{Bits.{bit_or, or_add_and, and_le_l, and_le_r, or_lt, or_mod, or_shr}, Dec.{ltb, leb}, Pow.{pow_pos}, ListN.{length, get_or, get_or-eq_default}}
use Rattle.limits.specs.Limits.{store_limit}
use Rattle.theory.specs.ValueSetTests.{every}
use Rattle.theory.proofs.ValueSets.{and_left, and_right, and_both, every_at, every_of}
use Rattle.values.specs.ValueTests.{masks_fit}
use Rattle.values.proofs.DownSets.{same_test}
use Rattle.recorder.specs.Decisions.{together}

pub together_none : (op : ℕ → ℕ → ℕ) (f : ℕ → ℕ) → 0 ≡ together op 0 f
unfolding together
together_none op f = refl

pub together_more : (op : ℕ → ℕ → ℕ) (f : ℕ → ℕ) (i : ℕ) → together op (i + 1) f ≡ op (together op i f) (f i)
unfolding together
together_more op f i = rw (add-one i)

-- A test that passes for two numbers taken together where it passes for both.
pub together_test :
    (op : ℕ → ℕ → ℕ) (test : ℕ → Bool) → test 0 ≡ true → ((a b : ℕ) → test (op a b) ≡ (test b && test a)) →
    (n : ℕ) (f : ℕ → ℕ) → test (together op n f) ≡ every n (λ i. test (f i))
unfolding together every
together_test op test none both zero f = none
together_test op test none both (suc n) f = both (together op n f) (f n) ∙ ap (λ t. test (f n) && t) (together_test op test none both n f)

-- Entries behind the store are 0 and add nothing.
module _ (op : ℕ → ℕ → ℕ) (right_zero : (a : ℕ) → op a 0 ≡ a) (l : List ℕ) (from : ℕ) (sized : length l ≡ store_limit) where
  abbrev entry : ℕ → ℕ
  entry i = get_or l (from + i) 0

  beyond : (m n : ℕ) → store_limit - from ≤ m → m ≤ n → together op m entry ≡ together op n entry
  unfolding together
  beyond m zero g h = let z : m ≡ zero = omega arith in ap (λ k. together op k entry) z
  beyond m (suc n) g h =
      ⊎_elim (λ e. ap (λ k. together op k entry) e)
      (λ k.
      beyond m n g (le_of_suc-le-suc k)
      ∙ sym (ap (op (together op n entry)) (get_or-eq_default l 0 {n = from + n} (omega arith)) ∙ right_zero (together op n entry)))
      (eq-or-lt_of_le h)

  pub together_there : (n : ℕ) → together op (min n (store_limit - from)) entry ≡ together op n entry
  together_there n =
      go (leb n (store_limit - from)) refl
    where
      go : (t : Bool) → leb n (store_limit - from) ≡ t → together op (min n (store_limit - from)) entry ≡ together op n entry
      go true p =
          let e : min n (store_limit - from) ≡ n = omega (arith, leb-true n (store_limit - from) p) in
          ap (λ k. together op k entry) e
      go false p =
          let h = leb-false n (store_limit - from) p in
          let e : min n (store_limit - from) ≡ store_limit - from = omega arith in
          ap (λ k. together op k entry) e ∙ beyond (store_limit - from) n (omega arith) (omega arith)

-- By the largest: below a bound above 0 where every entry is.
max_below : (v a b : ℕ) → ltb (max a b) v ≡ (ltb b v && ltb a v)
max_below v a b =
    same_test _ _ (λ e. let h = ltb-true (max a b) v e in and_both (lt-ltb b v (omega arith)) (lt-ltb a v (omega arith)))
    (λ e.
    let p = ltb-true b v (and_left (ltb b v) (ltb a v) e) in
    let q = ltb-true a v (and_right (ltb b v) (ltb a v) e) in
    lt-ltb (max a b) v (omega arith))

largest_below : (v : ℕ) → 0 < v → (n : ℕ) (f : ℕ → ℕ) → ltb (together max n f) v ≡ every n (λ i. ltb (f i) v)
largest_below v h = together_test max (λ x. ltb x v) (lt-ltb 0 v h) (max_below v)

-- Of some numbers.
pub some_below : (v n : ℕ) → 0 < n → (f : ℕ → ℕ) → ltb (together max n f) v ≡ every n (λ i. ltb (f i) v)
unfolding every
some_below zero zero h f = absurd (omega arith)
some_below zero (suc n) h f =
    le-ltb (together max (suc n) f) 0 (omega arith) ∙ sym (ap (λ b. b && every n (λ i. ltb (f i) 0)) (le-ltb (f n) 0 (omega arith)))
some_below (suc v) n h f = largest_below (suc v) (omega arith) n f

-- By or: no bit at or above the line count where no value has one.
or_right : (a b : ℕ) → b ≤ bit_or a b
or_right a b = omega (arith, or_add_and a b, and_le_l a b)

or_left : (a b : ℕ) → a ≤ bit_or a b
or_left a b = omega (arith, or_add_and a b, and_le_r a b)

or_below : (k a b : ℕ) → ltb (bit_or a b) (2 ^ k) ≡ (ltb b (2 ^ k) && ltb a (2 ^ k))
or_below k a b =
    same_test _ _
    (λ e.
    let h = ltb-true (bit_or a b) (2 ^ k) e in
    and_both (lt-ltb b (2 ^ k) (omega (arith, or_right a b))) (lt-ltb a (2 ^ k) (omega (arith, or_left a b))))
    (λ e.
    lt-ltb (bit_or a b) (2 ^ k)
    (or_lt k a b (ltb-true a (2 ^ k) (and_right (ltb b (2 ^ k)) (ltb a (2 ^ k)) e)) (ltb-true b (2 ^ k) (and_left (ltb b (2 ^ k)) (ltb a (2 ^ k)) e))))

masks_both : (lines a b : ℕ) → masks_fit lines (bit_or a b) ≡ (masks_fit lines b && masks_fit lines a)
unfolding masks_fit
masks_both lines a b =
    ap₂ ◌&&◌ (or_below 32 a b)
    (ap₂ ◌&&◌ (ap (λ x. ltb x (2 ^ lines)) (or_mod a b 16) ∙ or_below lines (a % 65536) (b % 65536))
    (ap (λ x. ltb x (2 ^ lines)) (or_shr a b 16) ∙ or_below lines (a / 65536) (b / 65536)))
    ∙ apart (ltb b (2 ^ 32)) (ltb a (2 ^ 32)) (ltb (b % 65536) (2 ^ lines)) (ltb (a % 65536) (2 ^ lines)) (ltb (b / 65536) (2 ^ lines))
    (ltb (a / 65536) (2 ^ lines))
  where
    apart : (p q r s t u : Bool) → ((p && q) && ((r && s) && (t && u))) ≡ ((p && (r && t)) && (q && (s && u)))
    apart false q r s t u = refl
    apart true q false s t u = and-false q
    apart true q true s false u = ap (λ x. q && x) (and-false s) ∙ and-false q
    apart true q true s true u = refl

no_masks : (lines : ℕ) → masks_fit lines 0 ≡ true
unfolding masks_fit
no_masks lines =
    and_both (lt-ltb 0 (2 ^ 32) (omega arith)) (and_both (lt-ltb 0 (2 ^ lines) (pow_pos lines)) (lt-ltb 0 (2 ^ lines) (pow_pos lines)))

pub masks_together : (lines n : ℕ) (f : ℕ → ℕ) → masks_fit lines (together bit_or n f) ≡ every n (λ i. masks_fit lines (f i))
masks_together lines = together_test bit_or (masks_fit lines) (no_masks lines) (masks_both lines)

-- Two tests of every number, as one.
pub every_both : (n : ℕ) (a b : ℕ → Bool) → (every n a && every n b) ≡ every n (λ i. a i && b i)
every_both n a b = same_test _ _ to back
  where
    to : (every n a && every n b) ≡ true → every n (λ i. a i && b i) ≡ true
    to e =
        every_of n (λ i. a i && b i)
        (λ i k. and_both (every_at n a (and_left (every n a) (every n b) e) i k) (every_at n b (and_right (every n a) (every n b) e) i k))

    back : every n (λ i. a i && b i) ≡ true → (every n a && every n b) ≡ true
    back e =
        and_both (every_of n a (λ i k. and_left (a i) (b i) (every_at n (λ i. a i && b i) e i k)))
        (every_of n b (λ i k. and_right (a i) (b i) (every_at n (λ i. a i && b i) e i k)))
