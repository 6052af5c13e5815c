-- Facts on numbers: of two, one is smaller or they are equal; digits of a base; and no more different numbers below n than n.
use mathlib.Core.{Path.{◌≡◌, refl, sym, ◌∙◌, ap, subst}, Bool.{Bool, true, false, cond}, Logic.{◌↔◌}}
use Prim.Native.Nat.{ℕ, zero, suc, ◌+◌, ◌*◌, ◌≤◌, ◌<◌, zero-le, suc-le-suc}
use native.Mathlib.{Nat.{mul-le-mul_right, suc-mul}, Decide.{dec_lt}, Omega.{arith}}
use lib.Dec.{T, eqb, eqb→eq, eqb_refl}
use borrow.Author.Tests.{eqb-true, eqb-false}

-- The test of equality decides it.
pub eqb_iff : (a b : ℕ) → T (eqb a b) ↔ (a ≡ b)
eqb_iff a b = (eqb→eq a b, λ e. subst (λ x. T (eqb a x)) e (eqb_refl a))

-- How two numbers compare.
pub data Trichotomy (a b : ℕ) : Type 0 where
  less : a < b → Trichotomy a b
  equal : a ≡ b → Trichotomy a b
  greater : b < a → Trichotomy a b

pub trichotomy : (a b : ℕ) → Trichotomy a b
trichotomy a b = go (dec_lt a b) (dec_lt b a)
  where
    go : Dec (a < b) → Dec (b < a) → Trichotomy a b
    go (yes h) y = less h
    go (no f) (yes h) = greater h
    go (no f) (no g) = equal (omega arith)

-- Two-digit numbers of a base, the last digit below it: order goes by the first digit.
pub digits_less : (base x y a b : ℕ) → x < y → a < base → x * base + a < y * base + b
digits_less base x y a b h l = omega (arith, mul-le-mul_right base h, suc-mul x base)

pub digits_equal :
    (base x y a b : ℕ) → a < base → b < base → x * base + a ≡ y * base + b → (x ≡ y) × (a ≡ b)
digits_equal base x y a b ha hb e = go (trichotomy x y)
  where
    go : Trichotomy x y → (x ≡ y) × (a ≡ b)
    go (less h) = absurd (omega (arith, digits_less base x y a b h ha))
    go (equal h) = (h, omega (arith, ap (λ z. z * base) h))
    go (greater h) = absurd (omega (arith, digits_less base y x b a h hb))

-- The pigeonhole principle: the last number takes the place of n, where n is among the others.
pub pigeonhole :
    (n k : ℕ) (f : ℕ → ℕ) → ((j : ℕ) → j < k → f j < n) → ((j l : ℕ) → j < l → l < k → ¬ (f j ≡ f l)) → k ≤ n
pigeonhole n zero f below different = zero-le
pigeonhole zero (suc k) f below different = absurd (omega (arith, below k (omega arith)))
pigeonhole (suc n) (suc k) f below different =
    suc-le-suc (pigeonhole n k moved (λ j h. moved_below j h (eqb (f j) n) refl)
    (λ j l u h e. moved_different j l u h (eqb (f j) n) (eqb (f l) n) refl refl e))
  where
    moved : ℕ → ℕ
    moved j = cond (eqb (f j) n) (f k) (f j)

    moved_below : (j : ℕ) → j < k → (b : Bool) → eqb (f j) n ≡ b → cond b (f k) (f j) < n
    moved_below j h true e =
        omega (arith, below k (omega arith), eqb-true (f j) n e, ne (λ q. different j k h (omega arith) q))
      where
        ne : ¬ (f j ≡ f k) → ¬ (f k ≡ n)
        ne g q = g (eqb-true (f j) n e ∙ sym q)
    moved_below j h false e = omega (arith, below j (omega arith), eqb-false (f j) n e)

    moved_different :
        (j l : ℕ) → j < l → l < k → (b c : Bool) → eqb (f j) n ≡ b → eqb (f l) n ≡ c →
        ¬ (cond b (f k) (f j) ≡ cond c (f k) (f l))
    moved_different j l u h true true p q e =
        different j l u (omega arith) (eqb-true (f j) n p ∙ sym (eqb-true (f l) n q))
    moved_different j l u h true false p q e = different l k h (omega arith) (sym e)
    moved_different j l u h false true p q e = different j k (omega arith) (omega arith) e
    moved_different j l u h false false p q e = different j l u (omega arith) e
