-- Counting the members of a decided set below a bound.
use mathlib.Core.{Path.{◌≡◌, refl, sym, ◌∙◌, ap, ap₂, subst}, Bool.{Bool, true, false, ◌&&◌}, Logic.{◌⊎◌, inl, inr}}
use Prim.Native.Nat.{ℕ, zero, suc, ◌+◌, ◌≤◌, ◌<◌, zero-le}
use native.Mathlib.{Nat.{le_of_suc-le-suc, not-suc-le-zero, eq-or-lt_of_le, suc_inj}, Omega.{arith}}

abbrev pub one : Bool → ℕ
one true = 1
one false = 0

-- How many of the numbers below k are in the set.
abbrev pub count : ℕ → (ℕ → Bool) → ℕ
count zero A = zero
count (suc k) A = one (A k) + count k A

one_le : (b : Bool) → one b ≤ 1
one_le true = omega arith
one_le false = omega arith

one_part : (b c : Bool) → one (b && c) ≤ one b
one_part true true = omega arith
one_part true false = omega arith
one_part false c = omega arith

pub count_le : (k : ℕ) (A : ℕ → Bool) → count k A ≤ k
count_le zero A = zero-le
count_le (suc k) A = omega (arith, count_le k A, one_le (A k))

pub count_part : (k : ℕ) (A C : ℕ → Bool) → count k (λ t. A t && C t) ≤ count k A
count_part zero A C = zero-le
count_part (suc k) A C = omega (arith, count_part k A C, one_part (A k) (C k))

-- Below k, A lies within C.
abbrev pub Inside : ℕ → (ℕ → Bool) → (ℕ → Bool) → Type 0
Inside k A C = (t : ℕ) → t < k → (A t && C t) ≡ A t

inside_suc : (k : ℕ) (A C : ℕ → Bool) → (A k && C k) ≡ A k → Inside k A C → Inside (suc k) A C
inside_suc k A C e f t h = go (eq-or-lt_of_le h)
  where
    go : (suc t ≡ suc k) ⊎ (suc t < suc k) → (A t && C t) ≡ A t
    go (inl p) = subst (λ x. (A x && C x) ≡ A x) (sym (suc_inj p)) e
    go (inr l) = f t (le_of_suc-le-suc l)

-- A lies within C, or what they share has fewer members.
pub inside_or_fewer : (k : ℕ) (A C : ℕ → Bool) → Inside k A C ⊎ (count k (λ t. A t && C t) < count k A)
inside_or_fewer zero A C = inl (λ t h. absurd (not-suc-le-zero h))
inside_or_fewer (suc k) A C = go (A k) (C k) refl refl (inside_or_fewer k A C)
  where
    go :
        (b c : Bool) → A k ≡ b → C k ≡ c → Inside k A C ⊎ (count k (λ t. A t && C t) < count k A) →
        Inside (suc k) A C ⊎ (count (suc k) (λ t. A t && C t) < count (suc k) A)
    go true true p q (inl f) = inl (inside_suc k A C (ap₂ ◌&&◌ p q ∙ sym p) f)
    go true false p q (inl f) =
        inr (omega (arith, count_part k A C, ap₂ (λ x y. one (x && y)) p q, ap one p))
    go false true p q (inl f) = inl (inside_suc k A C (ap₂ ◌&&◌ p q ∙ sym p) f)
    go false false p q (inl f) = inl (inside_suc k A C (ap₂ ◌&&◌ p q ∙ sym p) f)
    go true true p q (inr l) = inr (omega (arith, l, one_part (A k) (C k)))
    go true false p q (inr l) = inr (omega (arith, l, one_part (A k) (C k)))
    go false true p q (inr l) = inr (omega (arith, l, one_part (A k) (C k)))
    go false false p q (inr l) = inr (omega (arith, l, one_part (A k) (C k)))
