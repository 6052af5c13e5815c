-- Single bits of numbers: of a bitwise or and and, of a power of two, that they determine the number, and the last that is set.
use mathlib.Core.{Path.{◌≡◌, refl, sym, ap, ap₂, ◌∙◌, subst}, Bool.{Bool, false, ◌||◌, ◌&&◌, true≢false}}
use Prim.Native.Nat.{ℕ, zero, suc, ◌+◌, ◌-◌, ◌*◌, ◌/◌, ◌%◌, ◌^◌, ◌≤◌, ◌<◌, max, min}
use native.Mathlib.Nat.{mod-lt, zero-lt-suc, div_self, div-eq_of_lt, div-one, one-mul, add_comm}
use native.Mathlib.{Nat.{div-add-mod', zero-div, div-lt_iff_lt-mul, pow-suc}, Decide.{dec_lt}, Omega.{arith}}
use borrow.Author.Tests.{eq-eqb, ne_eqb}
use lib.{Bits.{bit_or, or_step, or_shr, bit_and, and_step, and_shr, shifted_even}, Pow.{pow-add, shl-shr, shr-shr, pow_pos, pow-lt, field, mod-mod-pow}}
use lib.{Count.{count_leading_zeros, leading_length}, Dec.{eqb}, Arith.{digits_div}}
use Rattle.synthesis.specs.{NodeWords.{bit_at}, MarkedNodes.{LastSet}}

pub bit_small : (a k : ℕ) → bit_at a k < 2
unfolding bit_at
bit_small a k = mod-lt (a / 2 ^ k) (zero-lt-suc 1)

-- What holds of each two bits.
two_bits : (P : ℕ → ℕ → Type 0) → P 0 0 → P 0 1 → P 1 0 → P 1 1 → (x y : ℕ) → x < 2 → y < 2 → P x y
two_bits P a b c d zero zero h k = a
two_bits P a b c d zero (suc zero) h k = b
two_bits P a b c d (suc zero) zero h k = c
two_bits P a b c d (suc zero) (suc zero) h k = d
two_bits P a b c d zero (suc (suc y)) h k = absurd (omega arith)
two_bits P a b c d (suc zero) (suc (suc y)) h k = absurd (omega arith)
two_bits P a b c d (suc (suc x)) y h k = absurd (omega arith)

-- A bit of a bitwise operation, which is `one` on single bits and `test` on whether they are set.
module _ (op one : ℕ → ℕ → ℕ) (test : Bool → Bool → Bool) (shr : (x y k : ℕ) → op x y / 2 ^ k ≡ op (x / 2 ^ k) (y / 2 ^ k))
    (odd : (x y : ℕ) → op x y % 2 ≡ one (x % 2) (y % 2))
    (tested : (x y : ℕ) → x < 2 → y < 2 → eqb (one x y) 1 ≡ test (eqb x 1) (eqb y 1)) where
  op_bit : (x y k : ℕ) → eqb (bit_at (op x y) k) 1 ≡ test (eqb (bit_at x k) 1) (eqb (bit_at y k) 1)
  unfolding bit_at
  op_bit x y k =
      ap (λ n. eqb n 1) (ap (λ (n : ℕ). n % 2) (shr x y k) ∙ odd (x / 2 ^ k) (y / 2 ^ k))
      ∙ tested (bit_at x k) (bit_at y k) (bit_small x k) (bit_small y k)

pub or_bit : (x y k : ℕ) → eqb (bit_at (bit_or x y) k) 1 ≡ eqb (bit_at x k) 1 || eqb (bit_at y k) 1
or_bit =
    op_bit bit_or max ◌||◌ or_shr (λ x y. omega (arith, or_step x y))
    (two_bits (λ x y. eqb (max x y) 1 ≡ eqb x 1 || eqb y 1) refl refl refl refl)

pub and_bit : (x y k : ℕ) → eqb (bit_at (bit_and x y) k) 1 ≡ eqb (bit_at x k) 1 && eqb (bit_at y k) 1
and_bit =
    op_bit bit_and min ◌&&◌ and_shr (λ x y. omega (arith, and_step x y))
    (two_bits (λ x y. eqb (min x y) 1 ≡ eqb x 1 && eqb y 1) refl refl refl refl)

-- The bits of a power of two.
pub power_bit : (m n : ℕ) → eqb (bit_at (2 ^ m) n) 1 ≡ eqb m n
unfolding bit_at
power_bit m n = go (dec_lt m n)
  where
    up : (d : ℕ) → m ≡ n + d → eqb (2 ^ m / 2 ^ n % 2) 1 ≡ eqb m n
    up zero e =
        let p : m ≡ n = omega (arith, e) in
        ap (λ x. eqb (2 ^ x / 2 ^ n % 2) 1) p
        ∙ ap (λ x. eqb (x % 2) 1) (div_self (pow_pos n))
        ∙ sym (eq-eqb m n p)
    up (suc d) e =
        ap (λ x. eqb (2 ^ x / 2 ^ n % 2) 1) (e ∙ add_comm n (suc d))
        ∙ ap (λ x. eqb (x / 2 ^ n % 2) 1) (pow-add 2 (suc d) n)
        ∙ ap (λ x. eqb (x % 2) 1) (shl-shr (2 ^ suc d) n)
        ∙ ap (λ x. eqb (x % 2) 1) (sym (one-mul (2 ^ suc d)))
        ∙ ap (λ x. eqb x 1) (shifted_even 1 d)
        ∙ sym (ne_eqb m n (λ q. omega (arith, e, q)))

    go : Dec (m < n) → eqb (2 ^ m / 2 ^ n % 2) 1 ≡ eqb m n
    go (yes h) =
        ap (λ x. eqb (x % 2) 1) (div-eq_of_lt (pow-lt h))
        ∙ sym (ne_eqb m n (λ q. omega (arith, h, q)))
    go (no h) = up (m - n) (omega arith)

pub zero_bit : (k : ℕ) → eqb (bit_at 0 k) 1 ≡ false
unfolding bit_at
zero_bit k = ap (λ x. eqb (x % 2) 1) (zero-div (2 ^ k))

-- The bits of a number that is shifted down.
pub shifted_bit : (a k j : ℕ) → bit_at (a / 2 ^ k) j ≡ bit_at a (k + j)
unfolding bit_at
shifted_bit a k j = ap (λ x. x % 2) (shr-shr a k j)

-- No bits from k on.
pub no_rest : (a k j : ℕ) → a / 2 ^ k ≡ 0 → k ≤ j → bit_at a j ≡ 0
unfolding bit_at
no_rest a k j e h =
    let z : j ≡ k + (j - k) = omega arith in
    ap (bit_at a) z ∙ sym (shifted_bit a k (j - k)) ∙ ap (λ x. x / 2 ^ (j - k) % 2) e ∙ ap (λ x. x % 2) (zero-div (2 ^ (j - k)))

same_bit : (x y : ℕ) → x < 2 → y < 2 → eqb x 1 ≡ eqb y 1 → x ≡ y
same_bit =
    two_bits (λ x y. eqb x 1 ≡ eqb y 1 → x ≡ y) (λ e. refl) (λ e. absurd (true≢false (sym e))) (λ e. absurd (true≢false e)) (λ e. refl)

half_bit : (x k : ℕ) → bit_at (x / 2) k ≡ bit_at x (suc k)
unfolding bit_at
half_bit x k =
    let z : 1 + k ≡ suc k = omega arith in
    ap (λ y. y % 2) (shr-shr x 1 k ∙ ap (λ j. x / 2 ^ j) z)

low_bit : (x : ℕ) → bit_at x 0 ≡ x % 2
unfolding bit_at
low_bit x = ap (λ y. y % 2) (div-one x)

half_lt : (z n : ℕ) → z < 2 ^ suc n → z / 2 < 2 ^ n
half_lt z n u = (div-lt_iff_lt-mul (zero-lt-suc 1)).1 (subst (λ y. z < y) (pow-suc 2 n) u)

-- Numbers below 2 ^ n with the same n bits are equal.
pub same_number :
    (n x y : ℕ) → x < 2 ^ n → y < 2 ^ n → ((k : ℕ) → k < n → eqb (bit_at x k) 1 ≡ eqb (bit_at y k) 1) → x ≡ y
same_number zero x y h l f = omega (arith, h, l)
same_number (suc n) x y h l f =
    let ih : x / 2 ≡ y / 2
    = same_number n (x / 2) (y / 2) (half_lt x n h) (half_lt y n l)
    (λ k u. ap (λ b. eqb b 1) (half_bit x k) ∙ f (suc k) (omega arith) ∙ ap (λ b. eqb b 1) (sym (half_bit y k))) in
    let d : x % 2 ≡ y % 2
    = sym (low_bit x) ∙ same_bit (bit_at x 0) (bit_at y 0) (bit_small x 0) (bit_small y 0) (f 0 (omega arith)) ∙ low_bit y in
    sym (div-add-mod' x 2) ∙ ap₂ (λ a b. a * 2 + b) ih d ∙ div-add-mod' y 2

-- The k lowest bits, and the bits of a number of m binary digits.
pub low_bits : (a k j : ℕ) → j < k → bit_at (a % 2 ^ k) j ≡ bit_at a j
unfolding bit_at
low_bits a k j h =
    let z : k ≡ (k - j - 1 + 1) + j = omega arith in
    ap (λ x. a % 2 ^ x / 2 ^ j % 2) z ∙ ap (λ x. x % 2) (field a (k - j - 1 + 1) j) ∙ mod-mod-pow (a / 2 ^ j) (k - j - 1) 1

highest_bit : (a m : ℕ) → a < 2 ^ suc m → 2 ^ suc m ≤ 2 * a + 1 → bit_at a m ≡ 1
unfolding bit_at
highest_bit a m h l =
    let p : ℕ = 2 ^ m in
    let d : 2 ^ suc m ≡ p * 2 = pow-suc 2 m in
    let z : a ≡ 1 * p + (a - p) = omega (arith, d, l) in
    ap (λ x. x % 2) (ap (λ x. x / p) z ∙ digits_div 1 {m = p} (omega (arith, d, h, l)))

-- The last set bit of a word, by the zeros in front of it.
pub last_set : (w : ℕ) → 0 < w → w < 2 ^ 64 → (count_leading_zeros 64 w ≤ 63) × LastSet w (63 - count_leading_zeros 64 w)
last_set w some small = go sized.0 sized.1 sized.2 sized.3
  where
    sized : (m : ℕ) × (count_leading_zeros 64 w + m ≡ 64) × (w < 2 ^ m) × (2 ^ m ≤ 2 * w + 1)
    sized = leading_length 64 w small

    go :
        (m : ℕ) → count_leading_zeros 64 w + m ≡ 64 → w < 2 ^ m → 2 ^ m ≤ 2 * w + 1 →
        (count_leading_zeros 64 w ≤ 63) × LastSet w (63 - count_leading_zeros 64 w)
    go zero e h l = absurd (omega arith)
    go (suc m) e h l =
        let z : m ≡ 63 - count_leading_zeros 64 w = omega arith in (
          omega arith,
          subst (LastSet w) z
              (record { low = omega arith; here = highest_bit w m h l; after = λ j u v. no_rest w (suc m) j (div-eq_of_lt h) u }),
        )
