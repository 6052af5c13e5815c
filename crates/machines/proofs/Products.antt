-- A number is a product exactly if it leaves no remainder and has the other factor as its quotient.
use mathlib.Core.{Path.{◌≡◌, refl, sym, ◌∙◌, ap}, Bool.{Bool, true, false}}
use Prim.Native.Nat.{ℕ, ◌+◌, ◌*◌, ◌/◌, ◌%◌, ◌<◌}
use native.Mathlib.{Nat.{mul-mod_left, mul-div_cancel, div-add-mod', mul-zero}, Omega.{arith}}
use borrow.Author.Tests.{eqb-true, eqb-false, eq-eqb, ne_eqb}
use lib.Dec.{eqb}

-- Two tests of equal numbers that hold together.
eqb_same : (x y z w : ℕ) → (x ≡ y → z ≡ w) → (z ≡ w → x ≡ y) → eqb x y ≡ eqb z w
eqb_same x y z w to from = by_cases (eqb x y) refl
  where
    by_cases : (b : Bool) → eqb x y ≡ b → eqb x y ≡ eqb z w
    by_cases true e = e ∙ sym (eq-eqb z w (to (eqb-true x y e)))
    by_cases false e = e ∙ sym (ne_eqb z w (λ h. eqb-false x y e (from h)))

pub product_zero : (n a b : ℕ) → b ≡ 0 → eqb n 0 ≡ eqb n (a * b)
product_zero n a b none = ap (eqb n) (sym (mul-zero a) ∙ ap (λ c. a * c) (sym none))

pub product_remainder : (n a b : ℕ) → (n % b ≡ 0 → ⊥) → eqb n (a * b) ≡ false
product_remainder n a b left = ne_eqb n (a * b) (λ e. left (ap (λ k. k % b) e ∙ mul-mod_left a b))

pub product_quotient : (n a b : ℕ) → 0 < b → n % b ≡ 0 → eqb (n / b) a ≡ eqb n (a * b)
product_quotient n a b some whole =
    eqb_same (n / b) a n (a * b)
    (λ e. sym (div-add-mod' n b) ∙ ap (λ r. n / b * b + r) whole ∙ omega (arith, ap (λ q. q * b) e))
    (λ e. ap (λ k. k / b) e ∙ mul-div_cancel a some)

pub quotient_of_product : (n a b : ℕ) → 0 < b → eqb n (a * b) ≡ true → n / b ≡ a
quotient_of_product n a b some e = ap (λ k. k / b) (eqb-true n (a * b) e) ∙ mul-div_cancel a some
