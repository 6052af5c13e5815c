-- Places of pairs fit.
use Prim.Native.Nat.{ℕ, ◌*◌, ◌≤◌}
use native.Mathlib.{Nat.{mul-le-mul_left, mul-le-mul_right}, Omega.{arith}}

-- The largest product of two bounded numbers.
pub product_bounded : {n k d t : ℕ} → n ≤ d → k ≤ t → n * k ≤ d * t
product_bounded {n} {k} {d} {t} h l = omega (arith, mul-le-mul_right k h, mul-le-mul_left d l)
