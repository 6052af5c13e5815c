-- Twin of Setup, pinned by values ValueKindClaim.
-- Which numbers are values of a kind, and how values compare, computed: the twins of `ValueIn`, `AtOrBelow` and `ComparesAs` (ComparisonClaim).
use mathlib.Core.{Bool.{Bool, ◌&&◌, cond}, List.{List}}
use Rattle.std.specs.Prelude.{ℕ, ◌+◌, ◌/◌, ◌%◌, ◌^◌, get_or, eqb, ltb}
use Rattle.values.specs.{declared.ValueKind.{ValueKind}, declared.ValueKind.TheVariants.{Numbered, Register}, Setup.{meet_of}}
use Rattle.values.specs.{declared.Comparison.{Comparison}, declared.Comparison.TheVariants.{Equal, StrictlyBelow, NotBelow}}
use Rattle.values.specs.Setup.{masks_value}

unfoldable pub masks_fit : ℕ → ℕ → Bool
masks_fit lines v = ltb v (2 ^ 32) && (ltb (v % 65536) (2 ^ lines) && ltb (v / 65536) (2 ^ lines))

abbrev pub value_fits : ValueKind → ℕ → Bool
value_fits (Numbered n) v = ltb v n
value_fits (Register lines) v = masks_fit lines v

-- "b is at or below c when the meet of b and c is b", as a test.
abbrev pub at_or_below : ValueKind → List ℕ → ℕ → ℕ → Bool
at_or_below kind table b c = eqb (meet_of kind table b c) b

-- Meet first, so that NotBelow is exactly "not at or below", for all numbers.
unfoldable pub comparison : ValueKind → List ℕ → ℕ → ℕ → Comparison
comparison kind table b c = cond (at_or_below kind table b c) (cond (eqb b c) Equal StrictlyBelow) NotBelow

-- The packed masks in four bytes from a place on.
abbrev pub masks_from : List ℕ → ℕ → ℕ
masks_from bytes at = masks_value (get_or bytes at 0) (get_or bytes (at + 1) 0) (get_or bytes (at + 2) 0) (get_or bytes (at + 3) 0)
