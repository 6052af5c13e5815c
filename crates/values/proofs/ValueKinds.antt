-- Which numbers are values of a kind is decided by the test; the test of "at or below" is the order.
use mathlib.Core.{Path.{◌≡◌}, Bool.{true, false}}
use Prim.Native.Nat.{ℕ, ◌*◌, ◌/◌, ◌%◌, ◌^◌, ◌≤◌, ◌<◌}
use native.Mathlib.{Omega.{arith}, Nat.{lt_of_lt_of_le, mod-eq_of_lt, one-mul}}
use borrow.Author.Tests.{eqb-true, eq-eqb, ltb-true, lt-ltb, le-ltb}
use lib.{Dec.{ltb}, Bits.{bit_and}, Pow.{pow-lt, pow_pos, pow_mono}}
use Rattle.theory.specs.ValueSets.{MeetSemilattice, pack, unpack, top_masks}
use Rattle.theory.specs.ValueSetClaims.{Packed}
use Rattle.theory.proofs.ValueSets.{and_left, and_right, and_both, packed_semilattice}
use Rattle.values.specs.declared.ValueKind.{ValueKind}
use Rattle.values.specs.declared.ValueKind.TheVariants.{Numbered, Register}
use Rattle.values.specs.Setup.{RegisterValue, ValueIn, meet_of}
use Rattle.values.specs.ValueTests.{masks_fit, value_fits}
use Rattle.values.specs.Claims.{ValueKindClaim}

fitting_masks : (lines v : ℕ) → masks_fit lines v ≡ true → RegisterValue lines v
unfolding masks_fit unpack
fitting_masks lines v e =
    let rest = and_right (ltb v (2 ^ 32)) _ e in
    record {
      two_masks = ltb-true _ _ (and_left (ltb v (2 ^ 32)) _ e);
      of_lines =
          record {
            low = ltb-true _ _ (and_left (ltb (v % 65536) (2 ^ lines)) _ rest);
            high = ltb-true _ _ (and_right (ltb (v % 65536) (2 ^ lines)) _ rest);
          };
    }

masks_fitting : (lines v : ℕ) → RegisterValue lines v → masks_fit lines v ≡ true
unfolding masks_fit unpack
masks_fitting lines v r =
    and_both (lt-ltb _ _ r.two_masks) (and_both (lt-ltb _ _ r.of_lines.low) (lt-ltb _ _ r.of_lines.high))

pub fits_value : (kind : ValueKind) (v : ℕ) → value_fits kind v ≡ true → ValueIn kind v
fits_value (Numbered n) v e = ltb-true v n e
fits_value (Register lines) v e = fitting_masks lines v e

pub value_fitting : (kind : ValueKind) (v : ℕ) → ValueIn kind v → value_fits kind v ≡ true
value_fitting (Numbered n) v h = lt-ltb v n h
value_fitting (Register lines) v h = masks_fitting lines v h

-- The packed masks of at most 16 lines are numbers of 32 bits.
packed_value : (lines v : ℕ) → lines ≤ 16 → Packed lines v → RegisterValue lines v
unfolding unpack
packed_value lines v h p =
    let high : v / 65536 < 2 ^ 16 = lt_of_lt_of_le p.high (pow_mono h) in
    record { two_masks = omega (arith, high); of_lines = p }

-- So they are a meet-semilattice.
pub register_semilattice :
    (lines : ℕ) → lines ≤ 16 →
    MeetSemilattice (RegisterValue lines) bit_and (pack (top_masks lines))
register_semilattice lines h =
    let p = packed_semilattice lines h in
    record {
      top_in = packed_value lines _ h p.top_in;
      meet_in = λ a b ha hb. packed_value lines _ h (p.meet_in a b ha.of_lines hb.of_lines);
      idempotent = λ a ha. p.idempotent a ha.of_lines;
      commutative = λ a b ha hb. p.commutative a b ha.of_lines hb.of_lines;
      associative = λ a b c ha hb hc. p.associative a b c ha.of_lines hb.of_lines hc.of_lines;
      neutral = λ a ha. p.neutral a ha.of_lines;
    }

-- The bound of a mask, as it is computed, and the tests against it.
pub bound_is : (lines : ℕ) → lines ≤ 16 → (1 * 2 ^ lines % 2 ^ 32 ≡ 2 ^ lines) × (1 ≤ 1 * 2 ^ lines % 2 ^ 32) × (1 * 2 ^ lines % 2 ^ 32 ≤ 65536)
bound_is lines h =
    let e : 1 * 2 ^ lines % 2 ^ 32 ≡ 2 ^ lines = rw (one-mul) (mod-eq_of_lt (pow-lt {j = 32} (omega arith))) in
    let small : 2 ^ lines ≤ 2 ^ 16 = pow_mono h in
    (e, omega (arith, e, pow_pos lines), omega (arith, e, small))

pub wide_masks : (lines v : ℕ) → 16 ≤ lines → v < 2 ^ 32 → masks_fit lines v ≡ true
unfolding masks_fit
wide_masks lines v h small =
    let wide : 2 ^ 16 ≤ 2 ^ lines = pow_mono h in
    and_both (lt-ltb _ _ small) (and_both (lt-ltb (v % 65536) (2 ^ lines) (omega (arith, wide))) (lt-ltb (v / 65536) (2 ^ lines) (omega (arith, wide))))

module _ (lines v bound : ℕ) (e : bound ≡ 2 ^ lines) (small : v < 2 ^ 32) where
  pub low_mask : bound ≤ v % 65536 → masks_fit lines v ≡ false
  unfolding masks_fit
  low_mask h = rw (lt-ltb v (2 ^ 32) small, le-ltb (v % 65536) (2 ^ lines) (omega (arith, e, h)))

  pub high_mask : v % 65536 < bound → masks_fit lines v ≡ ltb (v / 65536) bound
  unfolding masks_fit
  high_mask h = rw (e, lt-ltb v (2 ^ 32) small, lt-ltb (v % 65536) (2 ^ lines) (omega (arith, e, h)))

pub value_kinds : ValueKindClaim
unfolding meet_of
value_kinds =
    record {
      fits = λ kind v. (fits_value kind v, value_fitting kind v);
      order = λ kind table b c. (eqb-true _ _, eq-eqb _ _);
    }
