-- The two kinds of values are meet-semilattices (document 01, "Value sets"; document 02, F-7).
use mathlib.Core.{Path.{◌≡◌, refl, sym, ◌∙◌, ap, ap₂, subst}, Bool.{Bool, true, false, ◌&&◌}, Logic.{◌⊎◌, inl, inr, ⊎_elim}, List.{List}}
use Prim.Native.Nat.{ℕ, zero, suc, ◌+◌, ◌*◌, ◌-◌, ◌/◌, ◌%◌, ◌^◌, min, ◌≤◌, ◌<◌}
use native.Mathlib.{Nat.{le_of_suc-le-suc, not-suc-le-zero, mod-eq_of_lt, eq-or-lt_of_le, lt_of_lt_of_le}, Numerals.{add-one}, Omega.{arith}}
use borrow.Author.Tests.{ltb-true, eqb-true, lt-ltb, eq-eqb}
use lib.{Dec.{ltb}, Pow.{pow_pos, pow_mono}, Bits.{bit_and, and_comm, and_self, and_lt, and_mask, and_step, and_zero_l, and_mod, and_shr}}
use Rattle.theory.specs.ValueSets.{MeetSemilattice, Below, meet_at, four_value_meet, Masks, OfLines, top_masks, pack, unpack}
use Rattle.theory.specs.ValueSetClaims.{meet_masks, LawfulClaim, FourValueClaim, MasksClaim, PackingClaim, PackedClaim}
use Rattle.theory.specs.ValueSetTests.{every, closed_test, idempotent_test, commutative_test, associative_test, neutral_test, lawful}

-- Tests joined by `&&`.
pub and_left : (a b : Bool) → (a && b) ≡ true → a ≡ true
and_left true b e = refl
and_left false b e = e

pub and_right : (a b : Bool) → (a && b) ≡ true → b ≡ true
and_right true b e = e
and_right false b e = let z : ◌≡◌ {A = ℕ} 0 1 = cc in absurd (omega arith)

pub and_both : {a b : Bool} → a ≡ true → b ≡ true → (a && b) ≡ true
and_both {a} {b} p q = ap₂ ◌&&◌ p q

pub and_passed : {a b : Bool} → a ≡ true → (a && b) ≡ b
and_passed {b = b} e = ap (λ t. t && b) e

pub and_failed : {a : Bool} (b : Bool) → a ≡ false → (a && b) ≡ false
and_failed b e = ap (λ t. t && b) e

pub and_false_right : (a : Bool) {b : Bool} → b ≡ false → (a && b) ≡ false
and_false_right true e = e
and_false_right false e = refl

pub and_cases : (a b : Bool) → (a && b) ≡ false → (a ≡ false) ⊎ (b ≡ false)
and_cases true b e = inr e
and_cases false b e = inl refl

-- `every` is the test of all numbers below n.
pub every_none : (test : ℕ → Bool) → every 0 test ≡ true
unfolding every
every_none test = refl

pub every_more : (n : ℕ) (test : ℕ → Bool) → every n test ≡ true → test n ≡ true → every (n + 1) test ≡ true
unfolding every
every_more n test all here = rw (add-one n) (and_both here all)

pub every_at : (n : ℕ) (test : ℕ → Bool) → every n test ≡ true → (i : ℕ) → i < n → test i ≡ true
unfolding every
every_at zero test all i h = absurd (not-suc-le-zero h)
every_at (suc n) test all i h =
    ⊎_elim (λ e. ap test e ∙ and_left (test n) (every n test) all)
    (λ l. every_at n test (and_right (test n) (every n test) all) i l)
    (eq-or-lt_of_le (le_of_suc-le-suc h))

pub every_of : (n : ℕ) (test : ℕ → Bool) → ((i : ℕ) → i < n → test i ≡ true) → every n test ≡ true
unfolding every
every_of zero test all = refl
every_of (suc n) test all = and_both (all n (omega arith)) (every_of n test (λ i h. all i (omega arith)))

pub every_done : (n i : ℕ) (test : ℕ → Bool) → i ≤ n → n ≤ i → every i test ≡ true → every n test ≡ true
every_done n i test below above all = let same : i ≡ n = omega arith in subst (λ k. every k test ≡ true) same all

pub every_not : (n : ℕ) (test : ℕ → Bool) (i : ℕ) → i < n → test i ≡ false → every n test ≡ false
unfolding every
every_not zero test i h e = absurd (not-suc-le-zero h)
every_not (suc n) test i h e =
    ⊎_elim (λ same. ap (λ b. b && every n test) (ap test (sym same) ∙ e))
    (λ l. and_false_right (test n) (every_not n test i l e))
    (eq-or-lt_of_le (le_of_suc-le-suc h))

pub every_some : (n : ℕ) (test : ℕ → Bool) → every n test ≡ false → (i : ℕ) × (i < n) × (test i ≡ false)
unfolding every
every_some zero test e = let z : ◌≡◌ {A = ℕ} 0 1 = cc in absurd (omega arith)
every_some (suc n) test e =
    ⊎_elim (λ here. (n, omega arith, here))
    (λ rest. let found = every_some n test rest in (found.0, omega (arith, found.1), found.2))
    (and_cases (test n) (every n test) e)

-- A table that passes the test has the laws.
pub laws_of_test : (n : ℕ) (table : List ℕ) (top : ℕ) → lawful n table top ≡ true → MeetSemilattice (Below n) (meet_at n table) top
unfolding lawful closed_test idempotent_test commutative_test associative_test neutral_test
laws_of_test n table top t =
    let below = and_left (ltb top n) _ t in
    let t1 = and_right (ltb top n) _ t in
    let t2 = and_right (closed_test n table) _ t1 in
    let t3 = and_right (idempotent_test n table) _ t2 in
    let t4 = and_right (commutative_test n table) _ t3 in
    record {
      top_in = ltb-true _ _ below;
      meet_in = λ a b ha hb. ltb-true _ _ (every_at n _ (every_at n _ (and_left (closed_test n table) _ t1) a ha) b hb);
      idempotent = λ a ha. eqb-true _ _ (every_at n _ (and_left (idempotent_test n table) _ t2) a ha);
      commutative = λ a b ha hb. eqb-true _ _ (every_at n _ (every_at n _ (and_left (commutative_test n table) _ t3) a ha) b hb);
      associative = λ a b c ha hb hc.
          eqb-true _ _ (every_at n _ (every_at n _ (every_at n _ (and_left (associative_test n table) _ t4) a ha) b hb) c hc);
      neutral = λ a ha. eqb-true _ _ (every_at n _ (and_right (associative_test n table) _ t4) a ha);
    }

-- A table that has the laws passes the test.
pub test_of_laws : (n : ℕ) (table : List ℕ) (top : ℕ) → MeetSemilattice (Below n) (meet_at n table) top → lawful n table top ≡ true
unfolding lawful closed_test idempotent_test commutative_test associative_test neutral_test
test_of_laws n table top laws =
    and_both (lt-ltb _ _ laws.top_in)
    (and_both (every_of n _ (λ a ha. every_of n _ (λ b hb. lt-ltb _ _ (laws.meet_in a b ha hb))))
    (and_both (every_of n _ (λ a ha. eq-eqb _ _ (laws.idempotent a ha)))
    (and_both (every_of n _ (λ a ha. every_of n _ (λ b hb. eq-eqb _ _ (laws.commutative a b ha hb))))
    (and_both
    (every_of n _ (λ a ha. every_of n _ (λ b hb. every_of n _ (λ c hc. eq-eqb _ _ (laws.associative a b c ha hb hc)))))
    (every_of n _ (λ a ha. eq-eqb _ _ (laws.neutral a ha)))))))

pub lawful_correct : LawfulClaim
lawful_correct n table top = (laws_of_test n table top, test_of_laws n table top)

pub four_value_semilattice : FourValueClaim
unfolding four_value_meet meet_at every closed_test idempotent_test commutative_test associative_test neutral_test lawful
four_value_semilattice = laws_of_test 4 four_value_meet 3 refl

-- Bitwise and is associative.
and_assoc_from : (k a b c : ℕ) → a ≤ k → bit_and (bit_and a b) c ≡ bit_and a (bit_and b c)
and_assoc_from zero a b c h =
    let e : a ≡ zero = omega arith in
    ap (λ x. bit_and (bit_and x b) c) e
    ∙ ap (λ x. bit_and x c) (and_zero_l b) ∙ and_zero_l c ∙ sym (and_zero_l (bit_and b c))
    ∙ ap (λ x. bit_and x (bit_and b c)) (sym e)
and_assoc_from (suc k) a b c h =
    and_step (bit_and a b) c
    ∙ ap₂ (λ x y. x * 2 + y)
    (ap (λ x. bit_and x (c / 2)) (half a b) ∙ and_assoc_from k (a / 2) (b / 2) (c / 2) (omega arith) ∙ ap (bit_and (a / 2)) (sym (half b c)))
    (ap (λ x. min x (c % 2)) (odd a b) ∙ min_assoc (a % 2) (b % 2) (c % 2) ∙ ap (min (a % 2)) (sym (odd b c)))
    ∙ sym (and_step a (bit_and b c))
  where
    half : (x y : ℕ) → bit_and x y / 2 ≡ bit_and (x / 2) (y / 2)
    half x y = omega (arith, and_step x y)

    odd : (x y : ℕ) → bit_and x y % 2 ≡ min (x % 2) (y % 2)
    odd x y = omega (arith, and_step x y)

    min_assoc : (x y z : ℕ) → min (min x y) z ≡ min x (min y z)
    min_assoc x y z = omega arith

pub and_assoc : (a b c : ℕ) → bit_and (bit_and a b) c ≡ bit_and a (bit_and b c)
and_assoc a b c = and_assoc_from a a b c (omega arith)

pub and_top : (k a : ℕ) → a < 2 ^ k → bit_and a (2 ^ k - 1) ≡ a
and_top k a h = and_mask a k ∙ mod-eq_of_lt h

-- Masks are equal when both of their parts are.
masks_eq : {a b : Masks} → a.low ≡ b.low → a.high ≡ b.high → a ≡ b
masks_eq p q = λ i. record { low = p i; high = q i }

pub masks_semilattice : MasksClaim
unfolding meet_masks top_masks
masks_semilattice lines =
    record {
      top_in = record { low = omega (arith, pow_pos lines); high = omega (arith, pow_pos lines) };
      meet_in = λ a b ha hb.
          record { low = and_lt lines a.low b.low ha.low hb.low; high = and_lt lines a.high b.high ha.high hb.high };
      idempotent = λ a ha. masks_eq (and_self a.low) (and_self a.high);
      commutative = λ a b ha hb. masks_eq (and_comm a.low b.low) (and_comm a.high b.high);
      associative = λ a b c ha hb hc. masks_eq (and_assoc a.low b.low c.low) (and_assoc a.high b.high c.high);
      neutral = λ a ha. masks_eq (and_top lines a.low ha.low) (and_top lines a.high ha.high);
    }

-- Packing and its inverse.
wider : {lines k : ℕ} {m : Masks} → lines ≤ k → OfLines lines m → OfLines k m
wider h o = record { low = lt_of_lt_of_le o.low (pow_mono h); high = lt_of_lt_of_le o.high (pow_mono h) }

unpack_pack_eq : (m : Masks) → OfLines 16 m → unpack (pack m) ≡ m
unfolding pack unpack
unpack_pack_eq m o = masks_eq (omega (arith, o.low)) (omega (arith, o.low))

pack_unpack_eq : (v : ℕ) → pack (unpack v) ≡ v
unfolding pack unpack
pack_unpack_eq v = omega arith

unpack_and : (a b : ℕ) → unpack (bit_and a b) ≡ meet_masks (unpack a) (unpack b)
unfolding unpack meet_masks
unpack_and a b = masks_eq (and_mod a b 16) (and_shr a b 16)

and_pack : (a b : Masks) → OfLines 16 a → OfLines 16 b → bit_and (pack a) (pack b) ≡ pack (meet_masks a b)
and_pack a b ha hb =
    sym (pack_unpack_eq (bit_and (pack a) (pack b)))
    ∙ ap pack (unpack_and (pack a) (pack b) ∙ ap₂ meet_masks (unpack_pack_eq a ha) (unpack_pack_eq b hb))

pub packing : PackingClaim
unfolding pack
packing =
    record {
      unpack_pack = unpack_pack_eq;
      pack_unpack = pack_unpack_eq;
      packed = λ lines m h o. subst (OfLines lines) (sym (unpack_pack_eq m (wider h o))) o;
      fits = λ m o. omega (arith, o.low, o.high);
      meet = and_pack;
    }

pub packed_semilattice : PackedClaim
packed_semilattice lines h =
    record {
      top_in = packing.packed lines (top_masks lines) h masks.top_in;
      meet_in = λ a b ha hb. subst (OfLines lines) (sym (unpack_and a b)) (masks.meet_in (unpack a) (unpack b) ha hb);
      idempotent = λ a ha. and_self a;
      commutative = λ a b ha hb. and_comm a b;
      associative = λ a b c ha hb hc. and_assoc a b c;
      neutral = λ a ha.
          ap (λ v. bit_and v (pack (top_masks lines))) (sym (pack_unpack_eq a))
          ∙ and_pack (unpack a) (top_masks lines) (wider h ha) (wider h masks.top_in)
          ∙ ap pack (masks.neutral (unpack a) ha) ∙ pack_unpack_eq a;
    }
  where
    masks : MeetSemilattice (OfLines lines) meet_masks (top_masks lines)
    masks = masks_semilattice lines
