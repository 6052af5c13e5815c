-- The test of the laws by sets of values is the test by triples: the grouping of three values does not matter exactly if each meet is the
-- greatest value at or below both of its parts.
use mathlib.Core.{Path.{◌≡◌, refl, sym, ◌∙◌, ap, ap₂, subst}, Bool.{Bool, true, false, ◌&&◌, cond, and_assoc, and_comm, and_self}}
use mathlib.Core.{Logic.{⊎_elim}, List.{List}}
use Prim.Native.Nat.{ℕ, zero, suc, ◌+◌, ◌*◌, ◌^◌, ◌≤◌, ◌<◌}
use native.Mathlib.{Nat.{le_of_suc-le-suc, not-suc-le-zero, eq-or-lt_of_le, pow-suc}, Numerals.{add-one}, Omega.{arith}}
use borrow.Author.{Count.{below_more}, Tests.{eqb-true, eq-eqb, ltb-true, lt-ltb}}
use lib.{Bits.{bit_and, and_block}, Dec.{eqb, ltb}, ListN.{length, get_or, set}, Pow.{pow-lt}}
use lib.Seq.{get_or-set_same, get_or-set_other}
use Rattle.limits.specs.Limits.{value_limit}
use Rattle.theory.specs.ValueSets.{MeetSemilattice, Below, meet_at}
use Rattle.theory.specs.ValueSetTests.{idempotent_test, neutral_test, lawful}
use Rattle.theory.proofs.ValueSets.{and_left, and_right, and_both, every_at, every_of, laws_of_test, test_of_laws}
use Rattle.theory.proofs.Numbers.{Trichotomy, less, equal, greater, trichotomy}
use Rattle.values.specs.DownSets.{mask, down_set, pair_test, pairs_test, lawful_by_sets, DownSets}
use Rattle.values.specs.{SetupTests.{values_test, entries_test, meet_test}, Claims.{LawfulBySetsClaim}}
use Rattle.values.proofs.Setups.{top_below, entries_of_laws}

-- Tests that pass together are the same.
pub same_test : (a b : Bool) → (a ≡ true → b ≡ true) → (b ≡ true → a ≡ true) → a ≡ b
same_test true b f g = sym (f refl)
same_test false true f g = g refl
same_test false false f g = refl

-- A mask with one number more.
pub mask_none : (test : ℕ → Bool) → mask 0 test ≡ 0
unfolding mask
mask_none test = refl

pub mask_with : (n : ℕ) (test : ℕ → Bool) → test n ≡ true → mask (n + 1) test ≡ mask n test + mask n test + 1
unfolding mask
mask_with n test e = rw (add-one n, e) (omega arith)

pub mask_without : (n : ℕ) (test : ℕ → Bool) → test n ≡ false → mask (n + 1) test ≡ mask n test + mask n test
unfolding mask
mask_without n test e = rw (add-one n, e) (omega arith)

pub mask_done : (n i : ℕ) (test : ℕ → Bool) {set : ℕ} → i ≤ n → n ≤ i → set ≡ mask i test → set ≡ mask n test
mask_done n i test below above e = let same : i ≡ n = omega arith in e ∙ ap (λ k. mask k test) same

-- A mask has n bits.
bit_small : (b : Bool) → cond b 1 0 < 2
bit_small true = omega arith
bit_small false = omega arith

mask_small : (n : ℕ) (test : ℕ → Bool) → mask n test < 2 ^ n
unfolding mask
mask_small zero test = omega arith
mask_small (suc n) test = omega (arith, mask_small n test, bit_small (test n), pow-suc 2 n)

pub mask_fits : (n : ℕ) (test : ℕ → Bool) {set : ℕ} → set ≡ mask n test → n < value_limit → set < 2 ^ value_limit
mask_fits n test e h = omega (arith, mask_small n test, pow-lt {j = value_limit} h)

-- The bitwise and of two masks has the numbers that pass both tests.
bit_and_flags : (a b : Bool) → bit_and (cond a 1 0) (cond b 1 0) ≡ cond (a && b) 1 0
bit_and_flags true true = refl
bit_and_flags true false = refl
bit_and_flags false true = refl
bit_and_flags false false = refl

mask_and : (n : ℕ) (p q : ℕ → Bool) → bit_and (mask n p) (mask n q) ≡ mask n (λ i. p i && q i)
unfolding mask
mask_and zero p q = refl
mask_and (suc n) p q =
    and_block 1 (mask n p) (mask n q) (cond (p n) 1 0) (cond (q n) 1 0) (bit_small (p n)) (bit_small (q n))
    ∙ ap₂ (λ x y. x * 2 + y) (mask_and n p q) (bit_and_flags (p n) (q n))

-- Masks are equal exactly if their tests agree below n.
bit_same : (a b : Bool) → ◌≡◌ {A = ℕ} (cond a 1 0) (cond b 1 0) → a ≡ b
bit_same true true e = refl
bit_same true false e = absurd (omega arith)
bit_same false true e = absurd (omega arith)
bit_same false false e = refl

mask_same : (n : ℕ) (p q : ℕ → Bool) → ((i : ℕ) → i < n → p i ≡ q i) → mask n p ≡ mask n q
unfolding mask
mask_same zero p q f = refl
mask_same (suc n) p q f = ap₂ (λ x b. x * 2 + cond b 1 0) (mask_same n p q (λ i h. f i (omega arith))) (f n (omega arith))

mask_at : (n : ℕ) (p q : ℕ → Bool) → mask n p ≡ mask n q → (i : ℕ) → i < n → p i ≡ q i
unfolding mask
mask_at zero p q e i h = absurd (not-suc-le-zero h)
mask_at (suc n) p q e i h =
    ⊎_elim (λ same. ap p same ∙ bit_same (p n) (q n) last ∙ ap q (sym same)) (λ l. mask_at n p q rest i l) (eq-or-lt_of_le (le_of_suc-le-suc h))
  where
    last : ◌≡◌ {A = ℕ} (cond (p n) 1 0) (cond (q n) 1 0)
    last = omega (arith, e, bit_small (p n), bit_small (q n))

    rest : mask n p ≡ mask n q
    rest = omega (arith, e, bit_small (p n), bit_small (q n))

-- One element more is stored: those before it stay.
pub one_more :
    (f : ℕ → ℕ) (l : List ℕ) (a : ℕ) {v : ℕ} → a < length l → v ≡ f a → ((k : ℕ) → k < a → get_or l k 0 ≡ f k) →
    (k : ℕ) → k < a + 1 → get_or (set l a v) k 0 ≡ f k
one_more f l a {v} inside here before =
    below_more _ a (λ k h. get_or-set_other l a k v 0 (λ e. omega arith) ∙ before k h) (get_or-set_same l a v 0 inside ∙ here)

-- What the test of two values says: their order does not matter, their meet is a value, and what is at or below it is what is at or below both.
record Pair (n : ℕ) (m : ℕ → ℕ → ℕ) (a b : ℕ) : Type 0 where
  swapped : m a b ≡ m b a
  value : m a b < n
  lower : (c : ℕ) → c < n → eqb (m (m a b) c) c ≡ (eqb (m a c) c && eqb (m b c) c)

module _ (n : ℕ) (table : List ℕ) (a b : ℕ) where
  pair_of_test : pair_test n table a b ≡ true → Pair n (meet_at n table) a b
  unfolding pair_test
  pair_of_test t =
      let rest = and_right (eqb (meet_at n table a b) (meet_at n table b a)) _ t in
      record {
        swapped = eqb-true _ _ (and_left (eqb (meet_at n table a b) (meet_at n table b a)) _ t);
        value = ltb-true _ _ (and_left (ltb (meet_at n table a b) n) _ rest);
        lower = mask_at n _ _ (eqb-true _ _ (and_right (ltb (meet_at n table a b) n) _ rest) ∙ mask_and n _ _);
      }

  test_of_pair : Pair n (meet_at n table) a b → pair_test n table a b ≡ true
  unfolding pair_test
  test_of_pair p =
      and_both (eq-eqb _ _ p.swapped)
      (and_both (lt-ltb _ _ p.value)
      (eq-eqb _ _ (mask_same n _ _ p.lower ∙ sym (mask_and n (λ c. eqb (meet_at n table a c) c) (λ c. eqb (meet_at n table b c) c)))))

module _ (n : ℕ) (m : ℕ → ℕ → ℕ) (idempotent : (a : ℕ) → a < n → m a a ≡ a) where
  -- Pairs in one order are all pairs.
  pair_twice : (a : ℕ) → a < n → Pair n m a a
  pair_twice a h =
      let e = idempotent a h in
      record { swapped = refl; value = rw e h; lower = λ c hc. ap (λ x. eqb (m x c) c) e ∙ sym (and_self (eqb (m a c) c)) }

  pair_swapped : (a b : ℕ) → Pair n m a b → Pair n m b a
  pair_swapped a b p =
      let e = sym p.swapped in
      record {
        swapped = e;
        value = rw e p.value;
        lower = λ c hc. ap (λ x. eqb (m x c) c) e ∙ p.lower c hc ∙ and_comm (eqb (m a c) c) (eqb (m b c) c);
      }

  all_pairs : ((a b : ℕ) → a < n → b < a → Pair n m a b) → (a b : ℕ) → a < n → b < n → Pair n m a b
  all_pairs pairs a b ha hb = go (trichotomy a b)
    where
      go : Trichotomy a b → Pair n m a b
      go (less h) = pair_swapped b a (pairs b a hb h)
      go (equal e) = subst (Pair n m a) e (pair_twice a ha)
      go (greater h) = pairs a b ha h

  module _ (pairs : (a b : ℕ) → a < n → b < n → Pair n m a b) where
    -- Values with the same values at or below them are equal.
    same_value : (x y : ℕ) → x < n → y < n → ((c : ℕ) → c < n → eqb (m x c) c ≡ eqb (m y c) c) → x ≡ y
    same_value x y hx hy same =
        let p : m y x ≡ x = eqb-true _ _ (sym (same x hx) ∙ eq-eqb _ _ (idempotent x hx)) in
        let q : m x y ≡ y = eqb-true _ _ (same y hy ∙ eq-eqb _ _ (idempotent y hy)) in
        sym p ∙ (pairs y x hy hx).swapped ∙ q

    -- Both groupings of three are the greatest value at or below all three.
    grouping_free : (a b c : ℕ) → a < n → b < n → c < n → m (m a b) c ≡ m a (m b c)
    grouping_free a b c ha hb hc =
        let ab = pairs a b ha hb in
        let bc = pairs b c hb hc in
        let left = pairs (m a b) c ab.value hc in
        let right = pairs a (m b c) ha bc.value in
        same_value (m (m a b) c) (m a (m b c)) left.value right.value
        (λ d hd.
        left.lower d hd
        ∙ ap (λ t. t && eqb (m c d) d) (ab.lower d hd)
        ∙ and_assoc (eqb (m a d) d) (eqb (m b d) d) (eqb (m c d) d)
        ∙ ap (λ t. eqb (m a d) d && t) (sym (bc.lower d hd))
        ∙ sym (right.lower d hd))

-- The pairs of a meet-semilattice pass.
module _ {n : ℕ} {m : ℕ → ℕ → ℕ} {top : ℕ} (laws : MeetSemilattice (Below n) m top) where
  below_left : (a b c : ℕ) → a < n → b < n → c < n → m (m a b) c ≡ c → m a c ≡ c
  below_left a b c ha hb hc e =
      ap (m a) (sym e)
      ∙ sym (laws.associative a (m a b) c ha (laws.meet_in a b ha hb) hc)
      ∙ ap (λ x. m x c) (sym (laws.associative a a b ha ha hb) ∙ ap (λ x. m x b) (laws.idempotent a ha))
      ∙ e

  pair_of_laws : (a b : ℕ) → a < n → b < n → Pair n m a b
  pair_of_laws a b ha hb =
      let e = laws.commutative a b ha hb in
      record {
        swapped = e;
        value = laws.meet_in a b ha hb;
        lower = λ c hc.
            same_test _ _
            (λ t.
            let below = eqb-true _ _ t in
            and_both (eq-eqb _ _ (below_left a b c ha hb hc below))
            (eq-eqb _ _ (below_left b a c hb ha hc (ap (λ x. m x c) (sym e) ∙ below))))
            (λ t.
            let p = eqb-true _ _ (and_left (eqb (m a c) c) _ t) in
            let q = eqb-true _ _ (and_right (eqb (m a c) c) _ t) in
            eq-eqb _ _ (laws.associative a b c ha hb hc ∙ ap (m a) q ∙ p));
      }

-- The test by sets decides the laws.
module _ (n : ℕ) (table : List ℕ) (top : ℕ) where
  laws_of_sets : lawful_by_sets n table top ≡ true → MeetSemilattice (Below n) (meet_at n table) top
  unfolding lawful_by_sets idempotent_test pairs_test neutral_test
  laws_of_sets t =
      let t1 = and_right (ltb top n) _ t in
      let t2 = and_right (idempotent_test n table) _ t1 in
      let idempotent : (a : ℕ) → a < n → meet_at n table a a ≡ a =
      λ a ha. eqb-true _ _ (every_at n _ (and_left (idempotent_test n table) _ t1) a ha) in
      let pairs = all_pairs n (meet_at n table) idempotent
      (λ a b ha hb. pair_of_test n table a b (every_at a _ (every_at n _ (and_left (pairs_test n table) _ t2) a ha) b hb)) in
      record {
        top_in = ltb-true _ _ (and_left (ltb top n) _ t);
        meet_in = λ a b ha hb. (pairs a b ha hb).value;
        idempotent = idempotent;
        commutative = λ a b ha hb. (pairs a b ha hb).swapped;
        associative = grouping_free n (meet_at n table) idempotent pairs;
        neutral = λ a ha. eqb-true _ _ (every_at n _ (and_right (pairs_test n table) _ t2) a ha);
      }

  sets_of_laws : MeetSemilattice (Below n) (meet_at n table) top → lawful_by_sets n table top ≡ true
  unfolding lawful_by_sets idempotent_test pairs_test neutral_test
  sets_of_laws laws =
      and_both (lt-ltb _ _ laws.top_in)
      (and_both (every_of n _ (λ a ha. eq-eqb _ _ (laws.idempotent a ha)))
      (and_both (every_of n _ (λ a ha. every_of a _ (λ b hb. test_of_pair n table a b (pair_of_laws laws a b ha (omega arith)))))
      (every_of n _ (λ a ha. eq-eqb _ _ (laws.neutral a ha)))))

pub lawful_by_sets_correct : LawfulBySetsClaim
lawful_by_sets_correct n table top =
    same_test _ _ (λ t. test_of_laws n table top (laws_of_sets n table top t)) (λ t. sets_of_laws n table top (laws_of_test n table top t))

-- How far the test of the table gets, by sets: once it is whole, the entries need no test of their own.
pub meet_test_sets :
    (values top : ℕ) (meet : List ℕ) → values_test values top ≡ true → length meet ≡ values * values →
    meet_test values top meet ≡ (idempotent_test values meet && (pairs_test values meet && neutral_test values meet top))
unfolding meet_test lawful_by_sets
meet_test_sets values top meet limits whole =
    rw (eq-eqb _ _ whole)
    (same_test (entries_test values meet && lawful values meet top) (lawful values meet top) (and_right (entries_test values meet) _)
    (λ t. and_both (entries_of_laws values top meet whole (laws_of_test values meet top t)) t)
    ∙ sym (lawful_by_sets_correct values meet top)
    ∙ rw (lt-ltb top values (top_below values top limits)))

-- The test of two values, as it is read from the stored sets.
pub lower_stored :
    {n : ℕ} {table sets : List ℕ} (a b : ℕ) {m : ℕ} → DownSets n table sets → m ≡ meet_at n table a b → a < n → b < n → m < n →
    eqb (get_or sets m 0) (bit_and (get_or sets a 0) (get_or sets b 0))
    ≡ eqb (down_set n table (meet_at n table a b)) (bit_and (down_set n table a) (down_set n table b))
lower_stored {n} {table} a b {m} stored e ha hb hm =
    ap₂ eqb (stored.each m hm ∙ ap (down_set n table) e) (ap₂ bit_and (stored.each a ha) (stored.each b hb))
