-- Counting by lists: a list of different elements, all of them in another list, is no longer than that list.
-- No test of equality is asked for.
use mathlib.Core.{Path.{◌≡◌, refl, sym, ◌∙◌, ap, subst}, Logic.{⊎_elim}}
use mathlib.Core.List.{List, [], ◌∷◌, ◌++◌, Memᴰ}
use Prim.Native.Nat.{ℕ, zero, suc, ◌≤◌, ◌<◌, zero-le, suc-le-suc}
use native.Mathlib.{Nat.{le_of_suc-le-suc, not-suc-le-zero, eq-or-lt_of_le, suc_inj}, Omega.{arith}}
use lib.ListN.{length, get_or}

module _ {A : Type 0} where
  -- No element stands twice.
  abbrev pub Distinct : List A → Type 0
  Distinct [] = Unit {0}
  Distinct (x ∷ xs) = (Memᴰ x xs → ⊥) × Distinct xs

  -- The list without one occurrence.
  without : {x : A} (ys : List A) → Memᴰ x ys → List A
  without [] i = elim i [ ]
  without (y ∷ ys) (mathlib.Core.List.Memᴰ.head e) = ys
  without (y ∷ ys) (mathlib.Core.List.Memᴰ.tail i) = y ∷ without ys i

  length_without : {x : A} (ys : List A) (i : Memᴰ x ys) → length ys ≡ suc (length (without ys i))
  unfolding without
  length_without [] i = elim i [ ]
  length_without (y ∷ ys) (mathlib.Core.List.Memᴰ.head e) = refl
  length_without (y ∷ ys) (mathlib.Core.List.Memᴰ.tail i) = ap suc (length_without ys i)

  -- Another element stays.
  stays : {x z : A} (ys : List A) (i : Memᴰ x ys) → (z ≡ x → ⊥) → Memᴰ z ys → Memᴰ z (without ys i)
  unfolding without
  stays [] i d j = elim i [ ]
  stays (y ∷ ys) (mathlib.Core.List.Memᴰ.head e) d (mathlib.Core.List.Memᴰ.head f) = absurd (d (f ∙ sym e))
  stays (y ∷ ys) (mathlib.Core.List.Memᴰ.head e) d (mathlib.Core.List.Memᴰ.tail j) = j
  stays (y ∷ ys) (mathlib.Core.List.Memᴰ.tail i) d (mathlib.Core.List.Memᴰ.head f) = mathlib.Core.List.Memᴰ.head f
  stays (y ∷ ys) (mathlib.Core.List.Memᴰ.tail i) d (mathlib.Core.List.Memᴰ.tail j) = mathlib.Core.List.Memᴰ.tail (stays ys i d j)

  -- The pigeonhole principle.
  pub distinct_length :
      (xs ys : List A) → Distinct xs → ((z : A) → Memᴰ z xs → Memᴰ z ys) → length xs ≤ length ys
  distinct_length [] ys d h = zero-le
  distinct_length (x ∷ xs) ys d h =
      let i : Memᴰ x ys = h x (mathlib.Core.List.Memᴰ.head refl) in
      let r : length xs ≤ length (without ys i) =
      distinct_length xs (without ys i) d.1
      (λ z j. stays ys i (λ e. d.0 (subst (λ y. Memᴰ y xs) e j)) (h z (mathlib.Core.List.Memᴰ.tail j))) in
      omega (arith, length_without ys i)

  pub distinct_append :
      (xs ys : List A) → Distinct xs → Distinct ys → ((z : A) → Memᴰ z xs → Memᴰ z ys → ⊥) → Distinct (xs ++ ys)
  distinct_append [] ys d c h = c
  distinct_append (x ∷ xs) ys d c h = (
    (λ i. ⊎_elim d.0 (h x (mathlib.Core.List.Memᴰ.head refl)) (mathlib.Core.List.Memᴰ.append_cases xs i)),
    distinct_append xs ys d.1 c (λ z i. h z (mathlib.Core.List.Memᴰ.tail i)),
  )

  -- Elements by their number.
  pub member_at : (xs : List A) (d : A) (l : ℕ) → l < length xs → Memᴰ (get_or xs l d) xs
  member_at [] d l h = absurd (not-suc-le-zero h)
  member_at (x ∷ xs) d zero h = mathlib.Core.List.Memᴰ.head refl
  member_at (x ∷ xs) d (suc l) h = mathlib.Core.List.Memᴰ.tail (member_at xs d l (le_of_suc-le-suc h))

  pub number_of :
      (xs : List A) (d : A) {z : A} → Memᴰ z xs → (l : ℕ) × (l < length xs) × (z ≡ get_or xs l d)
  number_of [] d i = elim i [ ]
  number_of (x ∷ xs) d (mathlib.Core.List.Memᴰ.head e) = (zero, suc-le-suc zero-le, e)
  number_of (x ∷ xs) d (mathlib.Core.List.Memᴰ.tail i) = let r = number_of xs d i in (suc r.0, suc-le-suc r.1, r.2)

  pub distinct_by_number :
      (xs : List A) (d : A) → ((j l : ℕ) → j < l → l < length xs → ¬ (get_or xs j d ≡ get_or xs l d)) → Distinct xs
  distinct_by_number [] d h = tt
  distinct_by_number (x ∷ xs) d h = (
    (λ i. let r = number_of xs d i in h zero (suc r.0) (suc-le-suc zero-le) (suc-le-suc r.1) r.2),
    distinct_by_number xs d (λ j l u v. h (suc j) (suc l) (suc-le-suc u) (suc-le-suc v)),
  )

-- The numbers below n.
numbers : ℕ → List ℕ
numbers zero = []
numbers (suc n) = n ∷ numbers n

length_numbers : (n : ℕ) → length (numbers n) ≡ n
unfolding numbers
length_numbers zero = refl
length_numbers (suc n) = ap suc (length_numbers n)

in_numbers : (n t : ℕ) → t < n → Memᴰ t (numbers n)
unfolding numbers
in_numbers zero t h = absurd (not-suc-le-zero h)
in_numbers (suc n) t h =
    ⊎_elim (λ e. mathlib.Core.List.Memᴰ.head (suc_inj e)) (λ l. mathlib.Core.List.Memᴰ.tail (in_numbers n t (le_of_suc-le-suc l)))
    (eq-or-lt_of_le h)

-- Different numbers below n are at most n.
pub distinct_below :
    (n : ℕ) (xs : List ℕ) → Distinct xs → ((t : ℕ) → Memᴰ t xs → t < n) → length xs ≤ n
distinct_below n xs d h =
    omega (arith, length_numbers n, distinct_length xs (numbers n) d (λ t i. in_numbers n t (h t i)))
