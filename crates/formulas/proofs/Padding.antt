-- A list that is filled from the front with zeros beyond.
use mathlib.Core.{Path.{◌≡◌, refl, sym, ◌∙◌, ap, ap₂}, Bool.{cond}, List.{◌∷◌}}
use Prim.Native.Nat.{ℕ, zero, suc, ◌+◌, ◌≤◌, ◌<◌}
use native.Mathlib.{Nat.{add-zero}, Omega.{arith}}
use lib.ListN.{length, get_or, set, replicate}
use borrow.Author.Tests.{lt-ltb, le-ltb}
use Rattle.formulas.specs.NodeArrays.{padded}

module _ (f : ℕ → ℕ) where
  pub padded_length : (count left i : ℕ) → length (padded f count left i) ≡ left
  unfolding padded
  padded_length count zero i = refl
  padded_length count (suc left) i = ap suc (padded_length count left (suc i))

  -- Nothing filled in: zeros.
  pub padded_none : (left i : ℕ) → padded f 0 left i ≡ replicate left 0
  unfolding padded
  padded_none zero i = refl
  padded_none (suc left) i = ap₂ (λ b l. cond b (f i) 0 ∷ l) (le-ltb i 0 (omega arith)) (padded_none left (suc i))

  -- From a place on where nothing is filled in, the count does not matter.
  padded_later : (count left i : ℕ) → count < i → padded f (suc count) left i ≡ padded f count left i
  unfolding padded
  padded_later count zero i h = refl
  padded_later count (suc left) i h =
      ap₂ (λ b l. cond b (f i) 0 ∷ l) (le-ltb i (suc count) (omega arith) ∙ sym (le-ltb i count (omega arith))) (padded_later count left (suc i) (omega arith))

  -- One more is filled in.
  padded_store : (k left i : ℕ) → k < left → set (padded f (i + k) left i) k (f (i + k)) ≡ padded f (suc (i + k)) left i
  unfolding padded
  padded_store k zero i h = absurd (omega arith)
  padded_store zero (suc left) i h =
      ap₂ (λ x l. x ∷ l)
      (ap f (add-zero i) ∙ sym (ap (λ b. cond b (f i) 0) (lt-ltb i (suc (i + 0)) (omega arith))))
      (sym (padded_later (i + 0) left (suc i) (omega arith)))
  padded_store (suc k) (suc left) i h =
      let e : suc i + k ≡ i + suc k = omega arith in
      ap₂ (λ b l. cond b (f i) 0 ∷ l)
      (lt-ltb i (i + suc k) (omega arith) ∙ sym (lt-ltb i (suc (i + suc k)) (omega arith)))
      (ap (λ n. set (padded f n left (suc i)) k (f n)) (sym e) ∙ padded_store k left (suc i) (omega arith) ∙ ap (λ n. padded f (suc n) left (suc i)) e)

  pub padded_more : (n i : ℕ) → i < n → set (padded f i n 0) i (f i) ≡ padded f (i + 1) n 0
  padded_more n i h =
      let e : 0 + i ≡ i = omega arith in
      let d : suc (0 + i) ≡ i + 1 = omega arith in
      ap (λ x. set (padded f x n 0) i (f x)) (sym e) ∙ padded_store i n 0 h ∙ ap (λ x. padded f x n 0) d

  -- Its elements.
  padded_at : (count left i j : ℕ) → j < left → i + j < count → get_or (padded f count left i) j 0 ≡ f (i + j)
  unfolding padded
  padded_at count zero i j h l = absurd (omega arith)
  padded_at count (suc left) i zero h l =
      ap (λ b. cond b (f i) 0) (lt-ltb i count (omega arith)) ∙ ap f (sym (add-zero i))
  padded_at count (suc left) i (suc j) h l =
      let e : suc i + j ≡ i + suc j = omega arith in
      padded_at count left (suc i) j (omega arith) (omega arith) ∙ ap f e

  pub padded_field : (count n i : ℕ) → i < count → count ≤ n → get_or (padded f count n 0) i 0 ≡ f i
  padded_field count n i h l =
      let e : 0 + i ≡ i = omega arith in
      padded_at count n 0 i (omega arith) (omega arith) ∙ ap f e
