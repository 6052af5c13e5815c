-- Parts of a list, copies into it and padding.
use mathlib.Core.{Path.{◌≡◌, refl, sym, ◌∙◌, ap, ap₂, subst}, Bool.{Bool, true, false, cond}, List.{List, ◌∷◌, ◌++◌}}
use Prim.Native.Nat.{ℕ, zero, suc, ◌+◌, ◌*◌, ◌-◌, ◌≤◌, ◌<◌, min}
use native.Mathlib.{Nat.{mul-le-mul_right}, Numerals.{add-one}, Omega.{arith}}
use borrow.Author.Tests.{ltb-true, leb-true, leb-false}
use lib.Dec.{ltb, leb}
use lib.ListN.{length, get_or, set, take, drop, replicate, length-append, length-take, length-drop, length-replicate, get_or-append}
use lib.Seq.{paste, paste-suc, length-take-le, take_all, get_or-take, get_or-drop, ext_get_or}
use Rattle.limits.specs.Limits.{event_limit, table_limit, entry_limit}
use Rattle.formulas.specs.NodeArrays.{padded}
use Rattle.recorder.specs.Splicing.{part}
use Rattle.recorder.specs.Called.{filled}

pub length_part : (l : List ℕ) (at n : ℕ) → at + n ≤ length l → length (part l at n) ≡ n
length_part l at n h = simp (length-take, length-drop) (omega arith)

pub get_d_part : (l : List ℕ) (at n i : ℕ) → i < n → get_or (part l at n) i 0 ≡ get_or l (at + i) 0
get_d_part l at n i h = get_or-take n (drop at l) i 0 h ∙ get_or-drop at l i 0

pub drop_zeros : (m i : ℕ) → ◌≡◌ {A = List ℕ} (drop i (replicate m 0)) (replicate (m - i) 0)
drop_zeros m zero = let e : m ≡ m - zero = omega arith in ap (λ k. replicate k 0) e
drop_zeros zero (suc i) = let e : zero ≡ zero - suc i = omega arith in ap (λ k. replicate k 0) e
drop_zeros (suc m) (suc i) = let e : m - i ≡ suc m - suc i = omega arith in drop_zeros m i ∙ ap (λ k. replicate k 0) e

-- A list of at most n elements, brought to n.
module _ (n : ℕ) (l : List ℕ) (h : length l ≤ n) where
  pub length_filled : length (filled n l) ≡ n
  unfolding filled
  length_filled =
      length-append (take n l) (replicate (n - length l) 0)
      ∙ ap₂ ◌+◌ (ap length (take_all n l h)) (length-replicate {A = ℕ} (n - length l) 0) ∙ omega arith

  pub filled_at : (i : ℕ) → i < length l → get_or (filled n l) i 0 ≡ get_or l i 0
  unfolding filled
  filled_at i g =
      ap (λ x. get_or (x ++ replicate (n - length l) 0) i 0) (take_all n l h)
      ∙ get_or-append l (replicate (n - length l) 0) 0 i g

  pub take_filled : take (length l) (filled n l) ≡ l
  take_filled =
      let a : length (take (length l) (filled n l)) ≡ length l = length-take-le (length l) (filled n l) (omega (arith, length_filled)) in
      ext_get_or 0 (take (length l) (filled n l)) l a
      (λ i g. get_or-take (length l) (filled n l) i 0 (omega arith) ∙ filled_at i (omega arith))

-- The first elements over n zeros.
pub front_filled : (n : ℕ) (l : List ℕ) → take (min n (length l)) l ++ drop (min n (length l)) (replicate n 0) ≡ filled n l
unfolding filled
front_filled n l = go (leb n (length l)) refl
  where
    go : (b : Bool) → leb n (length l) ≡ b → take (min n (length l)) l ++ drop (min n (length l)) (replicate n 0) ≡ take n l ++ replicate (n - length l) 0
    go true p =
        let h = leb-true n (length l) p in
        let e : min n (length l) ≡ n = omega (arith, h) in
        let f : n - n ≡ n - length l = omega (arith, h) in
        ap (λ k. take k l ++ drop k (replicate n 0)) e ∙ ap (λ x. take n l ++ x) (drop_zeros n n ∙ ap (λ k. replicate k 0) f)
    go false p =
        let h = leb-false n (length l) p in
        let e : min n (length l) ≡ length l = omega (arith, h) in
        ap (λ k. take k l ++ drop k (replicate n 0)) e
        ∙ ap₂ (λ a b. a ++ b) (take_all (length l) l (omega arith) ∙ sym (take_all n l (omega (arith, h)))) (drop_zeros n (length l))

-- A turn of a copy to the front of a list.
pub paste_next :
    (d s : List ℕ) (i : ℕ) → i < length d → i < length s → set (paste d 0 s i) i (get_or s i 0) ≡ paste d 0 s (i + 1)
paste_next d s i h g =
    let z : 0 + i ≡ i = omega arith in
    subst (λ x. set (paste d 0 s i) x (get_or s i 0) ≡ paste d 0 s (suc i)) z (paste-suc d 0 s i 0 (omega arith) g)
    ∙ ap (paste d 0 s) (sym (add-one i))

-- A table's entries fit the rows.
pub entries_fit : (k n : ℕ) → k ≤ table_limit → n ≤ event_limit → k * n ≤ entry_limit
entries_fit k n h g = omega (arith, mul-le-mul_right n h)

-- Padding with the same numbers.
pub same_padded : (f g : ℕ → ℕ) (count : ℕ) → ((x : ℕ) → x < count → f x ≡ g x) → (left i : ℕ) → padded f count left i ≡ padded g count left i
unfolding padded
same_padded f g count h zero i = refl
same_padded f g count h (suc left) i = ap₂ (λ x l. x ∷ l) (cell (ltb i count) refl) (same_padded f g count h left (suc i))
  where
    cell : (t : Bool) → ltb i count ≡ t → cond t (f i) 0 ≡ cond t (g i) 0
    cell true e = h i (ltb-true i count e)
    cell false e = refl
