-- The store after a splice: what lies before, the new entries, and the later ones at their new place.
use mathlib.Core.{Path.{◌≡◌, sym, ◌∙◌, ap, ap₂}, List.{List, [], ◌∷◌, ◌++◌}}
use Prim.Native.Nat.{ℕ, zero, suc, ◌+◌, ◌-◌, ◌≤◌}
use native.Mathlib.{Nat.{zero-add, suc-add}, Omega.{arith}}
use lib.ListN.{length, take, drop, replicate, length-append, length-drop, length-replicate}
use lib.Seq.{length-take-le, take-length, take-nil, take-take, drop-drop, drop_at, take-append-le, drop-append-le, drop-append-add}
use Rattle.limits.specs.Limits.{store_limit}
use Rattle.recorder.specs.Splicing.{part, spliced}
use Rattle.recorder.proofs.Rows.{length_part}

-- A part of a front.
pub part_front : (xs ys : List ℕ) (b m : ℕ) → b + m ≤ length xs → part (xs ++ ys) b m ≡ part xs b m
part_front xs ys b m h =
    ap (take m) (drop-append-le b xs ys (omega arith))
    ∙ take-append-le m (drop b xs) ys (omega (arith, length-drop b xs))

drop_take : (b k : ℕ) (l : List ℕ) → drop b (take (b + k) l) ≡ take k (drop b l)
drop_take zero k l = ap (λ x. take x l) (zero-add k)
drop_take (suc b) k [] = ap (λ x. drop (suc b) (take {A = ℕ} x [])) (suc-add b k) ∙ sym (take-nil k)
drop_take (suc b) k (x ∷ xs) = ap (λ y. drop (suc b) (take y (x ∷ xs))) (suc-add b k) ∙ drop_take b k xs

pub part_take : (l : List ℕ) (a b m : ℕ) → b + m ≤ a → part (take a l) b m ≡ part l b m
part_take l a b m h =
    let e : a ≡ b + (a - b) = omega arith in
    ap (λ x. take m (drop b (take x l))) e ∙ ap (take m) (drop_take b (a - b) l) ∙ take-take m (a - b) (drop b l) (omega arith)

-- A part of a part.
pub part_part : (l : List ℕ) (at n b m : ℕ) → b + m ≤ n → part (part l at n) b m ≡ part l (at + b) m
part_part l at n b m h = part_take (drop at l) n b m h ∙ ap (take m) (drop-drop b at l)

module _ (rows new : List ℕ) (at old later : ℕ) (sized : length rows ≡ store_limit) (old_fits : at + old + later ≤ store_limit)
    (new_fits : at + length new + later ≤ store_limit) where
  abbrev zeros : List ℕ
  zeros = replicate (store_limit - (at + length new + later)) 0

  abbrev moved : List ℕ
  moved = part rows (at + old) later

  front_length : length (take at rows) ≡ at
  front_length = length-take-le at rows (omega arith)

  head_length : length (take at rows ++ new) ≡ at + length new
  head_length = length-append (take at rows) new ∙ ap (λ x. x + length new) front_length

  moved_length : length moved ≡ later
  moved_length = length_part rows (at + old) later (omega arith)

  body_length : length (take at rows ++ new ++ moved) ≡ at + length new + later
  body_length = length-append (take at rows ++ new) moved ∙ ap₂ ◌+◌ head_length moved_length

  pub spliced_length : length (spliced rows at old new later) ≡ store_limit
  unfolding spliced
  spliced_length =
      length-append (take at rows ++ new ++ moved) zeros
      ∙ ap₂ ◌+◌ body_length (length-replicate {A = ℕ} (store_limit - (at + length new + later)) 0) ∙ omega arith

  -- What lies before stays.
  pub spliced_front : (b m : ℕ) → b + m ≤ at → part (spliced rows at old new later) b m ≡ part rows b m
  unfolding spliced
  spliced_front b m h =
      part_front (take at rows ++ new ++ moved) zeros b m (omega (arith, body_length))
      ∙ part_front (take at rows ++ new) moved b m (omega (arith, head_length))
      ∙ part_front (take at rows) new b m (omega (arith, front_length))
      ∙ part_take rows at b m h

  -- The new entries.
  pub spliced_new : part (spliced rows at old new later) at (length new) ≡ new
  unfolding spliced
  spliced_new =
      part_front (take at rows ++ new ++ moved) zeros at (length new) (omega (arith, body_length))
      ∙ part_front (take at rows ++ new) moved at (length new) (omega (arith, head_length))
      ∙ ap (take (length new)) (drop_at (take at rows) new at front_length)
      ∙ take-length new

  -- The later ones, behind the new.
  pub spliced_later :
      (b m : ℕ) → b + m ≤ later → part (spliced rows at old new later) (at + length new + b) m ≡ part rows (at + old + b) m
  unfolding spliced
  spliced_later b m h =
      part_front (take at rows ++ new ++ moved) zeros (at + length new + b) m (omega (arith, body_length))
      ∙ ap (λ x. part (take at rows ++ new ++ moved) (x + b) m) (sym head_length)
      ∙ ap (take m) (drop-append-add (take at rows ++ new) moved b)
      ∙ part_part rows (at + old) later b m h
