-- The shift: after channel c's rows are replaced, every other channel holds what it held, and c holds the new table.
use mathlib.Core.{Path.{◌≡◌, refl, sym, ◌∙◌, ap, ap₂, subst}, Bool.{Bool, true, false, ◌&&◌, cond}, Logic.{⊎_elim}, List.{List}}
use mathlib.Core.Option.{Option, none, some}
use Prim.Native.Nat.{ℕ, ◌+◌, ◌*◌, ◌≤◌, ◌<◌}
use native.Mathlib.{Nat.{eq-or-lt_of_le}, Omega.{arith}}
use borrow.Author.Tests.{ltb-true, ltb-false}
use lib.{Dec.{ltb}, ListN.{length, get_or, set}, Seq.{get_or-set_same, get_or-set_other, take-length}}
use Rattle.limits.specs.Limits.{channel_limit, event_limit, row_limit, store_limit}
use Rattle.channel_log.specs.Calls.{Loaded}
use Rattle.recorder.specs.Store.{rows_start, loaded_at, held}
use Rattle.recorder.specs.Splicing.{part, row_count, own_entries, later_entries, replaced}
use Rattle.recorder.proofs.RowTotals.{old_fits, new_fits, between, old_start, new_start, between_within, front_start, own_start, front_within}
use Rattle.recorder.proofs.Splices.{spliced_length, spliced_front, spliced_new, spliced_later}
use Rattle.recorder.proofs.Held.{held_some, held_empty}

-- Tables go by the entries that they are made of.
pub same_held :
    (c n k q total at to : ℕ) (A B C D : List ℕ) → (c < channel_limit → part A at (k * n) ≡ part C to (k * n)) →
    (c < channel_limit → part B at (k * n) ≡ part D to (k * n)) → held c at n k q total A B ≡ held c to n k q total C D
unfolding held
same_held c n k q total at to A B C D e f = go (ltb c channel_limit) refl (ltb 0 k)
  where
    go :
        (i : Bool) → ltb c channel_limit ≡ i → (b : Bool) →
        cond (i && b) (some (loaded_at at n k q total A B)) none ≡ cond (i && b) (some (loaded_at to n k q total C D)) none
    go true p true =
        ap₂
        (λ v w.
        some
        (record {
          states = k;
          table = record { value = λ l e. get_or v (l * n + e) 0; next = λ l e. get_or w (l * n + e) 0 };
          current = q;
          total = total;
        }))
        (e (ltb-true c channel_limit p)) (f (ltb-true c channel_limit p))
    go true p false = refl
    go false p b = refl

module _ (n : ℕ) (states : List ℕ) (c k : ℕ) (few_events : n ≤ event_limit) (inside : c < channel_limit) (counts : length states ≡ channel_limit)
    (fits : row_count states ≤ row_limit) (new_fit : row_count (set states c k) ≤ row_limit) where
  here : c < length states
  here = omega arith

  -- One array.
  module _ (rows new : List ℕ) (sized : length rows ≡ store_limit) (entries : length new ≡ k * n) where
    abbrev after : List ℕ
    after = replaced n states c new rows

    abbrev at : ℕ
    at = rows_start n states c

    fit : at + length new + later_entries n states c ≤ store_limit
    fit = subst (λ x. at + x + later_entries n states c ≤ store_limit) (sym entries) (new_fits n states c few_events inside k here new_fit)

    room : at + own_entries n states c + later_entries n states c ≤ store_limit
    room = old_fits n states c few_events inside fits

    pub replaced_length : length after ≡ store_limit
    replaced_length = spliced_length rows new at (own_entries n states c) (later_entries n states c) sized room fit

    pub own_part : part after (rows_start n (set states c k) c) (k * n) ≡ new
    own_part =
        ap₂ (λ a m. part after a m) (own_start n states c few_events inside k here) (sym entries)
        ∙ spliced_new rows new at (own_entries n states c) (later_entries n states c) sized room fit

    abbrev Kept : ℕ → Type 0
    Kept d = part after (rows_start n (set states c k) d) (own_entries n states d) ≡ part rows (rows_start n states d) (own_entries n states d)

    front_part : (d : ℕ) → d < c → Kept d
    front_part d l =
        ap (λ a. part after a (own_entries n states d)) (front_start n states c few_events inside k here d l)
        ∙ spliced_front rows new at (own_entries n states c) (later_entries n states c) sized room fit (rows_start n states d) (own_entries n states d)
        (front_within n states c few_events inside k here d l)

    behind_part : (d : ℕ) → c < d → d < channel_limit → Kept d
    behind_part d l i =
        let x = between n states c few_events inside k here d l in
        let m = own_entries n states d in
        ap (λ a. part after a m) (new_start n states c few_events inside k here d l ∙ ap (λ y. at + y + x) (sym entries))
        ∙ spliced_later rows new at (own_entries n states c) (later_entries n states c) sized room fit x m
        (between_within n states c few_events inside k here d l i)
        ∙ ap (λ a. part rows a m) (sym (old_start n states c few_events inside k here d l))

    pub other_part : (d : ℕ) → (d ≡ c → ⊥) → d < channel_limit → Kept d
    other_part d e i = go (ltb d c) refl
      where
        go : (t : Bool) → ltb d c ≡ t → Kept d
        go true p = front_part d (ltb-true d c p)
        go false p = behind_part d (⊎_elim (λ z. absurd (e (sym z))) (λ l. l) (eq-or-lt_of_le (ltb-false d c p))) i

  -- Both arrays, with the counts, the current states and the totals.
  module _ (current total value next new_values new_nexts : List ℕ) (current_length : length current ≡ channel_limit)
      (total_length : length total ≡ channel_limit) (value_length : length value ≡ store_limit) (next_length : length next ≡ store_limit)
      (values_length : length new_values ≡ k * n) (nexts_length : length new_nexts ≡ k * n) where
    abbrev A : List ℕ
    A = replaced n states c new_values value

    abbrev B : List ℕ
    B = replaced n states c new_nexts next

    abbrev held_in : List ℕ → List ℕ → List ℕ → List ℕ → List ℕ → ℕ → Option (Loaded ℕ)
    held_in ss qs ts vs ns d = held d (rows_start n ss d) n (get_or ss d 0) (get_or qs d 0) (get_or ts d 0) vs ns

    abbrev held_after : ℕ → Option (Loaded ℕ)
    held_after = held_in (set states c k) (set current c 0) (set total c 0) A B

    pub held_other : (d : ℕ) → (d ≡ c → ⊥) → held_after d ≡ held_in states current total value next d
    held_other d e =
        ap₂ (λ j q. held d (rows_start n (set states c k) d) n j q (get_or (set total c 0) d 0) A B) (get_or-set_other states c d k 0 e)
        (get_or-set_other current c d 0 0 e)
        ∙ ap (λ p. held d (rows_start n (set states c k) d) n (get_or states d 0) (get_or current d 0) p A B) (get_or-set_other total c d 0 0 e)
        ∙ same_held d n (get_or states d 0) (get_or current d 0) (get_or total d 0) (rows_start n (set states c k) d) (rows_start n states d) A B value next
        (other_part value new_values value_length values_length d e) (other_part next new_nexts next_length nexts_length d e)

    held_own : held_after c ≡ held c 0 n k 0 0 new_values new_nexts
    held_own =
        ap₂ (λ j q. held c (rows_start n (set states c k) c) n j q (get_or (set total c 0) c 0) A B) (get_or-set_same states c k 0 here)
        (get_or-set_same current c 0 0 (omega arith))
        ∙ ap (λ p. held c (rows_start n (set states c k) c) n k 0 p A B) (get_or-set_same total c 0 0 (omega arith))
        ∙ same_held c n k 0 0 (rows_start n (set states c k) c) 0 A B new_values new_nexts
        (λ l. own_part value new_values value_length values_length ∙ sym (whole new_values values_length))
        (λ l. own_part next new_nexts next_length nexts_length ∙ sym (whole new_nexts nexts_length))
      where
        whole : (l : List ℕ) → length l ≡ k * n → part l 0 (k * n) ≡ l
        whole l e = ap (λ m. part l 0 m) (sym e) ∙ take-length l

    -- A load.
    pub held_loaded : 0 < k → held_after c ≡ some (loaded_at 0 n k 0 0 new_values new_nexts)
    held_loaded h = held_own ∙ held_some c 0 n k 0 0 new_values new_nexts inside h

    -- A clear.
    pub held_cleared : k ≡ 0 → held_after c ≡ none
    held_cleared h = held_own ∙ held_empty c 0 n k 0 0 new_values new_nexts h
