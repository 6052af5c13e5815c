-- Sums of counts of rows, one of them changed; where the rows of channels start and end.
use mathlib.Core.{Path.{◌≡◌, refl, sym, ◌∙◌, ap, ap₂, subst}, Logic.{⊎_elim}, List.{List}}
use Prim.Native.Nat.{ℕ, zero, suc, ◌+◌, ◌*◌, ◌-◌, ◌≤◌, ◌<◌}
use native.Mathlib.{Nat.{add-mul, mul-le-mul, mul-le-mul_right, eq-or-lt_of_le, le_of_suc-le-suc}, Omega.{arith}}
use lib.{ListN.{length, get_or, set}, Seq.{get_or-set_same, get_or-set_other}}
use Rattle.limits.specs.Limits.{channel_limit, event_limit, row_limit, store_limit}
use Rattle.channel_log.specs.Rows.{sum_below}
use Rattle.recorder.specs.Store.{rows_start}
use Rattle.recorder.specs.Splicing.{rows_before, row_count, own_entries, later_entries}

pub sum_same : (n : ℕ) (f g : ℕ → ℕ) → ((i : ℕ) → i < n → f i ≡ g i) → sum_below n f ≡ sum_below n g
unfolding sum_below
sum_same zero f g h = refl
sum_same (suc n) f g h = ap₂ ◌+◌ (sum_same n f g (λ i l. h i (omega arith))) (h n (omega arith))

pub before_none : (states : List ℕ) → rows_before states 0 ≡ 0
unfolding sum_below
before_none states = refl

pub before_next : (states : List ℕ) (d : ℕ) → rows_before states (suc d) ≡ rows_before states d + get_or states d 0
unfolding sum_below
before_next states d = refl

-- A list of counts, and one of them changed.
module _ (states : List ℕ) where
  abbrev F : ℕ → ℕ
  F = rows_before states

  pub before_rises : (d e : ℕ) → d ≤ e → F d ≤ F e
  before_rises d zero h = let z : d ≡ 0 = omega arith in subst (λ x. F x ≤ F 0) (sym z) (omega arith)
  before_rises d (suc e) h =
      ⊎_elim (λ z. subst (λ x. F x ≤ F (suc e)) (sym z) (omega arith))
      (λ l. omega (arith, before_rises d e (le_of_suc-le-suc l), before_next states e)) (eq-or-lt_of_le h)

  module _ (c k : ℕ) where
    abbrev G : ℕ → ℕ
    G = rows_before (set states c k)

    pub before_same : (d : ℕ) → d ≤ c → G d ≡ F d
    unfolding sum_below
    before_same d h =
        sum_same d (λ i. get_or (set states c k) i 0) (λ i. get_or states i 0)
        (λ i l. get_or-set_other states c i k 0 (λ e. omega arith))

    -- Channels behind c start later by the new count, earlier by the old.
    pub before_moved : c < length states → (d : ℕ) → c < d → G d + get_or states c 0 ≡ F d + k
    before_moved i zero h = absurd (omega arith)
    before_moved i (suc d) h = ⊎_elim at_own (λ l. behind l (before_moved i d l)) (eq-or-lt_of_le (le_of_suc-le-suc h))
      where
        at_own : c ≡ d → G (suc d) + get_or states c 0 ≡ F (suc d) + k
        at_own e =
            let a : G d ≡ F d = before_same d (omega arith) in
            let b : get_or (set states c k) d 0 ≡ k = subst (λ x. get_or (set states c k) x 0 ≡ k) e (get_or-set_same states c k 0 i) in
            let o : get_or states c 0 ≡ get_or states d 0 = ap (λ x. get_or states x 0) e in
            omega (arith, before_next (set states c k) d, before_next states d)

        behind : c < d → G d + get_or states c 0 ≡ F d + k → G (suc d) + get_or states c 0 ≡ F (suc d) + k
        behind l e =
            let b : get_or (set states c k) d 0 ≡ get_or states d 0 = get_or-set_other states c d k 0 (λ z. omega arith) in
            omega (arith, before_next (set states c k) d, before_next states d)

-- A channel's own rows are among all; with k in their place.
module _ (states : List ℕ) (c : ℕ) (inside : c < channel_limit) where
  pub own_in_all : get_or states c 0 ≤ row_count states
  own_in_all = omega (arith, before_next states c, before_rises states (suc c) channel_limit inside)

  pub others_and : (k : ℕ) → c < length states → row_count states - get_or states c 0 + k ≡ row_count (set states c k)
  others_and k h = omega (arith, own_in_all, before_moved states c k h channel_limit inside)

-- In entries, for rows of n events: what a store of at most so many rows has room for.
module _ (n : ℕ) (states : List ℕ) (c : ℕ) (few_events : n ≤ event_limit) (inside : c < channel_limit) where
  abbrev at : ℕ
  at = rows_start n states c

  abbrev old : ℕ
  old = own_entries n states c

  abbrev later : ℕ
  later = later_entries n states c

  times : (a b x : ℕ) → a + b + x ≤ row_limit → a * n + b * n + x * n ≤ store_limit
  times a b x h = omega (arith, add-mul a b n, add-mul (a + b) x n, mul-le-mul h few_events)

  own_within : row_count states ≡ rows_before states c + get_or states c 0 + (row_count states - rows_before states (suc c))
  own_within = omega (arith, before_next states c, before_rises states (suc c) channel_limit (omega arith))

  pub old_fits : row_count states ≤ row_limit → at + old + later ≤ store_limit
  unfolding rows_start
  old_fits h = times (rows_before states c) (get_or states c 0) (row_count states - rows_before states (suc c)) (omega (arith, own_within))

  module _ (k : ℕ) (sized : c < length states) where
    new_within : row_count (set states c k) ≡ rows_before states c + k + (row_count states - rows_before states (suc c))
    new_within = omega (arith, own_within, before_moved states c k sized channel_limit inside)

    pub new_fits : row_count (set states c k) ≤ row_limit → at + k * n + later ≤ store_limit
    unfolding rows_start
    new_fits h = times (rows_before states c) k (row_count states - rows_before states (suc c)) (omega (arith, new_within))

    -- Of a channel behind c: the entries between, which stay.
    module _ (d : ℕ) (behind : c < d) where
      abbrev pub between : ℕ
      between = (rows_before states d - rows_before states (suc c)) * n

      pub old_start : rows_start n states d ≡ at + old + between
      unfolding rows_start
      old_start =
          let x = rows_before states d - rows_before states (suc c) in
          let e : rows_before states d ≡ rows_before states c + get_or states c 0 + x =
          omega (arith, before_next states c, before_rises states (suc c) d behind) in
          ap (λ r. r * n) e ∙ add-mul (rows_before states c + get_or states c 0) x n ∙ ap (λ r. r + x * n)
          (add-mul (rows_before states c) (get_or states c 0) n)

      pub new_start : rows_start n (set states c k) d ≡ at + k * n + between
      unfolding rows_start
      new_start =
          let x = rows_before states d - rows_before states (suc c) in
          let e : rows_before (set states c k) d ≡ rows_before states c + k + x =
          omega (arith, before_next states c, before_rises states (suc c) d behind, before_moved states c k sized d behind) in
          ap (λ r. r * n) e ∙ add-mul (rows_before states c + k) x n ∙ ap (λ r. r + x * n) (add-mul (rows_before states c) k n)

      pub between_within : d < channel_limit → between + own_entries n states d ≤ later
      between_within l =
          let x = rows_before states d - rows_before states (suc c) in
          let e : x + get_or states d 0 ≤ row_count states - rows_before states (suc c) =
          omega (arith, before_next states d, before_rises states (suc d) channel_limit l, before_rises states (suc c) d behind) in
          subst (λ r. r ≤ later) (add-mul x (get_or states d 0) n) (mul-le-mul_right n e)

    -- Of a channel before c: it starts where it started and ends before c.
    pub front_start : (d : ℕ) → d < c → rows_start n (set states c k) d ≡ rows_start n states d
    unfolding rows_start
    front_start d l = ap (λ r. r * n) (before_same states c k d (omega arith))

    pub own_start : rows_start n (set states c k) c ≡ at
    unfolding rows_start
    own_start = ap (λ r. r * n) (before_same states c k c (omega arith))

    pub front_within : (d : ℕ) → d < c → rows_start n states d + own_entries n states d ≤ at
    unfolding rows_start
    front_within d l =
        let e : rows_before states d + get_or states d 0 ≤ rows_before states c = omega (arith, before_next states d, before_rises states (suc d) c l) in
        subst (λ r. r ≤ at) (add-mul (rows_before states d) (get_or states d 0) n) (mul-le-mul_right n e)
