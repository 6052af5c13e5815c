-- The rows of channels, as what they hold has them and as the counts of states do.
use mathlib.Core.{Path.{◌≡◌, refl, sym, ◌∙◌, ap, subst⁻¹}, Bool.{Bool, true, false, ◌&&◌, cond}, List.{List}, Option.{none, some}}
use Prim.Native.Nat.{ℕ, ◌+◌, ◌*◌, ◌≤◌, ◌<◌}
use native.Mathlib.Omega.{arith}
use borrow.Author.Tests.{lt-ltb, ltb-false, eqb-true, eqb-false}
use lib.{Dec.{ltb, eqb}, ListN.{length, get_or, set}, Seq.{get_or-set_same, get_or-set_other}}
use Rattle.limits.specs.Limits.{channel_limit, event_limit, row_limit, store_limit}
use Rattle.channel_log.specs.Calls.{Loaded, map_option}
use Rattle.channel_log.specs.Rows.{rows_in, all_rows, other_rows}
use Rattle.recorder.specs.Store.{Store, rows_start, loaded_at, held, rows}
use Rattle.recorder.specs.Splicing.{row_count}
use Rattle.recorder.proofs.RowTotals.{sum_same, before_moved, old_fits}

rows_held : (c at n k q total : ℕ) (L N : List ℕ) → c < channel_limit → rows_in (map_option (λ (x : Loaded ℕ). x.states) (held c at n k q total L N)) ≡ k
unfolding held
rows_held c at n k q total L N h =
    ap (λ i. rows_in (map_option (λ (x : Loaded ℕ). x.states) (cond (i && ltb 0 k) (some (loaded_at at n k q total L N)) none)))
    (lt-ltb c channel_limit h)
    ∙ go (ltb 0 k) refl
  where
    go : (b : Bool) → ltb 0 k ≡ b → rows_in (map_option (λ (x : Loaded ℕ). x.states) (cond b (some (loaded_at at n k q total L N)) none)) ≡ k
    go true p = refl
    go false p = omega (arith, ltb-false 0 k p)

-- Where channel c of a store starts.
abbrev pub start : Store → ℕ → ℕ
start t c = rows_start t.setup.events t.states c

module _ (t : Store) where
  rows_are : (c : ℕ) → c < channel_limit → rows_in (rows t c) ≡ get_or t.states c 0
  rows_are c h =
      rows_held c (start t c) t.setup.events (get_or t.states c 0) (get_or t.current c 0) (get_or t.total c 0) t.value t.next h

  pub all_rows_are : all_rows (rows t) ≡ row_count t.states
  unfolding all_rows
  all_rows_are = sum_same channel_limit (λ d. rows_in (rows t d)) (λ d. get_or t.states d 0) rows_are

  module _ (c : ℕ) (inside : c < channel_limit) (counts : length t.states ≡ channel_limit) where
    each : (d : ℕ) → d < channel_limit → rows_in (cond (eqb d c) none (rows t d)) ≡ get_or (set t.states c 0) d 0
    each d h = go (eqb d c) refl
      where
        go : (b : Bool) → eqb d c ≡ b → rows_in (cond b none (rows t d)) ≡ get_or (set t.states c 0) d 0
        go true e = subst⁻¹ (λ d. 0 ≡ get_or (set t.states c 0) d 0) (eqb-true d c e) (sym (get_or-set_same t.states c 0 0 (omega arith)))
        go false e = rows_are d h ∙ sym (get_or-set_other t.states c d 0 0 (eqb-false d c e))

    without : other_rows c (rows t) ≡ row_count (set t.states c 0)
    unfolding other_rows all_rows
    without = sum_same channel_limit (λ d. rows_in (cond (eqb d c) none (rows t d))) (λ d. get_or (set t.states c 0) d 0) each

    -- The rows of the others and k more are all rows once channel c has k.
    pub others_are : (k : ℕ) → other_rows c (rows t) + k ≡ row_count (set t.states c k)
    others_are k =
        omega (
          arith,
          without,
          before_moved t.states c 0 (omega arith) channel_limit inside,
          before_moved t.states c k (omega arith) channel_limit inside,
        )

  -- The rows of a channel lie within a store that 25 does not refuse.
  pub rows_within :
      (c : ℕ) → t.setup.events ≤ event_limit → c < channel_limit → row_count t.states ≤ row_limit →
      start t c + get_or t.states c 0 * t.setup.events ≤ store_limit
  rows_within c h i e = omega (arith, old_fits t.setup.events t.states c h i e)
