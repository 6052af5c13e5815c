-- Refusal 17's test of a channel, limit by limit; its values and its next states are looked at one after the other.
use mathlib.Core.{Path.{◌≡◌, sym, ◌∙◌, ap}, Bool.{Bool, true, false, ◌&&◌, and-false}, List.{List}}
use Prim.Native.Nat.{ℕ, ◌+◌, ◌*◌, ◌≤◌, ◌<◌}
use borrow.Author.Tests.{lt-ltb, le-ltb, le-leb, lt-leb}
use lib.{Dec.{ltb, leb}, ListN.{get_or}}
use Rattle.limits.specs.Limits.{channel_limit, table_limit, total_limit}
use Rattle.theory.specs.ValueSetTests.{every}
use Rattle.values.specs.{declared.ValueKind.{ValueKind}, ValueTests.{value_fits}}
use Rattle.recorder.specs.Store.{table_at, loaded_at, held}
use Rattle.recorder.specs.ToolTests.{entries_test, loaded_test, channel_test}
use Rattle.recorder.proofs.{Together.{every_both}, Held.{flat_entries, held_empty, held_some}}

module _ (c at n k q total : ℕ) (kind : ValueKind) (L N : List ℕ) where
  abbrev pub values_test : Bool
  values_test = every (k * n) (λ i. value_fits kind (get_or L (at + i) 0))

  abbrev nexts_test : Bool
  nexts_test = every (k * n) (λ i. ltb (get_or N (at + i) 0) k)

  pub entries_split : (values_test && nexts_test) ≡ entries_test n kind k (table_at at n k L N)
  entries_split =
      every_both (k * n) (λ i. value_fits kind (get_or L (at + i) 0)) (λ i. ltb (get_or N (at + i) 0) k) ∙ flat_entries at n kind k L N

  -- An empty channel passes.
  pub empty_passes : k ≡ 0 → true ≡ channel_test n kind (held c at n k q total L N)
  empty_passes e = sym (ap (channel_test n kind) (held_empty c at n k q total L N e))

  module _ (inside : c < channel_limit) (loaded : 0 < k) where
    tested : loaded_test n kind (loaded_at at n k q total L N) ≡ channel_test n kind (held c at n k q total L N)
    tested = sym (ap (channel_test n kind) (held_some c at n k q total L N inside loaded))

    abbrev test : Bool
    test = ltb 0 k && (leb k table_limit && (ltb q k && (leb total total_limit && entries_test n kind k (table_at at n k L N))))

    by_test : (b : Bool) → b ≡ test → b ≡ channel_test n kind (held c at n k q total L N)
    unfolding loaded_test
    by_test b e = e ∙ tested

    pub many_states : table_limit < k → false ≡ channel_test n kind (held c at n k q total L N)
    many_states h = by_test false (simp (lt-leb k table_limit h, and-false))

    pub no_state : k ≤ q → false ≡ channel_test n kind (held c at n k q total L N)
    no_state h = by_test false (simp (le-ltb q k h, and-false))

    pub many_pulses : total_limit < total → false ≡ channel_test n kind (held c at n k q total L N)
    many_pulses h = by_test false (simp (lt-leb total total_limit h, and-false))

    -- Within these limits, the test is that of the values and the next states.
    pub entries_tested :
        k ≤ table_limit → q < k → total ≤ total_limit → (b : Bool) → b ≡ (values_test && nexts_test) →
        b ≡ channel_test n kind (held c at n k q total L N)
    entries_tested few state small b e =
        by_test b
        (e ∙ entries_split ∙ simp (lt-ltb 0 k loaded, le-leb k table_limit few, lt-ltb q k state, le-leb total total_limit small))
