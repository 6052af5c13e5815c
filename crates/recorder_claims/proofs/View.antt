-- Each call's effect on the arrays is its effect on the channels: the only place that looks at where rows lie.
use mathlib.Core.{Path.{◌≡◌, refl, sym, ◌∙◌, ap, ap₂, subst⁻¹, fun_ext}, Bool.{Bool, true, false, ◌&&◌, cond}, List.{List}}
use mathlib.Core.Option.{Option, none, some}
use Prim.Native.Nat.{ℕ, ◌*◌, ◌≤◌, ◌<◌}
use borrow.Author.Tests.{eq-eqb, ne_eqb, eqb-true, eqb-false}
use lib.{Dec.{ltb, eqb}, ListN.{length, get_or, set, replicate}, Seq.{get_or-set_same, get_or-set_other}}
use Rattle.limits.specs.Limits.{channel_limit, event_limit, row_limit, store_limit}
use Rattle.channel_log.specs.{Calls.{Channels, with_channel, map_option}, Recorded.{at_state}}
use Rattle.recorder.specs.{Store.{Store, loaded_at, held, channels}, Splicing.{row_count}, Called.{with_current, with_table}}
use Rattle.synthesis.proofs.StatePlaces.{getD_zeros}
use Rattle.recorder.proofs.{RowCounts.{start}, Shifts.{replaced_length, held_other, held_loaded, held_cleared}}

-- Another state in the same table, and another total.
held_state : (c at n k q m p total : ℕ) (L N : List ℕ) → held c at n k p total L N ≡ map_option (λ x. at_state x p total) (held c at n k q m L N)
unfolding held
held_state c at n k q m p total L N = go (ltb c channel_limit && ltb 0 k)
  where
    go :
        (t : Bool) →
        cond t (some (loaded_at at n k p total L N)) none
        ≡ map_option (λ x. at_state x p total) (cond t (some (loaded_at at n k q m L N)) none)
    go true = refl
    go false = refl

-- At one channel, or at another.
by_channel : {P : Type 0} (d c : ℕ) → (d ≡ c → P) → ((d ≡ c → ⊥) → P) → P
by_channel {P} d c f g = go (eqb d c) refl
  where
    go : (t : Bool) → eqb d c ≡ t → P
    go true e = f (eqb-true d c e)
    go false e = g (eqb-false d c e)

-- Channels that are x at c and as before elsewhere.
channels_with :
    {X : Type 0} (c : ℕ) (x : Option X) (L N : Channels X) → N c ≡ x → ((d : ℕ) → (d ≡ c → ⊥) → N d ≡ L d) → N ≡ with_channel c x L
channels_with c x L N here there =
    fun_ext λ d.
    by_channel d c
    (λ e. subst⁻¹ (λ d. N d ≡ with_channel c x L d) e (here ∙ sym (ap (λ t. cond t x (L c)) (eq-eqb c c refl))))
    (λ e. there d e ∙ sym (ap (λ t. cond t x (L d)) (ne_eqb d c e)))

module _ (t : Store) where
  abbrev n : ℕ
  n = t.setup.events

  -- A current state and a total written.
  pub current_view :
      (c p total : ℕ) → c < length t.current → c < length t.total →
      channels (with_current t (set t.current c p) (set t.total c total))
      ≡ with_channel c (map_option (λ x. at_state x p total) (channels t c)) (channels t)
  current_view c p total h g =
      channels_with c (map_option (λ x. at_state x p total) (channels t c)) (channels t)
      (channels (with_current t (set t.current c p) (set t.total c total)))
      (ap₂ (λ q m. held c (start t c) n (get_or t.states c 0) q m t.value t.next) (get_or-set_same t.current c p 0 h)
      (get_or-set_same t.total c total 0 g)
      ∙ held_state c (start t c) n (get_or t.states c 0) (get_or t.current c 0) (get_or t.total c 0) p total t.value t.next)
      (λ d e.
      ap₂ (λ q m. held d (start t d) n (get_or t.states d 0) q m t.value t.next) (get_or-set_other t.current c d p 0 e)
      (get_or-set_other t.total c d total 0 e))

  -- All channels at state 0, with no pulses.
  pub restarted_view :
      channels (with_current t (replicate channel_limit 0) (replicate channel_limit 0)) ≡ (λ d. map_option (λ x. at_state x 0 0) (channels t d))
  restarted_view =
      fun_ext λ d.
      ap₂ (λ q m. held d (start t d) n (get_or t.states d 0) q m t.value t.next) (getD_zeros channel_limit d) (getD_zeros channel_limit d)
      ∙ held_state d (start t d) n (get_or t.states d 0) (get_or t.current d 0) (get_or t.total d 0) 0 0 t.value t.next

  -- A table spliced into the store.
  module _ (states_length : length t.states ≡ channel_limit) (current_length : length t.current ≡ channel_limit)
      (total_length : length t.total ≡ channel_limit) (value_length : length t.value ≡ store_limit) (next_length : length t.next ≡ store_limit)
      (few_events : n ≤ event_limit) (rows_fit : row_count t.states ≤ row_limit) (c k : ℕ) (A B : List ℕ) (h : c < channel_limit)
      (new_fit : row_count (set t.states c k) ≤ row_limit) (A_length : length A ≡ k * n) (B_length : length B ≡ k * n) where
    pub value_sized : length (with_table t c k A B).value ≡ store_limit
    value_sized = replaced_length n t.states c k few_events h states_length rows_fit new_fit t.value A value_length A_length

    pub next_sized : length (with_table t c k A B).next ≡ store_limit
    next_sized = replaced_length n t.states c k few_events h states_length rows_fit new_fit t.next B next_length B_length

    -- What another channel holds.
    pub there : (d : ℕ) → (d ≡ c → ⊥) → channels (with_table t c k A B) d ≡ channels t d
    there =
        held_other n t.states c k few_events h states_length rows_fit new_fit t.current t.total t.value t.next A B current_length
        total_length value_length next_length A_length B_length

    pub here : 0 < k → channels (with_table t c k A B) c ≡ some (loaded_at 0 n k 0 0 A B)
    here =
        held_loaded n t.states c k few_events h states_length rows_fit new_fit t.current t.total t.value t.next A B current_length
        total_length value_length next_length A_length B_length

    pub loaded_view : 0 < k → channels (with_table t c k A B) ≡ with_channel c (some (loaded_at 0 n k 0 0 A B)) (channels t)
    loaded_view some_states =
        channels_with c (some (loaded_at 0 n k 0 0 A B)) (channels t) (channels (with_table t c k A B)) (here some_states) there

    pub cleared_view : k ≡ 0 → channels (with_table t c k A B) ≡ with_channel c none (channels t)
    cleared_view e =
        channels_with c none (channels t) (channels (with_table t c k A B))
        (held_cleared n t.states c k few_events h states_length rows_fit new_fit t.current t.total t.value t.next A B current_length
        total_length value_length next_length A_length B_length e)
        there
