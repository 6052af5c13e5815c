-- A sound tool stays sound under every call, replies as its channels do, and neither 17 nor 25 arises on it, except 25 on a load.
use mathlib.Core.{Path.{◌≡◌, refl, ◌∙◌, ap, subst, subst⁻¹}, Bool.{Bool, true, false, cond}, List.{List, []}}
use mathlib.Core.Option.{Option, none, some}
use Prim.Native.Nat.{ℕ, ◌+◌, ◌*◌, ◌≤◌, ◌<◌}
use native.Mathlib.{Nat.{zero-mul}, Omega.{arith}}
use borrow.Author.Tests.{leb-true, le-leb}
use lib.{Dec.{eqb, leb}, ListN.{length, set, replicate, length-set, length-replicate}}
use Rattle.theory.proofs.ValueSets.{and_both, every_of}
use Rattle.limits.specs.Limits.{channel_limit, event_limit, row_limit, store_limit, total_limit}
use Rattle.refusal.specs.{declared.Refusal.{Refusal}, declared.Refusal.TheVariants.{RowTotal, ToolContents}}
use Rattle.refusal.specs.RefusalAnswers.{or_else, plain_unless}
use Rattle.refusal.proofs.Refusals.{or_else_none}
use Rattle.values.specs.declared.ValueKind.{ValueKind}
use Rattle.values.specs.Setup.{Setup}
use Rattle.channel_log.specs.Distance.{Wheel, Occurrence, Reading}
use Rattle.channel_log.specs.{Log.{large_event, large_total, rows_refusal, load_rows_refusal}, Rows.{all_rows, other_rows}}
use Rattle.channel_log.specs.Calls.{Call, load, event, restart, restart_all, clear, Reply, Channels, with_channel, map_option, Loaded}
use Rattle.channel_log.specs.CallSteps.{Content, channel_refusal, empty_refusal, on_event, call_refusal, accepted_reply, effect, settled, step}
use Rattle.channel_log.specs.Recorded.{at_state, recorded}
use Rattle.channel_log.proofs.Record.{test_passed, event_fits, total_fits}
use Rattle.recorder.specs.Store.{Store, ToolSetup, setup_of, tool_setup_of, channels, rows, ChannelInOrder}
use Rattle.recorder.specs.ToolTests.{tool_setup_refusal, setup_test, channel_test, test_of, named_test, tool_test}
use Rattle.recorder.specs.CompiledRule.{rule_judged, states_of_rule, values_of_rule, nexts_of_rule, loaded_rule}
use Rattle.recorder.specs.Called.{with_current, with_rows, with_table, next_state, next_total, content, fault_refusal, effect_on, settled_store, called}
use Rattle.recorder.specs.Splicing.{row_count}
use Rattle.recorder.proofs.{RowTotals.{before_moved}, RowCounts.{all_rows_are, others_are}, CompiledRules.{values_length, nexts_length}}
use Rattle.recorder.proofs.{Held.{channel_below, values_accepted, test_of_accepted, few_events, in_order_of_test, test_of_in_order}}
use Rattle.recorder_claims.proofs.LoadedRules.{rule_in_order}
use Rattle.recorder_claims.proofs.View.{current_view, restarted_view, value_sized, next_sized, cleared_view, loaded_view}

-- The tool has set-up s, which is accepted, arrays of their lengths, channels that 17 does not refuse, and rows that 25 does not.
pub record Sound (s : ToolSetup) (t : Store) : Type 0 where
  pub setup_is : tool_setup_of t ≡ s
  pub accepted : tool_setup_refusal s ≡ none
  pub states_length : length t.states ≡ channel_limit
  pub current_length : length t.current ≡ channel_limit
  pub total_length : length t.total ≡ channel_limit
  pub value_length : length t.value ≡ store_limit
  pub next_length : length t.next ≡ store_limit
  pub in_order : (d : ℕ) → test_of t d ≡ true
  pub rows_fit : row_count t.states ≤ row_limit

with_in_order :
    (n : ℕ) (v : ValueKind) (c : ℕ) (x : Option (Loaded ℕ)) (L : Channels (Loaded ℕ)) → channel_test n v x ≡ true → ((d : ℕ) → channel_test n v (L d) ≡ true) →
    (d : ℕ) → channel_test n v (with_channel c x L d) ≡ true
with_in_order n v c x L h f d = go (eqb d c)
  where
    go : (t : Bool) → channel_test n v (cond t x (L d)) ≡ true
    go true = h
    go false = f d

-- Another state of the same table, with a total within the limit.
moved_in_order :
    (n : ℕ) (v : ValueKind) (x : Loaded ℕ) (q total : ℕ) → channel_test n v (some x) ≡ true → q < x.states → total ≤ total_limit →
    channel_test n v (some (at_state x q total)) ≡ true
moved_in_order n v x q total h g l =
    let f = (in_order_of_test n v x h).table in
    test_of_in_order n v (at_state x q total)
    (record {
      table =
          record {
            some_states = f.some_states;
            few_states = f.few_states;
            entry_count = f.entry_count;
            start_in = g;
            values_in = f.values_in;
            nexts_in = f.nexts_in;
          };
      total = l;
    })

restarted_in_order : (n : ℕ) (v : ValueKind) (o : Option (Loaded ℕ)) → channel_test n v o ≡ true → channel_test n v (map_option (λ x. at_state x 0 0) o) ≡ true
restarted_in_order n v none h = refl
restarted_in_order n v (some x) h = moved_in_order n v x 0 0 h (in_order_of_test n v x h).table.some_states (omega arith)

-- An event that is not refused.
module _ (n : ℕ) (v : ValueKind) (wheel : Wheel) (judged : List ℕ → Option Refusal) (table : List ℕ → Loaded ℕ) (i : Occurrence) where
  abbrev after_event : Loaded ℕ → Loaded ℕ
  after_event x = at_state x (x.table.next x.current i.event) (x.total + i.pulses)

  event_in_order :
      (o : Option (Loaded ℕ)) → on_event (recorded n wheel judged table) o i ≡ none → channel_test n v o ≡ true →
      channel_test n v (map_option after_event o) ≡ true
  event_in_order none g h = refl
  event_in_order (some x) g h =
      let f = (in_order_of_test n v x h).table in
      moved_in_order n v x (x.table.next x.current i.event) (x.total + i.pulses) h
      (f.nexts_in x.current i.event f.start_in (event_fits n x.total i g))
      (total_fits (x.total + i.pulses) (or_else_none (large_event n i.event) (large_total (x.total + i.pulses)) g).1)

  next_same :
      (o : Option (Loaded ℕ)) → map_option (λ x. at_state x (next_state o i.event) (next_total o i.pulses)) o ≡ map_option after_event o
  next_same none = refl
  next_same (some x) = refl

module _ (t : Store) (g : Sound (tool_setup_of t) t) where
  abbrev n : ℕ
  n = t.setup.events

  abbrev v : ValueKind
  v = t.setup.kind

  abbrev S : Setup
  S = setup_of t

  abbrev L : Channels (Loaded ℕ)
  L = channels t

  abbrev T : ToolSetup
  T = tool_setup_of t

  setup_passes : setup_test T ≡ true
  setup_passes = test_of_accepted T g.accepted

  named_passes : (x : Call Occurrence) → named_test t x ≡ true
  named_passes (load c r) = g.in_order c
  named_passes (event c i) = g.in_order c
  named_passes (restart c) = g.in_order c
  named_passes restart_all = every_of channel_limit (test_of t) (λ c h. g.in_order c)
  named_passes (clear c) = g.in_order c

  tool_passes : (x : Call Occurrence) → tool_test t x ≡ true
  tool_passes x = and_both setup_passes (named_passes x)

  abbrev Kept : Store → Channels (Loaded ℕ) → Type 0
  Kept u N = Sound T u × (channels u ≡ N)

  -- Other current states and totals.
  kept_current :
      (l m : List ℕ) (N : Channels (Loaded ℕ)) → length l ≡ channel_limit → length m ≡ channel_limit → channels (with_current t l m) ≡ N →
      ((d : ℕ) → channel_test n v (N d) ≡ true) → Kept (with_current t l m) N
  kept_current l m N a b e f = (
    record {
      setup_is = refl;
      accepted = g.accepted;
      states_length = g.states_length;
      current_length = a;
      total_length = b;
      value_length = g.value_length;
      next_length = g.next_length;
      in_order = λ d. ap (λ M. channel_test n v (M d)) e ∙ f d;
      rows_fit = g.rows_fit;
    },
    e,
  )

  -- Another table in a channel.
  kept_rows :
      (c k : ℕ) (vs ns : List ℕ) (M : Channels (Loaded ℕ)) → length vs ≡ store_limit → length ns ≡ store_limit →
      row_count (set t.states c k) ≤ row_limit → channels (with_rows t c k vs ns) ≡ M →
      ((d : ℕ) → channel_test n v (M d) ≡ true) → Kept (with_rows t c k vs ns) M
  kept_rows c k vs ns M a b r e f = (
    record {
      setup_is = refl;
      accepted = g.accepted;
      states_length = length-set t.states c k ∙ g.states_length;
      current_length = length-set t.current c 0 ∙ g.current_length;
      total_length = length-set t.total c 0 ∙ g.total_length;
      value_length = a;
      next_length = b;
      in_order = λ d. ap (λ M. channel_test n v (M d)) e ∙ f d;
      rows_fit = r;
    },
    e,
  )

  keep_event :
      (c : ℕ) (i : Occurrence) → call_refusal (content t) L (event c i) ≡ none → Kept (effect_on t (event c i)) (effect (content t) L (event c i))
  keep_event c i h =
      let a = or_else_none (channel_refusal c) (on_event (content t) (L c) i) h in
      let l : c < length t.current = subst⁻¹ (λ m. c < m) g.current_length (channel_below c a.0) in
      let m : c < length t.total = subst⁻¹ (λ m. c < m) g.total_length (channel_below c a.0) in
      let q = next_state (L c) i.event in
      let p = next_total (L c) i.pulses in
      kept_current (set t.current c q) (set t.total c p) (effect (content t) L (event c i))
      (length-set t.current c q ∙ g.current_length) (length-set t.total c p ∙ g.total_length)
      (current_view t c q p l m ∙ ap (λ o. with_channel c o L) (next_same n v t.wheel (rule_judged S) (loaded_rule S) i (L c)))
      (with_in_order n v c (map_option (λ x. (content t).moved x i) (L c)) L
      (event_in_order n v t.wheel (rule_judged S) (loaded_rule S) i (L c) a.1 (g.in_order c)) g.in_order)

  keep_restart : (c : ℕ) → call_refusal (content t) L (restart c) ≡ none → Kept (effect_on t (restart c)) (effect (content t) L (restart c))
  keep_restart c h =
      let a = or_else_none (channel_refusal c) (empty_refusal (L c)) h in
      let l : c < length t.current = subst⁻¹ (λ m. c < m) g.current_length (channel_below c a.0) in
      let m : c < length t.total = subst⁻¹ (λ m. c < m) g.total_length (channel_below c a.0) in
      kept_current (set t.current c 0) (set t.total c 0) (effect (content t) L (restart c)) (length-set t.current c 0 ∙ g.current_length)
      (length-set t.total c 0 ∙ g.total_length) (current_view t c 0 0 l m)
      (with_in_order n v c (map_option (content t).restarted (L c)) L (restarted_in_order n v (L c) (g.in_order c)) g.in_order)

  keep_all : Kept (effect_on t restart_all) (effect (content t) L restart_all)
  keep_all =
      kept_current (replicate channel_limit 0) (replicate channel_limit 0) (effect (content t) L restart_all)
      (length-replicate {A = ℕ} channel_limit 0) (length-replicate {A = ℕ} channel_limit 0) (restarted_view t)
      (λ d. restarted_in_order n v (L d) (g.in_order d))

  events_few : n ≤ event_limit
  events_few = few_events T setup_passes

  -- 25 is not met by a table of k states in channel c.
  fits : (c k : ℕ) → c < channel_limit → load_rows_refusal c (rows t) k ≡ none → row_count (set t.states c k) ≤ row_limit
  fits c k i e =
      subst (λ m. m ≤ row_limit) (others_are t c i g.states_length k)
      (leb-true (other_rows c (rows t) + k) row_limit (test_passed (leb (other_rows c (rows t) + k) row_limit) RowTotal e))

  cleared_fits : (c : ℕ) → c < channel_limit → row_count (set t.states c 0) ≤ row_limit
  cleared_fits c i = omega (arith, before_moved t.states c 0 (omega (arith, g.states_length)) channel_limit i, g.rows_fit)

  keep_clear : (c : ℕ) → call_refusal (content t) L (clear c) ≡ none → Kept (effect_on t (clear c)) (effect (content t) L (clear c))
  keep_clear c h =
      let i = channel_below c h in
      let z : length {A = ℕ} [] ≡ 0 * n = omega (arith, zero-mul n) in
      let r = cleared_fits c i in
      kept_rows c 0 (with_table t c 0 [] []).value (with_table t c 0 [] []).next (effect (content t) L (clear c))
      (value_sized t g.states_length g.current_length g.total_length g.value_length g.next_length events_few g.rows_fit c 0 [] [] i r z z)
      (next_sized t g.states_length g.current_length g.total_length g.value_length g.next_length events_few g.rows_fit c 0 [] [] i r z z)
      r
      (cleared_view t g.states_length g.current_length g.total_length g.value_length g.next_length events_few g.rows_fit c 0 [] [] i r z z
      refl)
      (with_in_order n v c none L refl g.in_order)

  keep_load :
      (c : ℕ) (r : List ℕ) → call_refusal (content t) L (load c r) ≡ none → Kept (effect_on t (load c r)) (effect (content t) L (load c r))
  keep_load c r h =
      let a = or_else_none (channel_refusal c) ((content t).load_refusal L c r) h in
      let b = or_else_none (rule_judged S r) (load_rows_refusal c (rows t) (states_of_rule S r)) a.1 in
      let i : c < channel_limit = channel_below c a.0 in
      let f : ChannelInOrder n v (loaded_rule S r) = rule_in_order S r (values_accepted T g.accepted) b.0 in
      let k = states_of_rule S r in
      let vs = values_of_rule S r in
      let ns = nexts_of_rule S r in
      let room = fits c k i b.1 in
      let p = values_length S r in
      let q = nexts_length S r in
      kept_rows c k (with_table t c k vs ns).value (with_table t c k vs ns).next (effect (content t) L (load c r))
      (value_sized t g.states_length g.current_length g.total_length g.value_length g.next_length events_few g.rows_fit c k vs ns i room p q)
      (next_sized t g.states_length g.current_length g.total_length g.value_length g.next_length events_few g.rows_fit c k vs ns i room p q)
      room
      (loaded_view t g.states_length g.current_length g.total_length g.value_length g.next_length events_few g.rows_fit c k vs ns i room p q
      f.table.some_states)
      (with_in_order n v c (some (loaded_rule S r)) L (test_of_in_order n v (loaded_rule S r) f) g.in_order)

  keep : (x : Call Occurrence) → call_refusal (content t) L x ≡ none → Kept (effect_on t x) (effect (content t) L x)
  keep (load c r) h = keep_load c r h
  keep (event c i) h = keep_event c i h
  keep (restart c) h = keep_restart c h
  keep restart_all h = keep_all
  keep (clear c) h = keep_clear c h

  abbrev Steps : Reply (Reading ℕ) × Store → Reply (Reading ℕ) × Channels (Loaded ℕ) → Type 0
  Steps a b = (a.0 ≡ b.0) × Sound T a.1 × (channels a.1 ≡ b.1)

  by_refusal :
      (x : Call Occurrence) (o : Option Refusal) → call_refusal (content t) L x ≡ o →
      Steps (settled_store o (accepted_reply (content t) L x) (effect_on t x) t)
      (settled (content t) o (accepted_reply (content t) L x) (effect (content t) L x) L)
  by_refusal x none h = let k = keep x h in (refl, k.0, k.1)
  by_refusal x (some y) h = (refl, g, refl)

  rows_pass : rows_refusal (all_rows (rows t)) ≡ none
  rows_pass =
      ap (λ b. cond b none (some RowTotal)) (le-leb (all_rows (rows t)) row_limit (subst⁻¹ (λ m. m ≤ row_limit) (all_rows_are t) g.rows_fit))

  no_fault : (x : Call Occurrence) → fault_refusal t x ≡ none
  unfolding or_else plain_unless
  no_fault x = ap (λ b. or_else (plain_unless b ToolContents) (rows_refusal (all_rows (rows t)))) (tool_passes x) ∙ rows_pass

  keeps_here : (x : Call Occurrence) → Steps (called x t) (step (content t) x L)
  unfolding called or_else
  keeps_here x =
      subst⁻¹
      (λ o. Steps (settled_store (or_else o (call_refusal (content t) L x)) (accepted_reply (content t) L x) (effect_on t x) t) (step (content t) x L))
      (no_fault x) (by_refusal x (call_refusal (content t) L x) refl)

-- The channels of a set-up's tool, as `recorded` says.
abbrev pub setup_content : ToolSetup → Content (Loaded ℕ) Occurrence (Reading ℕ)
setup_content s = recorded s.values.events s.wheel (rule_judged s.values) (loaded_rule s.values)

-- The same for a given set-up.
pub keeps :
    (s : ToolSetup) (x : Call Occurrence) (t : Store) → Sound s t →
    ((called x t).0 ≡ (step (setup_content s) x (channels t)).0) × Sound s (called x t).1
    × (channels (called x t).1 ≡ (step (setup_content s) x (channels t)).1)
keeps s x t g =
    subst
    (λ s.
    Sound s t →
    ((called x t).0 ≡ (step (setup_content s) x (channels t)).0) × Sound s (called x t).1
    × (channels (called x t).1 ≡ (step (setup_content s) x (channels t)).1))
    g.setup_is (λ h. keeps_here t h x) g
