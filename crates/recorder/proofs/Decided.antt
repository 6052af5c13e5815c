-- What is found is what the definitions of the calls say.
use Rattle.refusal.proofs.Refusals.{judgement_accepted, judgement_refused, or_else_none, or_else_assoc, plain_none}
use mathlib.Core.{Path.{◌≡◌, refl, sym, ◌∙◌, ap, ap₂, subst}, Bool.{true, ◌&&◌, cond}, List.{List}}
use mathlib.Core.Option.{Option, none, some}
use Prim.Native.Nat.{ℕ, ◌+◌, ◌*◌, ◌%◌, ◌≤◌, ◌<◌}
use native.Mathlib.{Nat.{mod-eq_of_lt}, Omega.{arith}}
use borrow.Author.Tests.{ltb-true, leb-true, lt-ltb, le-ltb, le-leb, lt-leb}
use lib.{Dec.{ltb, leb}, ListN.{get_or, set, replicate}, Seq.{set-get_or}}
use Rattle.std.specs.{Prelude.{Result, Ok, Err}, Result.{OnOk}}
use Rattle.limits.specs.Limits.{channel_limit, event_limit, meet_limit, row_limit, store_limit, total_limit}
use Rattle.theory.specs.MealyMachine.{Machine}
use Rattle.theory.proofs.ValueSets.{and_left, and_right}
use Rattle.refusal.specs.{declared.Refusal.{Refusal}, declared.Refusal.TheVariants.{ChannelEmpty, EventNumber, PulseTotal, RowTotal, ToolContents}}
use Rattle.refusal.specs.RefusalAnswers.{or_else, plain_unless, judgement, answered}
use Rattle.values.specs.Setup.{setup, register_setup}
use Rattle.values.proofs.Setups.{setup_accepted}
use Rattle.machines.proofs.EntryIndex.{index_below}
use Rattle.channel_log.specs.Calls.{Call, event, restart, restart_all, Reply, accepted, returned, refused}
use Rattle.channel_log.specs.CallSteps.{channel_refusal, empty_refusal, on_event, event_reply, accepted_reply}
use Rattle.channel_log.specs.Log.{large_total, occurrence_refusal, rows_refusal}
use Rattle.channel_log.specs.Rows.{all_rows}
use Rattle.channel_log.specs.{Calls.{Loaded}, Distance.{wheel_of_turn, Occurrence, Reading, reading}}
use Rattle.channel_log.proofs.Record.{test_passed, total_fits}
use Rattle.recorder.specs.Store.{Store, ToolSetup, tool_setup, tool_setup_of, table_at, loaded_at, channels, rows, reply_of, ChannelInOrder}
use Rattle.recorder.specs.{declared.Step.{Step}, declared.Settled.{Settled}}
use Rattle.recorder.specs.Splicing.{row_count}
use Rattle.recorder.specs.ToolTests.{tool_setup_refusal, setup_test, channel_test, test_of}
use Rattle.recorder.specs.Called.{with_current, next_state, next_total, content, fault_refusal, tool_refusal, effect_on, settled_store, called}
use Rattle.recorder.specs.Called.{empty_store, filled, new_store, blank, set_up_answer, set_up_called}
use Rattle.recorder.specs.Decisions.{named_refusal, loaded_refusal, Measurable, entry_place, Bounds, stepped, settle}
use Rattle.recorder.proofs.Rows.{get_d_part, entries_fit}
use Rattle.recorder.proofs.RowCounts.{start, all_rows_are, rows_within}
use Rattle.recorder.proofs.Held.{channel_below, few_events, held_some, held_cases, empty_held, in_order_of_test}
use Rattle.recorder.proofs.Held.{accepted_of_test, values_accepted, wheel_accepted, wheel_of_test}

module _ (t : Store) (call : Call Occurrence) where
  pub refused_call : (r : Refusal) → tool_refusal t call ≡ some r → called call t ≡ (refused r, t)
  unfolding called
  refused_call r h = ap (λ o. settled_store o (accepted_reply (content t) (channels t) call) (effect_on t call) t) h

  pub accepted_call : tool_refusal t call ≡ none → called call t ≡ (accepted_reply (content t) (channels t) call, effect_on t call)
  unfolding called
  accepted_call h = ap (λ o. settled_store o (accepted_reply (content t) (channels t) call) (effect_on t call) t) h

-- What a check, or a call that yields something, answers.
pub answered_ok : (o : Option Refusal) (a b : ℕ) → answered o a ≡ Ok b → (o ≡ none) × (b ≡ a)
unfolding answered
answered_ok none a b e = (refl, cc)
answered_ok (some r) a b e = let z : ◌≡◌ {A = ℕ} 0 1 = cc in absurd (omega arith)

pub answered_err : (o : Option Refusal) (a : ℕ) (r : Refusal) → answered o a ≡ Err r → o ≡ some r
unfolding answered
answered_err none a r e = let z : ◌≡◌ {A = ℕ} 0 1 = cc in absurd (omega arith)
answered_err (some s) a r e = cc

-- A loaded channel that 17, 25, 14 and 15 do not refuse.
pub record Ready (t : Store) (c : ℕ) : Type 0 where
  pub setup_passes : setup_test (tool_setup_of t) ≡ true
  pub channel : c < channel_limit
  pub loaded : 0 < get_or t.states c 0
  pub in_order : test_of t c ≡ true
  pub rows_fit : row_count t.states ≤ row_limit

-- A loaded channel has states.
loaded_below : (t : Store) (c : ℕ) → c < channel_limit → empty_refusal (channels t c) ≡ none → 0 < get_or t.states c 0
loaded_below t c h e =
    ltb-true 0 (get_or t.states c 0)
    (test_passed (ltb 0 (get_or t.states c 0)) ChannelEmpty
    (sym (empty_held c (start t c) t.setup.events (get_or t.states c 0) (get_or t.current c 0) (get_or t.total c 0) t.value t.next h) ∙ e))

pub rows_fitting : (t : Store) → rows_refusal (all_rows (rows t)) ≡ none → row_count t.states ≤ row_limit
rows_fitting t h =
    subst (λ n. n ≤ row_limit) (all_rows_are t)
    (leb-true (all_rows (rows t)) row_limit (test_passed (leb (all_rows (rows t)) row_limit) RowTotal h))

-- 17, 25 and 14 do not refuse: the set-up passes, the channel is one of the eight, and the rows fit.
pub record Named (t : Store) (c : ℕ) : Type 0 where
  pub passes : (setup_test (tool_setup_of t) ≡ true) × (test_of t c ≡ true)
  pub inside : c < channel_limit
  pub fit : row_count t.states ≤ row_limit

pub named_of : (t : Store) (c : ℕ) → named_refusal t c ≡ none → Named t c
named_of t c h =
    let T = setup_test (tool_setup_of t) && test_of t c in
    let O = rows_refusal (all_rows (rows t)) in
    let a = or_else_none (or_else (plain_unless T ToolContents) O) (channel_refusal c) h in
    let f = or_else_none (plain_unless T ToolContents) O a.0 in
    let passes = plain_none T ToolContents f.0 in
    record {
      passes = (and_left (setup_test (tool_setup_of t)) (test_of t c) passes, and_right (setup_test (tool_setup_of t)) (test_of t c) passes);
      inside = channel_below c a.1;
      fit = rows_fitting t f.1;
    }

pub loaded_of : (t : Store) (c : ℕ) → loaded_refusal t c ≡ none → Ready t c
loaded_of t c h =
    let a = or_else_none (named_refusal t c) (empty_refusal (channels t c)) h in
    let n = named_of t c a.0 in
    record {
      setup_passes = n.passes.0;
      channel = n.inside;
      loaded = loaded_below t c n.inside a.1;
      in_order = n.passes.1;
      rows_fit = n.fit;
    }

-- Three answers and a later one, the first two taken together or not.
pub first_three : (a b d e : Option Refusal) → or_else a (or_else b (or_else d e)) ≡ or_else (or_else (or_else a b) d) e
first_three a b d e = or_else_assoc a b (or_else d e) ∙ or_else_assoc (or_else a b) d e

pub ready_of :
    (t : Store) (c : ℕ) (later : Option Refusal) →
    or_else (or_else (plain_unless (setup_test (tool_setup_of t) && test_of t c) ToolContents) (rows_refusal (all_rows (rows t))))
    (or_else (channel_refusal c) (or_else (empty_refusal (channels t c)) later)) ≡ none →
    Ready t c × (later ≡ none)
ready_of t c later h =
    let a = or_else_none (loaded_refusal t c) later (sym (first_three _ _ _ _) ∙ h) in
    (loaded_of t c a.0, a.1)

module _ (t : Store) (c : ℕ) where
  abbrev pub table_of : Machine ℕ ℕ
  table_of = table_at (start t c) t.setup.events (get_or t.states c 0) t.value t.next

  abbrev pub state_of : ℕ
  state_of = get_or t.current c 0

  abbrev pub total_of : ℕ
  total_of = get_or t.total c 0

  abbrev pub loaded_with : ℕ → ℕ → Loaded ℕ
  loaded_with q total = loaded_at (start t c) t.setup.events (get_or t.states c 0) q total t.value t.next

  module _ (g : Ready t c) where
    pub has : channels t c ≡ some (loaded_with state_of total_of)
    has = held_some c (start t c) t.setup.events (get_or t.states c 0) state_of total_of t.value t.next g.channel g.loaded

    pub ready_facts : ChannelInOrder t.setup.events t.setup.kind (loaded_with state_of total_of)
    ready_facts =
        in_order_of_test t.setup.events t.setup.kind (loaded_with state_of total_of)
        (subst (λ o. channel_test t.setup.events t.setup.kind o ≡ true) has g.in_order)

    pub ready_events : t.setup.events ≤ event_limit
    ready_events = few_events (tool_setup_of t) g.setup_passes

    pub ready_room : start t c + get_or t.states c 0 * t.setup.events ≤ store_limit
    ready_room = rows_within t c ready_events g.channel g.rows_fit

    -- The distance of a total within the limit can be told.
    pub measurable : (total : ℕ) → total ≤ total_limit → Measurable t.wheel total
    measurable total h =
        let w = wheel_of_test t.wheel (wheel_accepted (tool_setup_of t) (accepted_of_test (tool_setup_of t) g.setup_passes)) in
        record { some_pulses = w.0.0; few_pulses = w.0.1; few_millimetres = w.1.1; small_total = h }

-- A total within the limit, and one above it.
pub small_total : (m : ℕ) → m ≤ total_limit → large_total m ≡ none
small_total m h = ap (λ b. cond b none (some PulseTotal)) (le-leb m total_limit h)

pub over_total : (m : ℕ) → total_limit < m → large_total m ≡ some PulseTotal
over_total m h = ap (λ b. cond b none (some PulseTotal)) (lt-leb m total_limit h)

-- 15, then 16 and 19.
on_event_is :
    (t : Store) (c : ℕ) (i : Occurrence) →
    or_else (empty_refusal (channels t c)) (occurrence_refusal t.setup.events (get_or t.total c 0) i) ≡ on_event (content t) (channels t c) i
unfolding or_else
on_event_is t c i =
    held_cases c (start t c) t.setup.events (get_or t.states c 0) (get_or t.current c 0) (get_or t.total c 0) t.value t.next
    (λ o. or_else (empty_refusal o) (occurrence_refusal t.setup.events (get_or t.total c 0) i) ≡ on_event (content t) o i) refl refl

module _ (t : Store) (c : ℕ) where
  -- A restart.
  pub restart_refused : (r : Refusal) → loaded_refusal t c ≡ some r → (refused r, t) ≡ called (restart c) t
  restart_refused r h =
      sym (refused_call t (restart c) r (or_else_assoc (fault_refusal t (restart c)) (channel_refusal c) (empty_refusal (channels t c)) ∙ h))

  pub restart_done :
      loaded_refusal t c ≡ none → (accepted, with_current t (set t.current c 0) (set t.total c 0)) ≡ called (restart c) t
  restart_done h =
      sym (accepted_call t (restart c) (or_else_assoc (fault_refusal t (restart c)) (channel_refusal c) (empty_refusal (channels t c)) ∙ h))

  -- An event: 17, 25, 14 and 15, then 16 and 19.
  module _ (i : Occurrence) where
    abbrev sum : ℕ
    sum = get_or t.total c 0 + i.pulses

    found : tool_refusal t (event c i) ≡ or_else (loaded_refusal t c) (occurrence_refusal t.setup.events (get_or t.total c 0) i)
    found =
        ap (λ o. or_else (fault_refusal t (event c i)) (or_else (channel_refusal c) o)) (sym (on_event_is t c i)) ∙ first_three _ _ _ _

    pub event_refused : (r : Refusal) → loaded_refusal t c ≡ some r → (refused r, t) ≡ called (event c i) t
    unfolding or_else
    event_refused r h =
        sym (refused_call t (event c i) r
        (found ∙ ap (λ o. or_else o (occurrence_refusal t.setup.events (get_or t.total c 0) i)) h))

    module _ (h : loaded_refusal t c ≡ none) where
      found_later : tool_refusal t (event c i) ≡ occurrence_refusal t.setup.events (get_or t.total c 0) i
      unfolding or_else
      found_later = found ∙ ap (λ o. or_else o (occurrence_refusal t.setup.events (get_or t.total c 0) i)) h

      pub event_large : t.setup.events ≤ i.event → (refused EventNumber, t) ≡ called (event c i) t
      unfolding or_else
      event_large e =
          sym (refused_call t (event c i) EventNumber
          (found_later ∙ ap (λ b. or_else (cond b none (some EventNumber)) (large_total sum)) (le-ltb i.event t.setup.events e)))

      module _ (e : i.event < t.setup.events) where
        found_last : tool_refusal t (event c i) ≡ large_total sum
        unfolding or_else
        found_last =
            found_later ∙ ap (λ b. or_else (cond b none (some EventNumber)) (large_total sum)) (lt-ltb i.event t.setup.events e)

        pub event_many : (r : Refusal) → large_total sum ≡ some r → (refused r, t) ≡ called (event c i) t
        event_many r l = sym (refused_call t (event c i) r (found_last ∙ l))

        abbrev place : ℕ
        place = entry_place (start t c) t.setup.events (get_or t.current c 0) i.event

        -- Its entry lies within the arrays, and the distance that it returns can be told.
        pub event_bounds : Bounds (start t c) t.setup.events (get_or t.current c 0) i.event
        event_bounds =
            let r = loaded_of t c h in
            let x = (ready_facts t c r).table in
            record {
              row = entries_fit (state_of t c) t.setup.events (omega (arith, x.start_in, x.few_states)) (ready_events t c r);
              place =
                  omega (
                    arith,
                    ready_room t c r,
                    index_below t.setup.events (get_or t.states c 0) (state_of t c) i.event x.start_in e,
                  );
            }

        module _ (l : large_total sum ≡ none) where
          pub event_measurable : Measurable t.wheel sum
          event_measurable = measurable t c (loaded_of t c h) sum (total_fits sum l)

          pub event_done :
              (returned (reading t.wheel (get_or t.value place 0) sum), with_current t (set t.current c (get_or t.next place 0)) (set t.total c sum))
              ≡ called (event c i) t
          event_done =
              let r = loaded_of t c h in
              let k = index_below t.setup.events (get_or t.states c 0) (state_of t c) i.event (ready_facts t c r).table.start_in e in
              ap₂ (λ v q. (returned (reading t.wheel v sum), with_current t (set t.current c q) (set t.total c sum)))
              (sym (get_d_part t.value (start t c) (get_or t.states c 0 * t.setup.events) (state_of t c * t.setup.events + i.event) k))
              (sym (get_d_part t.next (start t c) (get_or t.states c 0 * t.setup.events) (state_of t c * t.setup.events + i.event) k))
              ∙ sym
              (ap
              (λ o. (
                event_reply (content t) o i,
                with_current t (set t.current c (next_state o i.event)) (set t.total c (next_total o i.pulses)),
              ))
              (has t c r))
              ∙ sym (accepted_call t (event c i) (found_last ∙ l))

-- Restart all.
module _ (t : Store) where
  all_found : tool_refusal t restart_all ≡ fault_refusal t restart_all
  unfolding or_else
  all_found = last (fault_refusal t restart_all)
    where
      last : (o : Option Refusal) → or_else o none ≡ o
      last none = refl
      last (some r) = refl

  pub restart_all_refused : (r : Refusal) → fault_refusal t restart_all ≡ some r → (refused r, t) ≡ called restart_all t
  restart_all_refused r h = sym (refused_call t restart_all r (all_found ∙ h))

  pub restart_all_done :
      fault_refusal t restart_all ≡ none → (accepted, with_current t (replicate channel_limit 0) (replicate channel_limit 0)) ≡ called restart_all t
  restart_all_done h = sym (accepted_call t restart_all (all_found ∙ h))

-- Set up: what the refusals say, and the tool.
module _ (s : ToolSetup) where
  pub set_up_refused : (u : Store) (r : Refusal) → judgement (tool_setup_refusal s) ≡ Err r → u ≡ blank s.values.kind → (refused r, u) ≡ set_up_called s
  set_up_refused u r h e =
      ap (λ u. (refused r, u)) e ∙ sym (ap (set_up_answer s) (judgement_refused (tool_setup_refusal s) r h))

  pub set_up_accepted :
      (u : Store) (x : Unit {0}) → judgement (tool_setup_refusal s) ≡ Ok x → (tool_setup_refusal s ≡ none → u ≡ new_store s) →
      (accepted, u) ≡ set_up_called s
  set_up_accepted u x h e =
      let ok = judgement_accepted (tool_setup_refusal s) h in
      ap (λ u. (accepted, u)) (e ok) ∙ sym (ap (set_up_answer s) ok)

-- What is kept of an accepted set-up in fewer bits is what was handed in.
narrow_wheel :
    (s : ToolSetup) → tool_setup_refusal s ≡ none →
    wheel_of_turn (s.wheel.pulses % 65536) (s.wheel.millimetres % 65536) ≡ wheel_of_turn s.wheel.pulses s.wheel.millimetres
narrow_wheel s ok =
    let w = wheel_of_test s.wheel (wheel_accepted s ok) in
    ap₂ wheel_of_turn (mod-eq_of_lt {n = s.wheel.pulses} {m = 65536} (omega (arith, w.0.1)))
    (mod-eq_of_lt {n = s.wheel.millimetres} {m = 65536} (omega (arith, w.1.1)))

module _ (events pulses millimetres : ℕ) where
  pub narrow_numbers :
      (values top : ℕ) (meet : List ℕ) → tool_setup_refusal (tool_setup (setup events values top meet) (wheel_of_turn pulses millimetres)) ≡ none →
      empty_store (setup (events % 256) (values % 256) (top % 256) (filled meet_limit meet)) (wheel_of_turn (pulses % 65536) (millimetres % 65536))
      ≡ new_store (tool_setup (setup events values top meet) (wheel_of_turn pulses millimetres))
  unfolding new_store
  narrow_numbers values top meet ok =
      let s = tool_setup (setup events values top meet) (wheel_of_turn pulses millimetres) in
      let f = (setup_accepted s.values).0 (values_accepted s ok) in
      let below : top < values = f.laws.top_in in
      ap₂ (λ a b. empty_store (setup a b (top % 256) (filled meet_limit meet)) (wheel_of_turn (pulses % 65536) (millimetres % 65536)))
      (mod-eq_of_lt {n = events} {m = 256} (omega (arith, f.few_events))) (mod-eq_of_lt {n = values} {m = 256} (omega (arith, f.of_kind.few_values)))
      ∙ ap₂ (λ a w. empty_store (setup events values a (filled meet_limit meet)) w)
      (mod-eq_of_lt {n = top} {m = 256} (omega (arith, f.of_kind.few_values))) (narrow_wheel s ok)

  pub narrow_register :
      (lines : ℕ) → tool_setup_refusal (tool_setup (register_setup events lines) (wheel_of_turn pulses millimetres)) ≡ none →
      empty_store (register_setup (events % 256) (lines % 256)) (wheel_of_turn (pulses % 65536) (millimetres % 65536))
      ≡ new_store (tool_setup (register_setup events lines) (wheel_of_turn pulses millimetres))
  unfolding new_store
  narrow_register lines ok =
      let s = tool_setup (register_setup events lines) (wheel_of_turn pulses millimetres) in
      let f = (setup_accepted s.values).0 (values_accepted s ok) in
      ap₂ (λ a b. empty_store (register_setup a b) (wheel_of_turn (pulses % 65536) (millimetres % 65536)))
      (mod-eq_of_lt {n = events} {m = 256} (omega (arith, f.few_events))) (mod-eq_of_lt {n = lines} {m = 256} (omega (arith, f.of_kind.few_lines)))
      ∙ ap (empty_store (register_setup events lines)) (narrow_wheel s ok)

-- What is written for an event or a restart is what it comes to.
module _ (t : Store) (c : ℕ) where
  abbrev written : Settled → Reply (Reading ℕ) × Store
  written w = (reply_of w.reply, with_current t (set t.current (c % channel_limit) w.state) (set t.total (c % channel_limit) w.total))

  pub settled_is :
      (step : Result Step Refusal) (w : Settled) →
      w ≡ settle step (get_or t.current (c % channel_limit) 0) (get_or t.total (c % channel_limit) 0) → OnOk step (c < channel_limit) →
      written w ≡ stepped t c step
  settled_is (Ok s) w e inside =
      ap written e
      ∙ ap (λ d. (reply_of (Ok s.reading), with_current t (set t.current d s.state) (set t.total d s.total))) (mod-eq_of_lt inside)
  settled_is (Err r) w e inside =
      ap written e
      ∙ ap (λ u. (refused r, u)) (ap₂ (with_current t) (set-get_or t.current (c % channel_limit) 0) (set-get_or t.total (c % channel_limit) 0))
