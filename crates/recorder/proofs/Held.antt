-- What channels hold; the tests of refusal 17 decide the printed condition.
use mathlib.Core.{Path.{◌≡◌, refl, sym, ◌∙◌, ap, ap₂}, Bool.{Bool, true, false, ◌&&◌, and-false, cond, false≢true}, List.{List}}
use mathlib.Core.Option.{Option, none, some}
use Prim.Native.Nat.{ℕ, ◌+◌, ◌*◌, ◌≤◌, ◌<◌}
use native.Mathlib.Omega.{arith}
use borrow.Author.Tests.{lt-ltb, le-ltb, le-leb, ltb-true, leb-true}
use lib.{Dec.{ltb, leb}, ListN.{get_or}}
use Rattle.limits.specs.Limits.{channel_limit, event_limit, value_limit, table_limit, turn_limit, total_limit}
use Rattle.theory.specs.ValueSetTests.{every}
use Rattle.theory.proofs.ValueSets.{and_left, and_right, and_both, every_at, every_of}
use Rattle.refusal.specs.{declared.Refusal.{Refusal}, declared.Refusal.TheVariants.{ChannelEmpty, ChannelNumber, SetupWheel}}
use Rattle.refusal.specs.RefusalAnswers.{or_else, plain_unless, judgement}
use Rattle.refusal.proofs.Refusals.{or_else_none, plain_none}
use Rattle.values.specs.declared.ValueKind.{ValueKind}
use Rattle.values.specs.ValueTests.{value_fits}
use Rattle.values.specs.Setup.{setup}
use Rattle.values.specs.SetupInOrder.{AcceptedSetup}
use Rattle.values.specs.SetupTests.{setup_refusal}
use Rattle.values.proofs.{Setups.{setup_accepted}, DownSets.{same_test}, ValueKinds.{value_kinds}}
use Rattle.channel_log.specs.CallSteps.{channel_refusal, empty_refusal}
use Rattle.channel_log.specs.{Calls.{Loaded}, Distance.{Wheel, WheelFault}}
use Rattle.channel_log.proofs.Record.{test_passed}
use Rattle.machines.specs.TableBytes.{entry_width, entry_bytes}
use Rattle.machines.proofs.{EntryIndex.{index_below, every_entry}, EntryBytes.{table_length}, TableRoundTrip.{entry_length}}
use Rattle.recorder.specs.Splicing.{part}
use Rattle.recorder.specs.Store.{ToolSetup, table_at, loaded_at, held, ChannelInOrder}
use Rattle.recorder.specs.ToolTests.{passed, turn_test, wheel_test, tool_setup_refusal, setup_test, entries_test, loaded_test}
use Rattle.std.specs.Prelude.{Result, Ok, Err}
use Rattle.std.specs.Result.{is_ok}
use Rattle.refusal.specs.Refusal.{refusal_of}
use Rattle.recorder.proofs.Rows.{get_d_part}

-- 14.
pub channel_below : (c : ℕ) → channel_refusal c ≡ none → c < channel_limit
channel_below c h = ltb-true c channel_limit (test_passed (ltb c channel_limit) ChannelNumber h)

-- The test of a set-up.
passed_none : (o : Option Refusal) → passed o ≡ true → o ≡ none
passed_none none h = refl
passed_none (some r) h = let z : ◌≡◌ {A = ℕ} 0 1 = cc in absurd (omega arith)

pub accepted_of_test : (s : ToolSetup) → setup_test s ≡ true → tool_setup_refusal s ≡ none
unfolding setup_test
accepted_of_test s h = passed_none (tool_setup_refusal s) h

pub test_of_accepted : (s : ToolSetup) → tool_setup_refusal s ≡ none → setup_test s ≡ true
unfolding setup_test
test_of_accepted s h = ap passed h

-- An accepted set-up has an accepted value set, and a wheel in its range.
pub values_accepted : (s : ToolSetup) → tool_setup_refusal s ≡ none → setup_refusal s.values ≡ none
unfolding tool_setup_refusal
values_accepted s h = (or_else_none (setup_refusal s.values) (plain_unless (wheel_test s.wheel) SetupWheel) h).0

pub wheel_accepted : (s : ToolSetup) → tool_setup_refusal s ≡ none → wheel_test s.wheel ≡ true
unfolding tool_setup_refusal
wheel_accepted s h =
    plain_none (wheel_test s.wheel) SetupWheel (or_else_none (setup_refusal s.values) (plain_unless (wheel_test s.wheel) SetupWheel) h).1

turn_of_test : (n : ℕ) → turn_test n ≡ true → (1 ≤ n) × (n ≤ turn_limit)
unfolding turn_test
turn_of_test n h = (leb-true 1 n (and_left (leb 1 n) (leb n turn_limit) h), leb-true n turn_limit (and_right (leb 1 n) (leb n turn_limit) h))

test_of_turn : (n : ℕ) → (1 ≤ n) × (n ≤ turn_limit) → turn_test n ≡ true
unfolding turn_test
test_of_turn n h = and_both (le-leb 1 n h.0) (le-leb n turn_limit h.1)

pub wheel_of_test :
    (wheel : Wheel) → wheel_test wheel ≡ true →
    ((1 ≤ wheel.pulses) × (wheel.pulses ≤ turn_limit)) × ((1 ≤ wheel.millimetres) × (wheel.millimetres ≤ turn_limit))
unfolding wheel_test
wheel_of_test wheel h = (
  turn_of_test wheel.pulses (and_left (turn_test wheel.pulses) (turn_test wheel.millimetres) h),
  turn_of_test wheel.millimetres (and_right (turn_test wheel.pulses) (turn_test wheel.millimetres) h),
)

-- 18's test decides its condition.
pub wheel_fault : (wheel : Wheel) → wheel_test wheel ≡ false → WheelFault wheel
unfolding wheel_test
wheel_fault wheel h g = false≢true (sym h ∙ and_both (test_of_turn wheel.pulses g.0) (test_of_turn wheel.millimetres g.1))

pub no_wheel_fault : (wheel : Wheel) → wheel_test wheel ≡ true → ¬ WheelFault wheel
no_wheel_fault wheel h f = f (wheel_of_test wheel h)

pub well_formed_of_test : (s : ToolSetup) → setup_test s ≡ true → AcceptedSetup s.values
well_formed_of_test s h = (setup_accepted s.values).0 (values_accepted s (accepted_of_test s h))

pub few_events : (s : ToolSetup) → setup_test s ≡ true → s.values.events ≤ event_limit
few_events s h = (well_formed_of_test s h).few_events

-- For numbered values.
pub few_values : (e v t : ℕ) (m : List ℕ) → passed (setup_refusal (setup e v t m)) ≡ true → v ≤ value_limit
few_values e v t m h = ((setup_accepted (setup e v t m)).0 (passed_none (setup_refusal (setup e v t m)) h)).of_kind.few_values

pub many_values : (e v t : ℕ) (m : List ℕ) → value_limit < v → passed (setup_refusal (setup e v t m)) ≡ false
many_values e v t m h = go (passed (setup_refusal (setup e v t m))) refl
  where
    go : (b : Bool) → passed (setup_refusal (setup e v t m)) ≡ b → b ≡ false
    go true p = absurd (omega (arith, h, few_values e v t m p))
    go false p = refl

-- 18 after what else a set-up is judgement by.
module _ (s : ToolSetup) where
  pub values_refused : (r : Refusal) → setup_refusal s.values ≡ some r → judgement (tool_setup_refusal s) ≡ Err r
  unfolding tool_setup_refusal or_else judgement
  values_refused r h = rw h refl

  pub wheel_refused : setup_refusal s.values ≡ none → wheel_test s.wheel ≡ false → judgement (tool_setup_refusal s) ≡ Err SetupWheel
  unfolding tool_setup_refusal or_else plain_unless judgement
  wheel_refused h e = rw (h, e) refl

  pub none_refused : setup_refusal s.values ≡ none → wheel_test s.wheel ≡ true → judgement (tool_setup_refusal s) ≡ Ok tt
  unfolding tool_setup_refusal or_else plain_unless judgement
  none_refused h e = rw (h, e) refl

pub ok_passed : {A : Type 0} (r : Result A Refusal) → is_ok r ≡ passed (refusal_of r)
ok_passed (Ok v) = refl
ok_passed (Err r) = refl

pub setup_parts : (s : ToolSetup) → (passed (setup_refusal s.values) && wheel_test s.wheel) ≡ setup_test s
unfolding setup_test tool_setup_refusal or_else plain_unless
setup_parts s = go (setup_refusal s.values) (wheel_test s.wheel)
  where
    go : (o : Option Refusal) (b : Bool) → (passed o && b) ≡ passed (or_else o (plain_unless b SetupWheel))
    go none true = refl
    go none false = refl
    go (some r) b = refl

-- What a channel holds.
module _ (c at n k q total : ℕ) (L N : List ℕ) where
  pub held_above : channel_limit ≤ c → held c at n k q total L N ≡ none
  unfolding held
  held_above h = simp (le-ltb c channel_limit h)

  pub held_empty : k ≡ 0 → held c at n k q total L N ≡ none
  unfolding held
  held_empty h = simp (le-ltb 0 k (omega arith), and-false)

  pub held_some : c < channel_limit → 0 < k → held c at n k q total L N ≡ some (loaded_at at n k q total L N)
  unfolding held
  held_some h g = simp (lt-ltb c channel_limit h, lt-ltb 0 k g)

  pub empty_held : c < channel_limit → empty_refusal (held c at n k q total L N) ≡ cond (ltb 0 k) none (some ChannelEmpty)
  unfolding held
  empty_held h = rw (lt-ltb c channel_limit h) (go (ltb 0 k))
    where
      go : (j : Bool) → empty_refusal {X = Loaded ℕ} (cond j (some (loaded_at at n k q total L N)) none) ≡ cond j none (some ChannelEmpty)
      go true = refl
      go false = refl

  -- What is so of an empty channel, and of one with these cells.
  pub held_cases : (P : Option (Loaded ℕ) → Type 0) → P none → P (some (loaded_at at n k q total L N)) → P (held c at n k q total L N)
  unfolding held
  held_cases P a b = go (ltb c channel_limit && ltb 0 k)
    where
      go : (t : Bool) → P (cond t (some (loaded_at at n k q total L N)) none)
      go true = b
      go false = a

-- The test of entries over their numbers, as the arrays have them.
module _ (at n : ℕ) (kind : ValueKind) (k : ℕ) (L N : List ℕ) where
  abbrev pub flat_test : ℕ → Bool
  flat_test i = value_fits kind (get_or L (at + i) 0) && ltb (get_or N (at + i) 0) k

  abbrev entry : ℕ → Bool
  entry i = value_fits kind (get_or (part L at (k * n)) i 0) && ltb (get_or (part N at (k * n)) i 0) k

  entry_flat : (i : ℕ) → i < k * n → entry i ≡ flat_test i
  entry_flat i h = ap₂ (λ a b. value_fits kind a && ltb b k) (get_d_part L at (k * n) i h) (get_d_part N at (k * n) i h)

  pub flat_entries : every (k * n) flat_test ≡ entries_test n kind k (table_at at n k L N)
  unfolding entries_test
  flat_entries = same_test _ _ to from
    where
      to : every (k * n) flat_test ≡ true → every k (λ l. every n (λ e. entry (l * n + e))) ≡ true
      to h =
          every_of k (λ l. every n (λ e. entry (l * n + e)))
          (λ l a. every_of n (λ e. entry (l * n + e))
          (λ e b. entry_flat (l * n + e) (index_below n k l e a b) ∙ every_at (k * n) flat_test h (l * n + e) (index_below n k l e a b)))

      from : every k (λ l. every n (λ e. entry (l * n + e))) ≡ true → every (k * n) flat_test ≡ true
      from h =
          every_of (k * n) flat_test
          (λ i a.
          sym (entry_flat i a)
          ∙ every_entry (λ i. entry i ≡ true) n k
          (λ l e p q. every_at n (λ e. entry (l * n + e)) (every_at k (λ l. every n (λ e. entry (l * n + e))) h l p) e q) i a)

-- The tests of a loaded channel.
module _ (n : ℕ) (kind : ValueKind) (x : Loaded ℕ) where
  abbrev k : ℕ
  k = x.states

  abbrev entry_test : ℕ → ℕ → Bool
  entry_test l e = value_fits kind (x.table.value l e) && ltb (x.table.next l e) k

  abbrev last : Bool
  last = entries_test n kind k x.table

  abbrev total_test : Bool
  total_test = leb x.total total_limit

  pub in_order_of_test : loaded_test n kind x ≡ true → ChannelInOrder n kind x
  unfolding loaded_test entries_test
  in_order_of_test h =
      let a = and_right (ltb 0 k) (leb k table_limit && (ltb x.current k && (total_test && last))) h in
      let b = and_right (leb k table_limit) (ltb x.current k && (total_test && last)) a in
      let d = and_right (ltb x.current k) (total_test && last) b in
      let entries : (l e : ℕ) → l < k → e < n → entry_test l e ≡ true =
      λ l e p q. every_at n (entry_test l) (every_at k (λ l. every n (entry_test l)) (and_right total_test last d) l p) e q in
      record {
        table =
            record {
              some_states = ltb-true 0 k (and_left (ltb 0 k) (leb k table_limit && (ltb x.current k && (total_test && last))) h);
              few_states = leb-true k table_limit (and_left (leb k table_limit) (ltb x.current k && (total_test && last)) a);
              entry_count = table_length ℕ (entry_bytes kind) (entry_width kind) (entry_length kind) n x.table k;
              start_in = ltb-true x.current k (and_left (ltb x.current k) (total_test && last) b);
              values_in = λ l e p q.
                  (value_kinds.fits kind (x.table.value l e)).0
                  (and_left (value_fits kind (x.table.value l e)) (ltb (x.table.next l e) k) (entries l e p q));
              nexts_in = λ l e p q.
                  ltb-true (x.table.next l e) k
                  (and_right (value_fits kind (x.table.value l e)) (ltb (x.table.next l e) k) (entries l e p q));
            };
        total = leb-true x.total total_limit (and_left total_test last d);
      }

  pub test_of_in_order : ChannelInOrder n kind x → loaded_test n kind x ≡ true
  unfolding loaded_test entries_test
  test_of_in_order f =
      let g = f.table in
      and_both (lt-ltb 0 k g.some_states)
      (and_both (le-leb k table_limit g.few_states)
      (and_both (lt-ltb x.current k g.start_in)
      (and_both (le-leb x.total total_limit f.total)
      (every_of k (λ l. every n (entry_test l))
      (λ l p. every_of n (entry_test l)
      (λ e q.
      and_both ((value_kinds.fits kind (x.table.value l e)).1 (g.values_in l e p q)) (lt-ltb (x.table.next l e) k (g.nexts_in l e p q))))))))

module _ (at n : ℕ) (kind : ValueKind) (k q total : ℕ) (L N : List ℕ) where
  -- Next states by their numbers, as the arrays have them.
  pub flat_next : ChannelInOrder n kind (loaded_at at n k q total L N) → (i : ℕ) → i < k * n → get_or N (at + i) 0 < k
  unfolding loaded_test
  flat_next f i h =
      let x = loaded_at at n k q total L N in
      let a = and_right (ltb 0 k) (leb k table_limit && (ltb q k && (total_test n kind x && last n kind x))) (test_of_in_order n kind x f) in
      let b = and_right (leb k table_limit) (ltb q k && (total_test n kind x && last n kind x)) a in
      let d = and_right (total_test n kind x) (last n kind x) (and_right (ltb q k) (total_test n kind x && last n kind x) b) in
      ltb-true (get_or N (at + i) 0) k
      (and_right (value_fits kind (get_or L (at + i) 0)) (ltb (get_or N (at + i) 0) k)
      (every_at (k * n) (flat_test at n kind k L N) (flat_entries at n kind k L N ∙ d) i h))
