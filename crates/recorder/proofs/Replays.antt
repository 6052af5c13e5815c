-- A sequence of events on one channel is the event call repeated; what is decided on it is what its definition says.
use mathlib.Core.{Path.{◌≡◌, refl, sym, ◌∙◌, ap, ap₂, subst, subst⁻¹}, Bool.{Bool, true, false, cond}, List.{List, [], ◌∷◌, ◌++◌, map}}
use mathlib.Core.Option.{Option, none, some, some-ne-none}
use Prim.Native.Nat.{ℕ, zero, suc, ◌+◌, ◌-◌, ◌≤◌, ◌<◌, min}
use native.Mathlib.Omega.{arith}
use Rattle.std.specs.Prelude.{Ok, Err}
use borrow.Author.Tests.{ltb-true, lt-ltb, leb-true, leb-false, le-leb, lt-leb}
use lib.{Dec.{ltb, leb}, ListN.{length, get_or, set, take, drop, length-set}}
use lib.Seq.{paste, take_all, take-nil, take-add, take-append_seam, get_or-set_same, set-get_or, set-set}
use Rattle.theory.proofs.{Words.{length_word_values}, ValueSets.{and_both, every_at}}
use Rattle.limits.specs.Limits.{channel_limit, row_limit, total_limit}
use Rattle.theory.specs.MealyMachine.{Machine, Word, after}
use Rattle.theory.specs.MachineRuns.{word_values}
use Rattle.refusal.specs.{declared.Refusal.{Refusal}, declared.Refusal.TheVariants.{BufferLength, EventNumber, PulseTotal}}
use Rattle.refusal.specs.{Refusal.{put}, RefusalAnswers.{or_else, plain_unless, put_unless}}
use Rattle.refusal.proofs.Refusals.{or_else_none, plain_none}
use Rattle.channel_log.specs.Calls.{event, restart, Reply, returned, refused, replies, final, event_calls, last_returned}
use Rattle.channel_log.specs.{CallSteps.{channel_refusal, empty_refusal}, Log.{large_total}, Rows.{all_rows}}
use Rattle.channel_log.specs.Distance.{Wheel, Occurrence, Reading, reading}
use Rattle.recorder.specs.Store.{Store, channels, rows, occurrences, all_pulses}
use Rattle.channel_log.proofs.Record.{total_fits}
use Rattle.recorder.specs.ToolTests.{channel_test}
use Rattle.recorder.specs.Called.{with_current, fault_refusal, called}
use Rattle.recorder.specs.Replay.{all_returned, word_test, pulses_refusal, replay_refusal, replay_settled, replayed}
use Rattle.recorder.specs.Decisions.{loaded_refusal, sum_of, Measurable, end_reply, run_of}
use Rattle.refusal.specs.RefusalAnswers.{answered}
use Rattle.recorder.proofs.RowCounts.{start, all_rows_are}
use Rattle.recorder.proofs.Held.{held_some, held_cases, test_of_in_order, flat_next}
use Rattle.recorder.proofs.Decided.{Ready, ready_of, first_three, table_of, state_of, total_of, loaded_with, has}
use Rattle.recorder.proofs.Decided.{ready_facts, ready_events, ready_room, measurable, small_total, over_total}

abbrev moved_to : Store → ℕ → ℕ → ℕ → Store
moved_to t c q total = with_current t (set t.current c q) (set t.total c total)

-- The events of a sequence, and what each returns.
abbrev pub events_of : List Occurrence → List ℕ
events_of word = map (λ i. i.event) word

unfoldable pub word_readings : Wheel → Machine ℕ ℕ → ℕ → ℕ → List Occurrence → List (Reading ℕ)
word_readings wheel m q total [] = []
word_readings wheel m q total (i ∷ word) =
    reading wheel (m.value q i.event) (total + i.pulses) ∷ word_readings wheel m (m.next q i.event) (total + i.pulses) word

module _ (t : Store) (c : ℕ) (g : Ready t c) (l : length t.current ≡ channel_limit) (k : length t.total ≡ channel_limit) where
  written : (q : ℕ) → get_or (set t.current c q) c 0 ≡ q
  written q = get_or-set_same t.current c q 0 (omega (arith, g.channel, l))

  summed : (n : ℕ) → get_or (set t.total c n) c 0 ≡ n
  summed n = get_or-set_same t.total c n 0 (omega (arith, g.channel, k))

  module _ (i : Occurrence) (e : i.event < t.setup.events) (small : total_of t c + i.pulses ≤ total_limit) where
    abbrev after_it : Store
    after_it = moved_to t c ((table_of t c).next (state_of t c) i.event) (total_of t c + i.pulses)

    one :
        called (event c i) t ≡ (returned (reading t.wheel ((table_of t c).value (state_of t c) i.event) (total_of t c + i.pulses)), after_it)
    unfolding called or_else plain_unless
    one =
        rw (
          and_both g.setup_passes g.in_order,
          lt-ltb c channel_limit g.channel,
          has t c g,
          lt-ltb i.event t.setup.events e,
          le-leb (total_of t c + i.pulses) total_limit small,
          le-leb (all_rows (rows t)) row_limit (subst⁻¹ (λ n. n ≤ row_limit) (all_rows_are t) g.rows_fit),
        )

    ready_next : Ready after_it c
    ready_next =
        let q = (table_of t c).next (state_of t c) i.event in
        let n = total_of t c + i.pulses in
        let f = (ready_facts t c g).table in
        record {
          setup_passes = g.setup_passes;
          channel = g.channel;
          loaded = g.loaded;
          rows_fit = g.rows_fit;
          in_order =
              ap (channel_test t.setup.events t.setup.kind)
              (held_some c (start t c) t.setup.events (get_or t.states c 0) (get_or (set t.current c q) c 0) (get_or (set t.total c n) c 0)
              t.value t.next g.channel g.loaded
              ∙ ap₂ (λ q n. some (loaded_with t c q n)) (written q) (summed n))
              ∙ test_of_in_order t.setup.events t.setup.kind (loaded_with t c q n)
              (record {
                table =
                    record {
                      some_states = f.some_states;
                      few_states = f.few_states;
                      entry_count = f.entry_count;
                      start_in = f.nexts_in (state_of t c) i.event f.start_in e;
                      values_in = f.values_in;
                      nexts_in = f.nexts_in;
                    };
                total = small;
              });
        }

-- One event call after another.
pub repeated :
    (w : List Occurrence) (t : Store) (c : ℕ) → Ready t c → length t.current ≡ channel_limit → length t.total ≡ channel_limit →
    Word t.setup.events (events_of w) → total_of t c + all_pulses w ≤ total_limit →
    (replies called (event_calls c w) t ≡ map returned (word_readings t.wheel (table_of t c) (state_of t c) (total_of t c) w))
    × (final called (event_calls c w) t ≡ moved_to t c (after (table_of t c) (state_of t c) (events_of w)) (total_of t c + all_pulses w))
unfolding all_pulses word_readings
repeated [] t c g l k h s =
    let z : total_of t c ≡ total_of t c + 0 = omega arith in
    (refl, sym (ap (λ n. moved_to t c (state_of t c) n) (sym z) ∙ ap₂ (with_current t) (set-get_or t.current c 0) (set-get_or t.total c 0)))
repeated (i ∷ w) t c g l k h s =
    let q = (table_of t c).next (state_of t c) i.event in
    let n = total_of t c + i.pulses in
    let u = moved_to t c q n in
    let small : n ≤ total_limit = omega (arith, s) in
    let whole : n + all_pulses w ≡ total_of t c + (i.pulses + all_pulses w) = omega arith in
    let o = one t c g l k i h.0 small in
    let y = written t c g l k q in
    let z = summed t c g l k n in
    let r =
    repeated w u c (ready_next t c g l k i h.0 small) (length-set t.current c q ∙ l) (length-set t.total c n ∙ k) h.1
    (subst⁻¹ (λ m. m + all_pulses w ≤ total_limit) z (subst⁻¹ (λ m. m ≤ total_limit) whole s)) in (
      ap (λ p. p.0 ∷ replies called (event_calls c w) p.1) o
          ∙ ap (λ l. returned (reading t.wheel ((table_of t c).value (state_of t c) i.event) n) ∷ l)
          (r.0 ∙ ap₂ (λ q n. map returned (word_readings t.wheel (table_of t c) q n w)) y z),
      ap (λ p. final called (event_calls c w) p.1) o ∙ r.1
          ∙ ap₂ (λ x m. with_current t (set (set t.current c q) c (after (table_of t c) x (events_of w))) (set (set t.total c n) c (m + all_pulses w)))
          y z
          ∙ ap₂ (with_current t) (set-set t.current c q (after (table_of t c) q (events_of w))) (set-set t.total c n (n + all_pulses w))
          ∙ ap (λ m. moved_to t c (after (table_of t c) q (events_of w)) m) whole,
    )

pub returned_back : (l : List (Reading ℕ)) → all_returned (map returned l) ≡ l
returned_back [] = refl
returned_back (r ∷ l) = ap (λ l. r ∷ l) (returned_back l)

-- Of what each event returns: how many there are, the values, and the last.
module _ (wheel : Wheel) (m : Machine ℕ ℕ) where
  pub length_readings : (q total : ℕ) (w : List Occurrence) → length (word_readings wheel m q total w) ≡ length w
  unfolding word_readings
  length_readings q total [] = refl
  length_readings q total (i ∷ w) = ap suc (length_readings (m.next q i.event) (total + i.pulses) w)

  pub reading_values : (q total : ℕ) (w : List Occurrence) → map (λ r. r.value) (word_readings wheel m q total w) ≡ word_values m q (events_of w)
  unfolding word_readings
  reading_values q total [] = refl
  reading_values q total (i ∷ w) = ap (λ l. m.value q i.event ∷ l) (reading_values (m.next q i.event) (total + i.pulses) w)

  pub last_reading :
      (q total : ℕ) (w : List Occurrence) →
      last_returned (word_readings wheel m q total w) ≡ end_reply wheel (word_values m q (events_of w)) (total + all_pulses w)
  unfolding all_pulses word_readings
  last_reading q total [] = refl
  last_reading q total (i ∷ []) =
      let z : total + i.pulses ≡ total + (i.pulses + 0) = omega arith in ap (λ n. returned (reading wheel (m.value q i.event) n)) z
  last_reading q total (i ∷ (j ∷ w)) =
      let z : total + i.pulses + (j.pulses + all_pulses w) ≡ total + (i.pulses + (j.pulses + all_pulses w)) = omega arith in
      last_reading (m.next q i.event) (total + i.pulses) (j ∷ w)
      ∙ ap (end_reply wheel (word_values m (m.next q i.event) (events_of (j ∷ w)))) z

word_of : (n : ℕ) (w : List ℕ) → ((i : ℕ) → i < length w → get_or w i 0 < n) → Word n w
word_of n [] h = tt
word_of n (e ∷ w) h = (h 0 (omega arith), word_of n w (λ i l. h (suc i) (omega arith)))

pasted_put : (out l : List ℕ) (n : ℕ) → length l ≡ n → paste out 0 l n ≡ put l out
unfolding put
pasted_put out l n h =
    let z : 0 + n ≡ length l = omega arith in
    ap₂ (λ a b. a ++ drop b out) (take_all n l (omega arith)) z

take_put : (out l : List ℕ) → take (length l) (put l out) ≡ l
unfolding put
take_put out l = take-append_seam l (drop (length l) out)

-- Events with their pulses.
pub occurred : (word pulses : List ℕ) → events_of (occurrences word pulses) ≡ word
unfolding occurrences
occurred [] pulses = refl
occurred (e ∷ word) [] = ap (λ l. e ∷ l) (occurred word [])
occurred (e ∷ word) (p ∷ pulses) = ap (λ l. e ∷ l) (occurred word pulses)

pub length_occurrences : (word pulses : List ℕ) → length (occurrences word pulses) ≡ length word
unfolding occurrences
length_occurrences [] pulses = refl
length_occurrences (e ∷ word) [] = ap suc (length_occurrences word [])
length_occurrences (e ∷ word) (p ∷ pulses) = ap suc (length_occurrences word pulses)

pub pulses_are : (word pulses : List ℕ) → all_pulses (occurrences word pulses) ≡ sum_of (take (length word) pulses)
unfolding occurrences all_pulses
pulses_are [] pulses = refl
pulses_are (e ∷ word) [] = ap (λ n. 0 + n) (pulses_are word [] ∙ ap sum_of (take-nil (length word)))
pulses_are (e ∷ word) (p ∷ pulses) = ap (λ n. p + n) (pulses_are word pulses)

-- The pulses of so many events, where there are any; and of so many more.
pub take_min : (n : ℕ) (l : List ℕ) → take (min n (length l)) l ≡ take n l
take_min n l = go (leb n (length l)) refl
  where
    go : (b : Bool) → leb n (length l) ≡ b → take (min n (length l)) l ≡ take n l
    go true p = let e : min n (length l) ≡ n = omega (arith, leb-true n (length l) p) in ap (λ k. take k l) e
    go false p =
        let h = leb-false n (length l) p in
        take_all (min n (length l)) l (omega (arith, h)) ∙ sym (take_all n l (omega (arith, h)))

sum_append : (a b : List ℕ) → sum_of (a ++ b) ≡ sum_of a + sum_of b
sum_append [] b = omega arith
sum_append (p ∷ a) b = omega (arith, sum_append a b)

pub sum_block : (pulses : List ℕ) (i n : ℕ) → sum_of (take (i + n) pulses) ≡ sum_of (take i pulses) + sum_of (take n (drop i pulses))
sum_block pulses i n = ap sum_of (take-add i n pulses) ∙ sum_append (take i pulses) (take n (drop i pulses))

-- The pulses of one more event, and the last of so many values.
pub sum_more : (pulses : List ℕ) (i : ℕ) → i < length pulses → sum_of (take (suc i) pulses) ≡ sum_of (take i pulses) + get_or pulses i 0
sum_more [] i h = absurd (omega arith)
sum_more (p ∷ pulses) zero h = omega arith
sum_more (p ∷ pulses) (suc i) h = omega (arith, sum_more pulses i (omega arith))

-- A total that is above the limit after some of the pulses is above it after all.
pub total_over : (m : ℕ) (r : Refusal) → large_total m ≡ some r → (total_limit < m) × (r ≡ PulseTotal)
total_over m r e = go (leb m total_limit) refl e
  where
    go : (b : Bool) → leb m total_limit ≡ b → cond b none (some PulseTotal) ≡ some r → (total_limit < m) × (r ≡ PulseTotal)
    go true p e = absurd (some-ne-none r (sym e))
    go false p e = (leb-false m total_limit p, cc)

pub sum_to :
    (total : ℕ) (pulses : List ℕ) (i m s b : ℕ) → s ≡ total + sum_of (take i pulses) → b ≡ sum_of (take (i + m - i) (drop i pulses)) →
    s + b ≡ total + sum_of (take (i + m) pulses)
sum_to total pulses i m s b e d =
    let z : i + (i + m - i) ≡ i + m = omega arith in
    omega (arith, e, d, sum_block pulses i (i + m - i), ap (λ k. sum_of (take k pulses)) z)

module _ (total count : ℕ) (pulses : List ℕ) where
  abbrev whole : ℕ
  whole = total + sum_of (take count pulses)

  pub over_in_part :
      (n : ℕ) → n ≤ min count (length pulses) → (r : Refusal) → large_total (total + sum_of (take n pulses)) ≡ some r →
      Err r ≡ answered (large_total whole) whole
  unfolding answered
  over_in_part n h r e =
      let o = total_over (total + sum_of (take n pulses)) r e in
      let z : n + (count - n) ≡ count = omega (arith, h) in
      let m = ap (λ k. sum_of (take k pulses)) z in
      let over : total_limit < whole = omega (arith, o.0, m, sum_block pulses n (count - n)) in
      ap Err o.1 ∙ sym (ap (λ a. answered a whole) (over_total whole over))

  pub within_all :
      (n : ℕ) → n ≡ min count (length pulses) → (s : ℕ) → s ≡ total + sum_of (take n pulses) → s ≤ total_limit →
      Ok s ≡ answered (large_total whole) whole
  unfolding answered
  within_all n e s d h =
      let m = ap (λ k. sum_of (take k pulses)) e ∙ ap sum_of (take_min count pulses) in
      let w : s ≡ whole = omega (arith, d, m) in
      ap Ok w ∙ sym (ap (λ a. answered a whole) (small_total whole (subst (λ k. k ≤ total_limit) w h)))

pub last_value :
    (wheel : Wheel) (l : List ℕ) (n total : ℕ) → n < length l → returned (reading wheel (get_or l n 0) total) ≡ end_reply wheel (take (suc n) l) total
last_value wheel [] n total h = absurd (omega arith)
last_value wheel (v ∷ l) zero total h = refl
last_value wheel (v ∷ []) (suc n) total h = absurd (omega arith)
last_value wheel (v ∷ (w ∷ l)) (suc n) total h = last_value wheel (w ∷ l) n total (omega arith)

-- What an accepted sequence has.
pub record Accepted (t : Store) (c : ℕ) (word : List Occurrence) (out : List ℕ) : Type 0 where
  pub ready : Ready t c
  pub events_in : (i : ℕ) → i < length (events_of word) → get_or (events_of word) i 0 < t.setup.events
  pub word_in : Word t.setup.events (events_of word)
  pub small : total_of t c + all_pulses word ≤ total_limit
  pub fits : length word ≤ length out

pub accepted_of : (t : Store) (c : ℕ) (word : List Occurrence) (out : List ℕ) → replay_refusal t c word out ≡ none → Accepted t c word out
accepted_of t c word out h =
    let n = t.setup.events in
    let w = events_of word in
    let O = plain_unless (word_test n w) EventNumber in
    let P = pulses_refusal (channels t c) (all_pulses word) in
    let F = plain_unless (leb (length word) (length out)) BufferLength in
    let r = ready_of t c (or_else O (or_else P F)) h in
    let o = or_else_none O (or_else P F) r.1 in
    let p = or_else_none P F o.1 in
    let below : (i : ℕ) → i < length w → get_or w i 0 < n =
    λ i l. ltb-true (get_or w i 0) n (every_at (length w) (λ i. ltb (get_or w i 0) n) (plain_none (word_test n w) EventNumber o.0) i l) in
    record {
      ready = r.0;
      events_in = below;
      word_in = word_of n w below;
      small =
          total_fits (total_of t c + all_pulses word)
          (subst (λ x. pulses_refusal x (all_pulses word) ≡ none) (has t c r.0) p.0);
      fits = leb-true (length word) (length out) (plain_none (leb (length word) (length out)) BufferLength p.1);
    }

-- 19 of the total in the cells is that of what the channel holds, where it is not empty.
pulses_same :
    (t : Store) (c n : ℕ) (a b : Option Refusal) →
    or_else (empty_refusal (channels t c)) (or_else a (or_else (large_total (get_or t.total c 0 + n)) b))
    ≡ or_else (empty_refusal (channels t c)) (or_else a (or_else (pulses_refusal (channels t c) n) b))
unfolding or_else
pulses_same t c n a b =
    held_cases c (start t c) t.setup.events (get_or t.states c 0) (get_or t.current c 0) (get_or t.total c 0) t.value t.next
    (λ o.
    or_else (empty_refusal o) (or_else a (or_else (large_total (get_or t.total c 0 + n)) b))
    ≡ or_else (empty_refusal o) (or_else a (or_else (pulses_refusal o n) b)))
    refl refl

module _ (t : Store) (c : ℕ) (word pulses out : List ℕ) where
  abbrev W : List Occurrence
  W = occurrences word pulses

  -- The total as the code adds it up.
  abbrev sum : ℕ
  sum = get_or t.total c 0 + sum_of (take (length word) pulses)

  sum_is : get_or t.total c 0 + all_pulses W ≡ sum
  sum_is = ap (λ n. get_or t.total c 0 + n) (pulses_are word pulses)

  abbrev sixteen : Option Refusal
  sixteen = plain_unless (word_test t.setup.events word) EventNumber

  abbrev thirteen : Option Refusal
  thirteen = plain_unless (leb (length word) (length out)) BufferLength

  found : replay_refusal t c W out ≡ or_else (loaded_refusal t c) (or_else sixteen (or_else (large_total sum) thirteen))
  found =
      let F = fault_refusal t (restart c) in
      ap (λ o. or_else F (or_else (channel_refusal c) o))
      (sym (pulses_same t c (all_pulses W) (plain_unless (word_test t.setup.events (events_of W)) EventNumber)
      (plain_unless (leb (length W) (length out)) BufferLength))
      ∙ ap₂ (λ w n. or_else (empty_refusal (channels t c)) (or_else (plain_unless (word_test t.setup.events w) EventNumber)
      (or_else (large_total n) (plain_unless (leb (length W) (length out)) BufferLength)))) (occurred word pulses) sum_is
      ∙ ap (λ n. or_else (empty_refusal (channels t c)) (or_else sixteen (or_else (large_total sum) (plain_unless (leb n (length out)) BufferLength))))
      (length_occurrences word pulses))
      ∙ first_three _ _ _ _

  refused_with : (r : Refusal) → replay_refusal t c W out ≡ some r → ((refused r, t), out) ≡ replayed t c W out
  unfolding replayed put_unless
  refused_with r h = sym (ap (replay_settled t c W out) h)

  pub replay_refused : (r : Refusal) → loaded_refusal t c ≡ some r → ((refused r, t), out) ≡ replayed t c W out
  unfolding or_else
  replay_refused r h = refused_with r (found ∙ ap (λ o. or_else o (or_else sixteen (or_else (large_total sum) thirteen))) h)

  module _ (h : loaded_refusal t c ≡ none) where
    found_later : replay_refusal t c W out ≡ or_else sixteen (or_else (large_total sum) thirteen)
    unfolding or_else
    found_later = found ∙ ap (λ o. or_else o (or_else sixteen (or_else (large_total sum) thirteen))) h

    pub replay_large : word_test t.setup.events word ≡ false → ((refused EventNumber, t), out) ≡ replayed t c W out
    unfolding or_else plain_unless
    replay_large e = refused_with EventNumber (found_later ∙ ap (λ b. or_else (plain_unless b EventNumber) (or_else (large_total sum) thirteen)) e)

    module _ (e : word_test t.setup.events word ≡ true) where
      found_last : replay_refusal t c W out ≡ or_else (large_total sum) thirteen
      unfolding or_else plain_unless
      found_last = found_later ∙ ap (λ b. or_else (plain_unless b EventNumber) (or_else (large_total sum) thirteen)) e

      pub replay_many : (r : Refusal) → large_total sum ≡ some r → ((refused r, t), out) ≡ replayed t c W out
      unfolding or_else
      replay_many r l = refused_with r (found_last ∙ ap (λ o. or_else o thirteen) l)

      module _ (l : large_total sum ≡ none) where
        pub replay_short : length out < length word → ((refused BufferLength, t), out) ≡ replayed t c W out
        unfolding or_else plain_unless
        replay_short s =
            refused_with BufferLength
            (found_last ∙ ap (λ o. or_else o thirteen) l ∙ ap (λ b. plain_unless b BufferLength) (lt-leb (length word) (length out) s))

        module _ (room : length word ≤ length out) where
          fine : replay_refusal t c W out ≡ none
          unfolding or_else plain_unless
          fine = found_last ∙ ap (λ o. or_else o thirteen) l ∙ ap (λ b. plain_unless b BufferLength) (le-leb (length word) (length out) room)

          facts : Accepted t c W out
          facts = accepted_of t c W out fine

          pub runnable : run_of t c word out
          runnable =
              let g = ready_facts t c facts.ready in
              let x = g.table in
              let n = t.setup.events in
              record {
                room = ready_room t c facts.ready;
                few_states = x.few_states;
                few_events = ready_events t c facts.ready;
                state = x.start_in;
                nexts = flat_next (start t c) n t.setup.kind (get_or t.states c 0) (state_of t c) (total_of t c) t.value t.next g;
                word_in = subst (λ l. (i : ℕ) → i < length l → get_or l i 0 < n) (occurred word pulses) facts.events_in;
                fits = room;
              }

          pub replay_measurable : Measurable t.wheel sum
          replay_measurable = subst (Measurable t.wheel) sum_is (measurable t c facts.ready (total_of t c + all_pulses W) facts.small)

          abbrev values_there : List ℕ
          values_there = word_values (table_of t c) (state_of t c) word

          pub replay_done :
              (a : Reply (Reading ℕ)) (b : List ℕ) → length t.current ≡ channel_limit → length t.total ≡ channel_limit →
              b ≡ paste out 0 values_there (length word) → a ≡ end_reply t.wheel (take (length word) b) sum →
              ((a, with_current t (set t.current c (after (table_of t c) (state_of t c) word)) (set t.total c sum)), b) ≡ replayed t c W out
          unfolding replayed put_unless
          replay_done a b k n e2 e3 =
              let run = repeated W t c facts.ready k n facts.word_in facts.small in
              let readings = word_readings t.wheel (table_of t c) (state_of t c) (total_of t c) W in
              let q = after (table_of t c) (state_of t c) word in
              let counted = length_word_values (table_of t c) (state_of t c) word in
              let e4 : b ≡ put values_there out = e2 ∙ pasted_put out values_there (length word) counted in
              let front : take (length word) b ≡ values_there = ap₂ take (sym counted) e4 ∙ take_put out values_there in
              let same : events_of W ≡ word = occurred word pulses in
              ap₂ (λ a b. ((a, with_current t (set t.current c q) (set t.total c sum)), b)) (e3 ∙ ap (λ v. end_reply t.wheel v sum) front) e4
              ∙ ap (λ s. ((end_reply t.wheel values_there s, with_current t (set t.current c q) (set t.total c s)), put values_there out)) (sym sum_is)
              ∙ sym
              (ap₂ (λ u l. ((last_returned l, u), put (map (λ r. r.value) l) out))
              (run.1 ∙ ap (λ l. moved_to t c (after (table_of t c) (state_of t c) l) (total_of t c + all_pulses W)) same)
              (ap all_returned run.0 ∙ returned_back readings)
              ∙ ap₂ (λ x l. ((x, moved_to t c q (total_of t c + all_pulses W)), put l out))
              (last_reading t.wheel (table_of t c) (state_of t c) (total_of t c) W
              ∙ ap (λ l. end_reply t.wheel (word_values (table_of t c) (state_of t c) l) (total_of t c + all_pulses W)) same)
              (reading_values t.wheel (table_of t c) (state_of t c) (total_of t c) W
              ∙ ap (word_values (table_of t c) (state_of t c)) same))
              ∙ sym (ap (replay_settled t c W out) fine)
