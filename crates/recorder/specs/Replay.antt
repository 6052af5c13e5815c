-- Twin of Store, pinned by product_claims DemandThree.
-- A sequence of events on one channel into a lent buffer: the event call repeated (document 01, "Tool"), all or nothing.
use mathlib.Core.{Bool.{Bool}, List.{List, [], ◌∷◌, map}, Option.{Option, none, some}}
use Rattle.std.specs.Prelude.{ℕ, ◌+◌}
use lib.{Dec.{ltb, leb}, ListN.{get_or, length}}
use Rattle.theory.specs.ValueSetTests.{every}
use Rattle.refusal.specs.{declared.Refusal.{Refusal}, RefusalAnswers.{or_else, plain_unless, put_unless}}
use Rattle.channel_log.specs.{Distance.{Occurrence, Reading}, CallSteps.{channel_refusal, empty_refusal}, Log.{large_total}}
use Rattle.channel_log.specs.Calls.{restart, Loaded, Reply, accepted, returned, refused, replies, final, event_calls, last_returned}
use Rattle.recorder.specs.{Store.{Store, channels, all_pulses}, Called.{fault_refusal, settled_store, called}}
use Rattle.refusal.specs.declared.Refusal.TheVariants.{BufferLength, EventNumber}

-- What replies return.
abbrev pub all_returned : List (Reply (Reading ℕ)) → List (Reading ℕ)
all_returned [] = []
all_returned (accepted ∷ rs) = all_returned rs
all_returned (returned r ∷ rs) = r ∷ all_returned rs
all_returned (refused r ∷ rs) = all_returned rs

-- Every event of the sequence is below the count.
abbrev pub word_test : ℕ → List ℕ → Bool
word_test events word = every (length word) (λ i. ltb (get_or word i 0) events)

-- 19 of the total with all pulses; an empty channel has none.
abbrev pub pulses_refusal : Option (Loaded ℕ) → ℕ → Option Refusal
pulses_refusal none pulses = none
pulses_refusal (some x) pulses = large_total (x.total + pulses)

-- 17 and 25, 14, 15, then 16 for any event of the sequence, 19, and 13 last: a value for each event.
abbrev pub replay_refusal : Store → ℕ → List Occurrence → List ℕ → Option Refusal
replay_refusal t c word buffer =
    or_else (fault_refusal t (restart c))
    (or_else (channel_refusal c)
    (or_else (empty_refusal (channels t c))
    (or_else (plain_unless (word_test t.setup.events (map (λ i. i.event) word)) EventNumber)
    (or_else (pulses_refusal (channels t c) (all_pulses word)) (plain_unless (leb (length word) (length buffer)) BufferLength)))))

-- The reply, the store and the buffer. Accepted: what the last event call returns, the store after all of them, and the values that they return.
abbrev pub replay_settled : Store → ℕ → List Occurrence → List ℕ → Option Refusal → (Reply (Reading ℕ) × Store) × List ℕ
replay_settled t c word buffer answer = (
  settled_store answer (last_returned (all_returned (replies called (event_calls c word) t))) (final called (event_calls c word) t) t,
  put_unless answer (map (λ r. r.value) (all_returned (replies called (event_calls c word) t))) buffer,
)

unfoldable pub replayed : Store → ℕ → List Occurrence → List ℕ → (Reply (Reading ℕ) × Store) × List ℕ
replayed t c word buffer = replay_settled t c word buffer (replay_refusal t c word buffer)
