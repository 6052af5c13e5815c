-- What the private functions of the tool find: the first refusal so far, as each call goes on, and what an accepted call needs.
use mathlib.Core.{Bool.{Bool, ◌&&◌, cond}, List.{List, [], ◌∷◌, ◌++◌}, Option.{Option}}
use Rattle.std.specs.Prelude.{ℕ, zero, suc, ◌+◌, ◌*◌, ◌-◌, ◌/◌, ◌≤◌, ◌<◌, leb, Result, Ok, Err}
use lib.{ListN.{get_or, length, set, take, drop, replicate}}
use Rattle.limits.specs.Limits.{channel_limit, event_limit, table_limit, entry_limit, row_limit, store_limit, turn_limit, total_limit}
use Rattle.theory.specs.MealyMachine.{Machine}
use Rattle.refusal.specs.{declared.Refusal.{Refusal}, declared.Refusal.TheVariants.{ToolContents}}
use Rattle.refusal.specs.RefusalAnswers.{or_else, plain_unless}
use Rattle.values.specs.declared.ValueKind.{ValueKind}
use Rattle.machines.specs.TableBytes.{entry_width}
use Rattle.channel_log.specs.{Calls.{Reply, accepted, returned, refused, restart}, Distance.{Wheel, Reading, reading}}
use Rattle.channel_log.specs.CallSteps.{channel_refusal, empty_refusal}
use Rattle.channel_log.specs.{Log.{rows_refusal}, Rows.{all_rows}}
use Rattle.recorder.specs.{Store.{Store, reply_of, table_at, rows_start, channels, rows}, Called.{with_current, fault_refusal}}
use Rattle.recorder.specs.Splicing.{row_count, own_entries, later_entries, spliced, entry_values}
use Rattle.recorder.specs.{declared.row_store.Room.{Room}, declared.Step.{Step}, declared.Settled.{Settled}}

-- 17 by its test, and 25; of the named channel, then 14; then 15.
abbrev pub fault_of : Store → Bool → Option Refusal
fault_of t in_order = or_else (plain_unless in_order ToolContents) (rows_refusal (all_rows (rows t)))

abbrev pub named_refusal : Store → ℕ → Option Refusal
named_refusal t c = or_else (fault_refusal t (restart c)) (channel_refusal c)

abbrev pub loaded_refusal : Store → ℕ → Option Refusal
loaded_refusal t c = or_else (named_refusal t c) (empty_refusal (channels t c))

abbrev pub sum_of : List ℕ → ℕ
sum_of [] = 0
sum_of (n ∷ l) = n + sum_of l

-- So many pulses are added up before the total is looked at.
abbrev pub pulse_block : ℕ
pulse_block = 4096

-- Where the entry of a state and an event lies, within the arrays.
abbrev pub entry_place : ℕ → ℕ → ℕ → ℕ → ℕ
entry_place at events q e = at + (q * events + e)

pub record Bounds (at events q e : ℕ) : Type 0 where
  pub row : q * events ≤ entry_limit
  pub place : entry_place at events q e < store_limit

-- So many numbers taken together two by two: by max their largest, by or the bits of all.
unfoldable pub together : (ℕ → ℕ → ℕ) → ℕ → (ℕ → ℕ) → ℕ
together op zero f = 0
together op (suc n) f = op (together op n f) (f n)

-- A wheel and a total whose distance can be told.
pub record Measurable (wheel : Wheel) (total : ℕ) : Type 0 where
  pub some_pulses : 1 ≤ wheel.pulses
  pub few_pulses : wheel.pulses ≤ turn_limit
  pub few_millimetres : wheel.millimetres ≤ turn_limit
  pub small_total : total ≤ total_limit

-- The reply to a sequence: that of its last event.
abbrev pub end_reply : Wheel → List ℕ → ℕ → Reply (Reading ℕ)
end_reply wheel [] total = accepted
end_reply wheel (v ∷ []) total = returned (reading wheel v total)
end_reply wheel (v ∷ (w ∷ vs)) total = end_reply wheel (w ∷ vs) total

-- What storing a table of k states in channel c needs: there is room, before and after.
pub record Storable (events : ℕ) (states : List ℕ) (c k : ℕ) : Type 0 where
  pub channel : c < channel_limit
  pub few_events : events ≤ event_limit
  pub fits : row_count states ≤ row_limit
  pub new_fits : row_count (set states c k) ≤ row_limit

-- Where the rows of channel c lie, and what k states in their place need; both fit the store.
abbrev pub room_of : ℕ → List ℕ → ℕ → ℕ → Room
room_of events states c k =
    record { at = rows_start events states c; old = own_entries events states c; new = k * events; later = later_entries events states c }

pub record RoomFits (room : Room) : Type 0 where
  pub old_fits : room.at + room.old + room.later ≤ store_limit
  pub new_fits : room.at + room.new + room.later ≤ store_limit

abbrev pub room_test : Room → Bool
room_test room = leb (room.at + room.later + room.old) store_limit && leb (room.at + room.later + room.new) store_limit

-- A column with a table's values in such a room; as it was where they don't fit, or the table has fewer.
unfoldable pub spliced_column : ValueKind → Room → List ℕ → List ℕ → List ℕ
spliced_column kind room table rows =
    cond (room_test room && leb room.new (length table / entry_width kind))
    (spliced rows room.at room.old (entry_values kind table room.new) room.later) rows

-- The rows up to the end of the place for so many new entries, the later ones right behind it, then zeros.
abbrev pub roomed : {A : Type 0} → A → List A → ℕ → ℕ → ℕ → ℕ → List A
roomed blank rows at old new later =
    take (at + new) rows ++ take later (drop (at + old) rows) ++ replicate (store_limit - (at + new + later)) blank

-- The table in channel c.
abbrev pub own_table : Store → ℕ → Machine ℕ ℕ
own_table t c = table_at (rows_start t.setup.events t.states c) t.setup.events (get_or t.states c 0) t.value t.next

-- What a run over a sequence needs: a table in the rows, a state of it, events of it, and room for the values.
pub record Runnable (from events k q : ℕ) (value next word buffer : List ℕ) : Type 0 where
  pub room : from + k * events ≤ store_limit
  pub few_states : k ≤ table_limit
  pub few_events : events ≤ event_limit
  pub state : q < k
  pub nexts : (i : ℕ) → i < k * events → get_or next (from + i) 0 < k
  pub word_in : (i : ℕ) → i < length word → get_or word i 0 < events
  pub fits : length word ≤ length buffer

abbrev pub run_of : Store → ℕ → List ℕ → List ℕ → Type 0
run_of t c word buffer =
    Runnable (rows_start t.setup.events t.states c) t.setup.events (get_or t.states c 0) (get_or t.current c 0) t.value t.next word buffer

-- The reply and the store after an event or a restart, from what it comes to; and what is written: where it is refused, the state and the
-- total that are there.
abbrev pub stepped : Store → ℕ → Result Step Refusal → Reply (Reading ℕ) × Store
stepped t c (Ok s) = (reply_of (Ok s.reading), with_current t (set t.current c s.state) (set t.total c s.total))
stepped t c (Err r) = (refused r, t)

abbrev pub settle : Result Step Refusal → ℕ → ℕ → Settled
settle (Ok s) state total = record { reply = Ok s.reading; state = s.state; total = s.total }
settle (Err r) state total = record { reply = Err r; state = state; total = total }
