-- Twin of Calls, pinned by product_claims DemandThree.
-- How eight channels take calls, whatever a loaded channel holds: the log's hold a rule, its events and a total, the tool's a table, a
-- current state and a total, and both take calls by this one definition.
use mathlib.Core.{Bool.{cond}, List.{List}, Option.{Option, none, some}}
use Rattle.std.specs.Prelude.{ℕ, ltb}
use Rattle.limits.specs.Limits.{channel_limit}
use Rattle.refusal.specs.{declared.Refusal.{Refusal}, RefusalAnswers.{or_else}, declared.Refusal.TheVariants.{ChannelEmpty, ChannelNumber}}
use Rattle.channel_log.specs.Calls.{Call, load, event, restart, restart_all, clear, Reply, accepted, returned, refused, Channels, with_channel, map_option}

-- What a loaded channel holds, and what becomes of it.
pub record Content (X Input Output : Type 0) : Type 0 where
  -- 5 to 10 of a rule's bytes for a channel, then 25; all channels are in sight
  pub load_refusal : Channels X → ℕ → List ℕ → Option Refusal
  -- 16 and 19 of an event on a loaded channel
  pub event_refusal : X → Input → Option Refusal
  -- a channel after a load
  pub loaded : List ℕ → X
  -- what an accepted event returns, and the channel after it
  pub output : X → Input → Output
  pub moved : X → Input → X
  -- a channel after a restart
  pub restarted : X → X

-- 14: channel above 7.
abbrev pub channel_refusal : ℕ → Option Refusal
channel_refusal c = cond (ltb c channel_limit) none (some ChannelNumber)

-- 15: channel empty.
abbrev pub empty_refusal : {X : Type 0} → Option X → Option Refusal
empty_refusal none = some ChannelEmpty
empty_refusal (some x) = none

module _ {X Input Output : Type 0} (K : Content X Input Output) where
  -- 15, then 16 and 19.
  abbrev pub on_event : Option X → Input → Option Refusal
  on_event none i = some ChannelEmpty
  on_event (some x) i = K.event_refusal x i

  -- The first refusal in document 01's order: 14, 15, 16, 19, then 5 to 10 and 25. A call meets only those that concern its inputs.
  abbrev pub call_refusal : Channels X → Call Input → Option Refusal
  call_refusal L (load c r) = or_else (channel_refusal c) (K.load_refusal L c r)
  call_refusal L (event c i) = or_else (channel_refusal c) (on_event (L c) i)
  call_refusal L (restart c) = or_else (channel_refusal c) (empty_refusal (L c))
  call_refusal L restart_all = none
  call_refusal L (clear c) = channel_refusal c

  abbrev pub event_reply : Option X → Input → Reply Output
  event_reply none i = accepted
  event_reply (some x) i = returned (K.output x i)

  -- What an accepted call replies.
  abbrev pub accepted_reply : Channels X → Call Input → Reply Output
  accepted_reply L (load c r) = accepted
  accepted_reply L (event c i) = event_reply (L c) i
  accepted_reply L (restart c) = accepted
  accepted_reply L restart_all = accepted
  accepted_reply L (clear c) = accepted

  -- What an accepted call leaves: load replaces, whatever the channel had; restart all leaves empty channels empty.
  abbrev pub effect : Channels X → Call Input → Channels X
  effect L (load c r) = with_channel c (some (K.loaded r)) L
  effect L (event c i) = with_channel c (map_option (λ x. K.moved x i) (L c)) L
  effect L (restart c) = with_channel c (map_option K.restarted (L c)) L
  effect L restart_all = λ d. map_option K.restarted (L d)
  effect L (clear c) = with_channel c none L

  -- A refused call changes nothing.
  abbrev pub settled : Option Refusal → Reply Output → Channels X → Channels X → Reply Output × Channels X
  settled none reply after before = (reply, after)
  settled (some r) reply after before = (refused r, before)

  -- One call: its reply, and the channels afterwards.
  abbrev pub step : Call Input → Channels X → Reply Output × Channels X
  step call L = settled (call_refusal L call) (accepted_reply L call) (effect L call) L
