-- Document 01's log ("Tool"), by its own sentences: "It is fed the set-up and the calls with their inputs, nothing of the tool's and no
-- answers. For each channel it has nothing, or a rule and its events in order; at set-up all have nothing." Document 02, F-6: the total of a
-- channel's pulses "since its loading or restart; document 01's log keeps it too, and the distances returned are those of the log's total".
use mathlib.Core.{Path.{◌≡◌}, List.{List, [], ◌∷◌, ◌++◌}, Option.{Option, none, some}}
use Rattle.std.specs.Prelude.{ℕ, zero, ◌+◌, ◌<◌}
use Rattle.limits.specs.Limits.{channel_limit}
use Rattle.theory.specs.{Formula.{Formula, Answers}, MealyMachine.{Machine}, ReachableStates.{IsTableOf}}
use Rattle.refusal.specs.{declared.Refusal.{Refusal}, Refusal.{Condition, First}}
use Rattle.values.specs.Setup.{Setup, setup_meet, setup_top}
use Rattle.formulas.specs.RuleConditions.{encode_formula, node_bytes}
use Rattle.channel_log.specs.Calls.{Call, load, event, restart, restart_all, clear, Reply, accepted, returned, refused, Channels, with_channel, map_option}
use Rattle.channel_log.specs.Calls.{History, Loaded, StandsAs, all_empty}
use Rattle.channel_log.specs.{Distance.{Occurrence, Reading, reading}, Rows.{other_rows}}
use Rattle.recorder.specs.Store.{ToolSetup, channel_conditions}

abbrev pub history : Formula ℕ → List ℕ → ℕ → History ℕ
history φ w total = record { rule = φ; events = w; total = total }

-- A rule with no events, and so no pulses.
abbrev pub begun : Formula ℕ → History ℕ
begun φ = history φ [] zero

-- How many rows a channel has (document 02, F-12): as many as its rule's table has states; none where it has nothing.
abbrev pub RowsOf : Setup → Option (History ℕ) → Option ℕ → Type 0
RowsOf s none none = Unit {0}
RowsOf s none (some n) = ⊥
RowsOf s (some h) none = ⊥
RowsOf s (some h) (some n) = (t : Machine ℕ ℕ) × IsTableOf (setup_meet s) (setup_top s) s.events h.rule n t

module _ (s : ToolSetup) (L : Channels (History ℕ)) where
  -- The channels other than c have n rows.
  abbrev pub OthersHave : ℕ → ℕ → Type 0
  OthersHave c n = (rows : Channels ℕ) × ((d : ℕ) → d < channel_limit → RowsOf s.values (L d) (rows d)) × (other_rows c rows ≡ n)

  -- "The list of refusals below says whether a call is refused, and with what number and place: there a channel with nothing is empty,
  -- and any other is loaded": 14, 15, 16, 19, then 5 to 10 and 25. "17 never arises."
  abbrev pub log_conditions : Call Occurrence → List Condition
  log_conditions call = channel_conditions s.values OthersHave (λ c. map_option (λ h. h.total) (L c)) call

  -- `Takes call reply L'`: the log's reply to a call, and the log afterwards.
  pub data Takes : Call Occurrence → Reply (Reading ℕ) → Channels (History ℕ) → Type 0 where
    -- "A refused call changes nothing in the log."
    refuses : (call : Call Occurrence) (r : Refusal) → First (log_conditions call) (some r) → Takes call (refused r) L
    -- "The channel gets that rule and no events, whatever it had": the rule whose code the bytes are.
    loads : (c : ℕ) (bytes : List ℕ) (φ : Formula ℕ) → First (log_conditions (load c bytes)) none →
        bytes ≡ encode_formula (node_bytes s.values.kind) φ → Takes (load c bytes) accepted (with_channel c (some (begun φ)) L)
    -- "Returns the rule's value on it after the channel's events, the follower being taken on each in turn; then it is added at their end."
    -- The distance is that of the total with "this event's pulses counted in".
    returns : (c : ℕ) (i : Occurrence) (h : History ℕ) (v : ℕ) → First (log_conditions (event c i)) none → L c ≡ some h →
        Answers (setup_meet s.values) (setup_top s.values) h.rule h.events i.event v →
        Takes (event c i) (returned (reading s.wheel v (h.total + i.pulses)))
        (with_channel c (some (history h.rule (h.events ++ (i.event ∷ [])) (h.total + i.pulses))) L)
    -- "The channel's events go."
    restarts : (c : ℕ) (h : History ℕ) → First (log_conditions (restart c)) none → L c ≡ some h →
        Takes (restart c) accepted (with_channel c (some (begun h.rule)) L)
    -- "All channels' events go, rules stay."
    restarts_all : Takes restart_all accepted (λ d. map_option (λ h. begun h.rule) (L d))
    -- "The channel has nothing."
    clears : (c : ℕ) → First (log_conditions (clear c)) none → Takes (clear c) accepted (with_channel c none L)

-- A list of calls, from a log: the replies, and the log afterwards.
pub data Logs (s : ToolSetup) : Channels (History ℕ) → List (Call Occurrence) → List (Reply (Reading ℕ)) → Channels (History ℕ) → Type 0 where
  no_calls : {L : Channels (History ℕ)} → Logs s L [] [] L
  one_more : {L M N : Channels (History ℕ)} {call : Call Occurrence} {calls : List (Call Occurrence)} {reply : Reply (Reading ℕ)}
      {rs : List (Reply (Reading ℕ))} → Takes s L call reply M → Logs s M calls rs N → Logs s L (call ∷ calls) (reply ∷ rs) N

-- What is claimed of a list of calls on the tool of a set-up: its replies are the log's, and the log's only ones; afterwards the tool has the
-- same set-up, and each channel stands as the log says.
pub record AsLogged (s : ToolSetup) (calls : List (Call Occurrence)) (replied : List (Reply (Reading ℕ))) (set_up_after : ToolSetup)
    (after : Channels (Loaded ℕ)) : Type 0 where
  pub log : Channels (History ℕ)
  pub logged : Logs s all_empty calls replied log
  pub only : (rs : List (Reply (Reading ℕ))) (M : Channels (History ℕ)) → Logs s all_empty calls rs M → (rs ≡ replied) × ((c : ℕ) → M c ≡ log c)
  pub same_set_up : set_up_after ≡ s
  pub stands : (c : ℕ) → c < channel_limit → StandsAs (setup_meet s.values) (setup_top s.values) s.values.events (after c) (log c)

-- What is claimed of an accepted load on any tool: the channel stands as one with the rule, no events and no pulses, and no other channel
-- changes.
pub record LoadedAs (s : Setup) (c : ℕ) (rule : List ℕ) (before after : Channels (Loaded ℕ)) : Type 0 where
  pub formula : Formula ℕ
  pub code : rule ≡ encode_formula (node_bytes s.kind) formula
  pub stands : StandsAs (setup_meet s) (setup_top s) s.events (after c) (some (begun formula))
  pub others : (d : ℕ) → ¬ (d ≡ c) → after d ≡ before d
