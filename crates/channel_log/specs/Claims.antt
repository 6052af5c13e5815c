-- Demand 3 as one claim about every list of calls, and the independence of channels (document 02, F-12), for any tool.
use mathlib.Core.{Path.{◌≡◌}, List.{List, [], ◌∷◌}, Option.{Option}}
use Rattle.std.specs.Prelude.{ℕ, ◌<◌}
use Rattle.limits.specs.Limits.{channel_limit}
use Rattle.refusal.specs.Refusal.{refusal_number}
use Rattle.channel_log.specs.Calls.{Call, load, event, Reply, accepted, returned, refused, Channels, all_empty, map_option, replies, final}
use Rattle.channel_log.specs.{Calls.{accepted_on, replies_on}, Rows.{other_rows}}
use Rattle.channel_log.specs.CallSteps.{Content, step}

-- No reply is refusal n.
abbrev pub Never : {Output : Type 0} → ℕ → List (Reply Output) → Type 0
Never n [] = Unit {0}
Never n (accepted ∷ rs) = Never n rs
Never n (returned v ∷ rs) = Never n rs
Never n (refused r ∷ rs) = ¬ (refusal_number r ≡ n) × Never n rs

-- `call`: the function that the contracts of the five calls state; `channels`: what a tool's channels hold; `log`: the log's
-- content; `Stands`: how a channel stands by the log.
module _ {Tool X Y Input Output : Type 0} (call : Call Input → Tool → Reply Output × Tool) (channels : Tool → Channels Y)
    (log : Content X Input Output) (Stands : Option Y → Option X → Type 0) (tool : Tool) where
  -- Acceptance, each refusal's refusal-number and place, and each accepted event's value equal the log's; 17 never arises; afterwards
  -- each channel stands as the log says.
  pub record AsComputed (calls : List (Call Input)) : Type 0 where
    pub same_replies : replies call calls tool ≡ replies (step log) calls all_empty
    pub never_17 : Never 17 (replies call calls tool)
    pub stands : (c : ℕ) → c < channel_limit → Stands (channels (final call calls tool) c) (final (step log) calls all_empty c)

  -- Two lists with the same accepted calls on channel c, whatever calls named the others: the same replies to those calls, the same channel
  -- afterwards, and the same reply to any event on it next.
  pub record Independent (c : ℕ) (calls others : List (Call Input)) : Type 0 where
    pub same_replies : replies_on c calls (replies call calls tool) ≡ replies_on c others (replies call others tool)
    pub same_channel : channels (final call calls tool) c ≡ channels (final call others tool) c
    pub same_events : (i : Input) → (call (event c i) (final call calls tool)).0 ≡ (call (event c i) (final call others tool)).0

  abbrev pub RecordClaim : Type 0
  RecordClaim = (calls : List (Call Input)) → AsComputed calls

  -- "After the same accepted loads and calls on a channel in the same order, .. its events answer the same whatever calls named the others."
  abbrev pub OwnCallsClaim : Type 0
  OwnCallsClaim =
      (c : ℕ) (calls others : List (Call Input)) → accepted_on c calls (replies call calls tool) ≡ accepted_on c others (replies call others tool) →
      Independent c calls others

  -- "Whether a load is accepted may depend on the row totals of others, and on nothing else of theirs." `rows`: those of a loaded channel.
  abbrev pub OtherRowsClaim : (Y → ℕ) → Type 0
  OtherRowsClaim rows =
      (c : ℕ) (bytes : List ℕ) (calls others : List (Call Input)) →
      other_rows c (λ d. map_option rows (channels (final call calls tool) d))
      ≡ other_rows c (λ d. map_option rows (channels (final call others tool) d)) →
      (call (load c bytes) (final call calls tool)).0 ≡ (call (load c bytes) (final call others tool)).0
