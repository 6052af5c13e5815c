-- Twin of ChannelLog, pinned by product_claims DemandThree.
-- The log (document 01, "Tool"): for each channel nothing, or a rule, its events in order and a total. It is fed the set-up and the calls
-- with their inputs, and judges by document 01's list and the formula semantics; no table is built.
use mathlib.Core.{Bool.{cond}, List.{List, [], ◌∷◌, ◌++◌}, Option.{Option, none, some}}
use Rattle.std.specs.Prelude.{ℕ, zero, ◌+◌, ltb, leb}
use Rattle.limits.specs.Limits.{total_limit, row_limit}
use Rattle.theory.specs.{Formula.{Formula}, MealyMachine.{after}, Evaluation.{value, formulas}}
use Rattle.refusal.specs.{declared.Refusal.{Refusal}, RefusalAnswers.{or_else}, declared.Refusal.TheVariants.{EventNumber, PulseTotal, RowTotal}}
use Rattle.channel_log.specs.{Calls.{Channels, map_option, History}, CallSteps.{Content}, Distance.{Wheel, Occurrence, Reading, reading}}
use Rattle.channel_log.specs.Rows.{other_rows}

-- 16: event too large.
abbrev pub large_event : ℕ → ℕ → Option Refusal
large_event events e = cond (ltb e events) none (some EventNumber)

-- 19: a total above the limit.
abbrev pub large_total : ℕ → Option Refusal
large_total total = cond (leb total total_limit) none (some PulseTotal)

-- 16, then 19 of the total with the event's pulses.
abbrev pub occurrence_refusal : ℕ → ℕ → Occurrence → Option Refusal
occurrence_refusal events total i = or_else (large_event events i.event) (large_total (total + i.pulses))

-- 25: more rows than the tool has.
abbrev pub rows_refusal : ℕ → Option Refusal
rows_refusal rows = cond (leb rows row_limit) none (some RowTotal)

-- 25 of a load into channel c, whose own old rows are free: `rows`, those of the channels; `new`, those of the new table.
abbrev pub load_rows_refusal : ℕ → Channels ℕ → ℕ → Option Refusal
load_rows_refusal c rows new = rows_refusal (other_rows c rows + new)

-- `judged`: 5 to 10 of a rule's bytes; `formula_of`: the rule that accepted bytes are; `states_of`: how many states the table of such a rule has.
module _ {B : Type 0} (meet : B → B → B) (top : B) (events : ℕ) (wheel : Wheel)
    (judged : List ℕ → Option Refusal) (formula_of : List ℕ → Formula B) (states_of : Formula B → ℕ) where
  -- The rule's value on e after the channel's events, the follower being taken on each in turn.
  abbrev pub value_after : History B → ℕ → B
  value_after h e = value meet top e (after (formulas meet top) h.rule h.events)

  -- An event returns the distance of the total with its pulses; a load and a restart begin a total.
  abbrev pub log : Content (History B) Occurrence (Reading B)
  log =
      record {
        load_refusal = λ L c bytes.
            or_else (judged bytes) (load_rows_refusal c (λ d. map_option (λ h. states_of h.rule) (L d)) (states_of (formula_of bytes)));
        event_refusal = λ h i. occurrence_refusal events h.total i;
        loaded = λ bytes. record { rule = formula_of bytes; events = []; total = zero };
        output = λ h i. reading wheel (value_after h i.event) (h.total + i.pulses);
        moved = λ h i. record { rule = h.rule; events = h.events ++ (i.event ∷ []); total = h.total + i.pulses };
        restarted = λ h. record { rule = h.rule; events = []; total = zero };
      }
