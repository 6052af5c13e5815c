-- Document 01, "Tool": the calls, what they reply, what channels hold and how they stand by the log; which calls concern one channel.
use mathlib.Core.{Bool.{cond, Bool, true, false, ◌&&◌}, List.{List, [], ◌∷◌, map}, Option.{Option, none, some}, Path.{◌≡◌}}
use Rattle.std.specs.Prelude.{ℕ, zero, eqb}
use Rattle.theory.specs.{Formula.{Formula}, MealyMachine.{Machine, after}, ReachableStates.{IsTableOf}}
use Rattle.refusal.specs.declared.Refusal.{Refusal}

-- The five calls with their inputs beside the tool. `Input` is what an event carries.
pub data Call (Input : Type 0) : Type 0 where
  load : ℕ → List ℕ → Call Input
  event : ℕ → Input → Call Input
  restart : ℕ → Call Input
  restart_all : Call Input
  clear : ℕ → Call Input

-- `Output` is what an accepted event returns.
pub data Reply (Output : Type 0) : Type 0 where
  accepted : Reply Output
  returned : Output → Reply Output
  refused : Refusal → Reply Output

abbrev pub reply_refusal : {Output : Type 0} → Reply Output → Option Refusal
reply_refusal accepted = none
reply_refusal (returned v) = none
reply_refusal (refused refusal) = some refusal

-- What each channel holds; none: it is empty.
abbrev pub Channels : Type 0 → Type 0
Channels X = ℕ → Option X

abbrev pub all_empty : {X : Type 0} → Channels X
all_empty c = none

abbrev pub with_channel : {X : Type 0} → ℕ → Option X → Channels X → Channels X
with_channel c x L d = cond (eqb d c) x (L d)

abbrev pub map_option : {X Y : Type 0} → (X → Y) → Option X → Option Y
map_option f none = none
map_option f (some x) = some (f x)

-- What the log has for a channel: a rule, the events since its load or restart, the first event first, and the total of their pulses.
pub record History (B : Type 0) : Type 0 where
  pub rule : Formula B
  pub events : List ℕ
  pub total : ℕ

-- What a tool has: a table of so many states, a current state, and a total of pulses.
pub record Loaded (B : Type 0) : Type 0 where
  pub states : ℕ
  pub table : Machine ℕ B
  pub current : ℕ
  pub total : ℕ

-- A list of calls, each getting what the one before left: the replies, and what is left at the end.
module _ {C S A : Type 0} (f : C → S → A × S) where
  abbrev pub replies : List C → S → List A
  replies [] s = []
  replies (c ∷ cs) s = (f c s).0 ∷ replies cs (f c s).1

  abbrev pub final : List C → S → S
  final [] s = s
  final (c ∷ cs) s = final cs (f c s).1

-- The event calls of a sequence of events on one channel.
abbrev pub event_calls : {Input : Type 0} → ℕ → List Input → List (Call Input)
event_calls c word = map (event c) word

-- What such a sequence replies: what its last event returns, or accepted where there is none.
abbrev pub last_returned : {Output : Type 0} → List Output → Reply Output
last_returned [] = accepted
last_returned (r ∷ []) = returned r
last_returned (r ∷ (x ∷ rs)) = last_returned (x ∷ rs)

-- The channel is empty exactly where the log has nothing; elsewhere it has the table of the rule there, the state that the rule's events
-- reach from state 0, and the log's total.
module _ {B : Type 0} (meet : B → B → B) (top : B) (events : ℕ) where
  abbrev pub StandsAs : Option (Loaded B) → Option (History B) → Type 0
  StandsAs none none = Unit {0}
  StandsAs none (some h) = ⊥
  StandsAs (some x) none = ⊥
  StandsAs (some x) (some h) =
      IsTableOf meet top events h.rule x.states x.table × (x.current ≡ after x.table zero h.events) × (x.total ≡ h.total)

-- The call names no other channel than c; "a number above 7 counts as another, and restart all names none".
abbrev pub concerns : {Input : Type 0} → ℕ → Call Input → Bool
concerns c (load d r) = eqb d c
concerns c (event d i) = eqb d c
concerns c (restart d) = eqb d c
concerns c restart_all = true
concerns c (clear d) = eqb d c

-- The reply is no refusal.
abbrev pub is_accepted : {Output : Type 0} → Reply Output → Bool
is_accepted accepted = true
is_accepted (returned v) = true
is_accepted (refused r) = false

-- "The same accepted loads and calls on a channel in the same order, restart all being one on every channel" (document 02, F-12): the calls of
-- a list that concern channel c and are accepted, and the replies to them.
abbrev pub accepted_on : {Input Output : Type 0} → ℕ → List (Call Input) → List (Reply Output) → List (Call Input)
accepted_on c [] rs = []
accepted_on c (x ∷ xs) [] = []
accepted_on c (x ∷ xs) (r ∷ rs) = cond (concerns c x && is_accepted r) (x ∷ accepted_on c xs rs) (accepted_on c xs rs)

abbrev pub replies_on : {Input Output : Type 0} → ℕ → List (Call Input) → List (Reply Output) → List (Reply Output)
replies_on c [] rs = []
replies_on c (x ∷ xs) [] = []
replies_on c (x ∷ xs) (r ∷ rs) = cond (concerns c x && is_accepted r) (r ∷ replies_on c xs rs) (replies_on c xs rs)
