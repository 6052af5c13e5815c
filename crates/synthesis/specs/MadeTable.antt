-- What the making of a table from nodes answers (document 01, "Table of a rule").
use mathlib.Core.{Path.{◌≡◌}, Logic.{◌⊎◌}, Bool.{Bool, cond}, List.{List}}
use Rattle.std.specs.Prelude.{ℕ, suc, ◌*◌, ◌≤◌, ◌<◌, Result, Option as StdOption, Some, None}
use lib.{Dec.{leb}, ListN.{length}}
use Rattle.limits.specs.Limits.{event_limit, node_limit, binder_limit, state_limit}
use Rattle.theory.specs.{Formula.{Formula, size}, FormulaClasses.{Closed, Guarded}}
use Rattle.theory.specs.BinderDepth.{binder_depth}
use Rattle.refusal.specs.{RefusalAnswers.{or_else, plain_unless, answered}, declared.Refusal.TheVariants.{BufferLength, StateCount}}
use Rattle.values.specs.declared.ValueKind.{ValueKind}
use Rattle.formulas.specs.{NodeReading.{Reads}, NodeWalks.{field}, declared.Nodes.{Nodes}}
use Rattle.machines.specs.{TableBytes.{entry_width}, StoredEntries.{kept_bytes, storable, after_store}}
use Rattle.synthesis.specs.{FormulaTable.{formula_states, formula_table}, KeptDemands.{KeepsDemands}, TableEntries.{EntriesTo}}
use Rattle.refusal.specs.declared.Refusal.{Refusal}

-- Nodes within the limits, and the rows that have their demands.
pub record Ready (nodes : Nodes) (rows : List (List ℕ)) (events : ℕ) : Type 0 where
  pub few_nodes : nodes.count ≤ node_limit
  pub few_events : events ≤ event_limit
  pub kept : KeepsDemands nodes.kinds nodes.firsts nodes.count rows

-- n is the number of states, and the entries are the table's; n is above the limit where there are more states.
pub record Tabled (meet : ℕ → ℕ → ℕ) (top : ℕ) (φ : Formula ℕ) (events limit : ℕ) (values nexts : List ℕ) (n : ℕ) : Type 0 where
  pub at_most : n ≤ suc limit
  pub states : n ≤ limit → formula_states meet top φ events limit ≡ n
  pub more : n ≡ suc limit → limit < formula_states meet top φ events limit
  pub values_are : n ≤ limit → EntriesTo (formula_table meet top φ events limit).value events (n * events) values
  pub nexts_are : n ≤ limit → EntriesTo (formula_table meet top φ events limit).next events (n * events) nexts

-- For the formula whose nodes these are.
abbrev pub Tables : Nodes → (ℕ → ℕ → ℕ) → ℕ → ℕ → ℕ → List ℕ → List ℕ → ℕ → Type 0
Tables nodes meet top events limit values nexts n =
    (φ : Formula ℕ) → Reads (field nodes.kinds) (field nodes.firsts) (field nodes.values) 0 φ → size φ ≡ nodes.count → binder_depth φ ≤ binder_limit →
    Closed φ → Guarded φ →
    Tabled meet top φ events limit values nexts n

-- The limit of the first attempt at a table.
abbrev pub small_states : ℕ
small_states = 64

-- An attempt at a table of at most `limit` states, made in two arrays: its entries are stored where the buffer has room.
pub record Attempted (kind : ValueKind) (nodes : Nodes) (meet : ℕ → ℕ → ℕ) (top events limit : ℕ) (old new : List ℕ) (n : ℕ)
    (is_stored : Bool) : Type 0 where
  pub values : List ℕ
  pub nexts : List ℕ
  pub room : (limit * events ≤ length values) × (limit * events ≤ length nexts)
  pub tables : Tables nodes meet top events limit values nexts n
  pub more : limit < n → new ≡ old
  pub fits : n ≤ limit → is_stored ≡ storable (entry_width kind) values nexts (n * events) old
  pub contents : n ≤ limit → new ≡ after_store (entry_width kind) (kept_bytes kind) values nexts (n * events) old

-- What an attempt answers: 10, 13, or the number of states.
abbrev pub attempt_answer : ℕ → ℕ → Bool → Result ℕ Refusal
attempt_answer limit n is_stored = answered (or_else (plain_unless (leb n limit) StateCount) (plain_unless is_stored BufferLength)) n

-- The same of one attempt: none where there are more states than its limit.
abbrev pub tried_answer : ℕ → ℕ → Bool → StdOption (Result ℕ Refusal)
tried_answer limit n is_stored = cond (leb n limit) (Some (answered (plain_unless is_stored BufferLength) n)) None

-- What the code of an attempt answers.
pub record Tried (kind : ValueKind) (nodes : Nodes) (meet : ℕ → ℕ → ℕ) (top events limit : ℕ) (old new : List ℕ) (answer : StdOption (Result ℕ Refusal)) :
    Type 0 where
  pub states : ℕ
  pub is_stored : Bool
  pub attempt : Attempted kind nodes meet top events limit old new states is_stored
  pub answer_is : answer ≡ tried_answer limit states is_stored

-- A call answers what an attempt does that found the table within its limit, or whose limit is document 01's.
pub record Answered (kind : ValueKind) (nodes : Nodes) (meet : ℕ → ℕ → ℕ) (top events : ℕ) (old new : List ℕ) (answer : Result ℕ Refusal) :
    Type 0 where
  pub limit : ℕ
  pub states : ℕ
  pub is_stored : Bool
  pub attempt : Attempted kind nodes meet top events limit old new states is_stored
  pub few : limit ≤ state_limit
  pub last : states ≤ limit ⊎ (limit ≡ state_limit)
  pub answer_is : answer ≡ attempt_answer state_limit states is_stored
