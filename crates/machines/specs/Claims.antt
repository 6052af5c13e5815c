-- What is claimed of tables in bytes: refusal 11 is exactly the printed condition, and bytes and machines are read back as each
-- other.
use mathlib.Core.{Path.{◌≡◌}, Option.{none}, List.{List, [], ◌∷◌}}
use Rattle.std.specs.Prelude.{ℕ, ◌*◌, ◌/◌, ◌%◌, ◌≤◌, ◌<◌, length, get_or}
use Rattle.theory.specs.MealyMachine.{Machine, States, Runs}
use Rattle.values.specs.{declared.ValueKind.{ValueKind}, declared.ValueKind.TheVariants.{Numbered, Register}, Setup.{ValueIn}}
use Rattle.refusal.specs.Refusal.{Judged}
use Rattle.machines.specs.{TableBytes.{table_bytes, entry_width, entry_bytes, machine_of, table_condition}, TableRefusal.{entry_value, table_refusal}}
use Rattle.machines.specs.StoredEntries.{kept_bytes, stored}

-- A table handed in is judged as document 01 asks.
abbrev pub TableRefusalClaim : Type 0
TableRefusalClaim =
    (limit events : ℕ) (kind : ValueKind) (states start : ℕ) (bytes : List ℕ)
    → Judged (table_condition (entry_width kind) limit events (ValueIn kind) states start bytes (machine_of kind events bytes) ∷ [])
    (table_refusal limit events kind states start bytes)

-- An accepted table is a machine with a start among its states, and its bytes are that machine's.
pub record AcceptedTable (events : ℕ) (kind : ValueKind) (states start : ℕ) (bytes : List ℕ) : Type 0 where
  pub runs : Runs events (ValueIn kind) (States states) (machine_of kind events bytes)
  pub start_in : start < states
  pub bytes_of : table_bytes (entry_bytes kind) events (machine_of kind events bytes) states ≡ bytes

abbrev pub AcceptedTableClaim : Type 0
AcceptedTableClaim =
    (limit events : ℕ) (kind : ValueKind) (states start : ℕ) (bytes : List ℕ)
    → table_refusal limit events kind states start bytes ≡ none → AcceptedTable events kind states start bytes

-- Two machines have the same entries for n states.
pub record Agree {B : Type 0} (events n : ℕ) (m k : Machine ℕ B) : Type 0 where
  pub values_agree : (l e : ℕ) → l < n → e < events → m.value l e ≡ k.value l e
  pub nexts_agree : (l e : ℕ) → l < n → e < events → m.next l e ≡ k.next l e

-- Entries of one width: the length of a table.
abbrev pub TableLengthClaim : Type 1
TableLengthClaim =
    (B : Type 0) (encode : B → ℕ → List ℕ) (width : ℕ) → ((b : B) (t : ℕ) → length (encode b t) ≡ width)
    → (events : ℕ) (m : Machine ℕ B) (n : ℕ) → length (table_bytes encode events m n) ≡ n * events * width

-- Machines with the same entries have the same bytes.
abbrev pub SameBytesClaim : Type 1
SameBytesClaim =
    (B : Type 0) (encode : B → ℕ → List ℕ) (events n : ℕ) (m k : Machine ℕ B)
    → Agree events n m k → table_bytes encode events m n ≡ table_bytes encode events k n

-- A machine's bytes are read as that machine.
abbrev pub TableReadBackClaim : Type 0
TableReadBackClaim = (kind : ValueKind) (events n : ℕ) (m : Machine ℕ ℕ) → Agree events n (machine_of kind events (table_bytes (entry_bytes kind) events m n)) m

-- Bytes of a table's length are those of the machine that they are read as, where it has values of the kind.
abbrev pub WriteBackClaim : Type 0
WriteBackClaim =
    (kind : ValueKind) (events n : ℕ) (bytes : List ℕ)
    → length bytes ≡ n * events * entry_width kind
    → ((i : ℕ) → i < n * events → ValueIn kind (entry_value kind bytes i)) → table_bytes (entry_bytes kind) events (machine_of kind events bytes) n ≡ bytes

-- The bytes of a machine of 1 to `limit` states are accepted.
abbrev pub TableAcceptedClaim : Type 0
TableAcceptedClaim =
    (limit events : ℕ) (kind : ValueKind) (states start : ℕ) (m : Machine ℕ ℕ)
    → Runs events (ValueIn kind) (States states) m → states ≤ limit → start < states
    → table_refusal limit events kind states start (table_bytes (entry_bytes kind) events m states) ≡ none

-- Flat arrays that hold a machine's entries, numbers below 256 or masks, are stored as its table.
abbrev pub OfBytes : ValueKind → ℕ → Type 0
OfBytes (Numbered n) v = v < 256
OfBytes (Register lines) v = Unit {0}

abbrev pub StoredTableClaim : Type 0
StoredTableClaim =
    (kind : ValueKind) (events n : ℕ) (m : Machine ℕ ℕ) (values nexts : List ℕ)
    → ((i : ℕ) → i < n * events → get_or values i 0 ≡ m.value (i / events) (i % events))
    → ((i : ℕ) → i < n * events → get_or nexts i 0 ≡ m.next (i / events) (i % events))
    → ((i : ℕ) → i < n * events → OfBytes kind (get_or values i 0))
    → stored (kept_bytes kind) values nexts (n * events) ≡ table_bytes (entry_bytes kind) events m n
