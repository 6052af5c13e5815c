-- What is claimed of values and set-ups; each claim is inhabited in proofs/.
use mathlib.Core.{Path.{◌≡◌}, Logic.{◌↔◌, ◌⊎◌}, Bool.{true}, Option.{none}, List.{List}}
use Rattle.std.specs.Prelude.{ℕ, ◌+◌, ◌≤◌, length, take, drop}
use Rattle.limits.specs.Limits.{event_limit}
use Rattle.refusal.specs.Refusal.{Judged}
use Rattle.theory.specs.{ValueSets.{AtOrBelow, four_value_meet}, ValueSetTests.{lawful}}
use Rattle.values.specs.declared.{ValueKind.{ValueKind}, Comparison.{Comparison}}
use Rattle.values.specs.declared.Comparison.TheVariants.{NotBelow}
use Rattle.values.specs.Setup.{ValueIn, meet_of, ComparesAs, value_width, value_bytes, value_from, Setup, setup, setup_conditions, SetupValue, setup_meet}
use Rattle.values.specs.SetupInOrder.{SetupLaws}
use Rattle.values.specs.{ValueTests.{value_fits, at_or_below, comparison}, SetupInOrder.{AcceptedSetup}, SetupTests.{setup_refusal}}
use Rattle.values.specs.DownSets.{lawful_by_sets}

-- The tests decide which numbers are values, and the order.
pub record ValueKindClaim : Type 0 where
  pub fits : (kind : ValueKind) (v : ℕ) → (value_fits kind v ≡ true) ↔ ValueIn kind v
  pub order : (kind : ValueKind) (table : List ℕ) (b c : ℕ) → (at_or_below kind table b c ≡ true) ↔ AtOrBelow (meet_of kind table) b c

-- The comparison tells how any two numbers compare; of values of an accepted set-up no other answer does (document 02, F-5).
pub record ComparisonClaim : Type 0 where
  pub told : (kind : ValueKind) (table : List ℕ) (b c : ℕ) → ComparesAs (comparison kind table b c) (meet_of kind table) b c
  pub only : (s : Setup) → setup_refusal s ≡ none → (b c : ℕ) → SetupValue s b → (answer : Comparison) → ComparesAs answer (setup_meet s) b c →
      answer ≡ comparison s.kind s.meet b c
  pub not_below : (kind : ValueKind) (table : List ℕ) (b c : ℕ) → (comparison kind table b c ≡ NotBelow) ↔ (¬ AtOrBelow (meet_of kind table) b c)

-- What is read is what was written; and the bytes from a place on are those of what is read, where that is a value or 0.
pub record ValueBytesClaim : Type 0 where
  pub sized : (kind : ValueKind) (v : ℕ) → length (value_bytes kind v) ≡ value_width kind
  pub read :
      (kind : ValueKind) (bytes : List ℕ) (at v : ℕ)
      → take (value_width kind) (drop at bytes) ≡ value_bytes kind v → value_from kind bytes at ≡ v
  pub written :
      (kind : ValueKind) (bytes : List ℕ) (at : ℕ) → at + value_width kind ≤ length bytes
      → ValueIn kind (value_from kind bytes at) ⊎ (value_from kind bytes at ≡ 0)
      → take (value_width kind) (drop at bytes) ≡ value_bytes kind (value_from kind bytes at)
  pub one_value : (kind : ValueKind) (v w : ℕ) → value_bytes kind v ≡ value_bytes kind w → v ≡ w

-- A set-up of either kind is judged as document 01 asks.
abbrev pub SetupClaim : Type 0
SetupClaim = (s : Setup) → Judged (setup_conditions s) (setup_refusal s)

-- A set-up is accepted exactly if it is a meet-semilattice with that top within the limits, at every size.
abbrev pub SetupAcceptedClaim : Type 0
SetupAcceptedClaim = (s : Setup) → (setup_refusal s ≡ none) ↔ AcceptedSetup s

-- So the values of an accepted one, of either kind, obey the laws.
abbrev pub LawsClaim : Type 0
LawsClaim = (s : Setup) → setup_refusal s ≡ none → SetupLaws s

-- The four-value set is accepted with any number of events within the limits.
abbrev pub FourValueSetupClaim : Type 0
FourValueSetupClaim = (events : ℕ) → 1 ≤ events → events ≤ event_limit → setup_refusal (setup events 4 3 four_value_meet) ≡ none

-- The test of the laws by sets of values is the test by triples, at every size.
abbrev pub LawfulBySetsClaim : Type 0
LawfulBySetsClaim = (n : ℕ) (table : List ℕ) (top : ℕ) → lawful_by_sets n table top ≡ lawful n table top
