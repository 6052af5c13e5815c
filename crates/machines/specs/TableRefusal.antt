-- Twin of TableBytes, pinned by machines TableRefusalClaim.
-- Refusal 11 computed by tests (document 01, "Who can cause a refusal"). The sentence is `table_condition`; the tests decide it.
use mathlib.Core.{Bool.{Bool, ◌&&◌}, Option.{Option}, List.{List}}
use Rattle.std.specs.Prelude.{ℕ, ◌*◌, ◌+◌}
use lib.{ListN.{length, get_or}, Dec.{leb, ltb, eqb}}
use Rattle.theory.specs.ValueSetTests.{every}
use Rattle.refusal.specs.{declared.Refusal.{Refusal}, RefusalAnswers.{plain_unless}, declared.Refusal.TheVariants.{TableLimits}}
use Rattle.values.specs.{declared.ValueKind.{ValueKind}, ValueTests.{value_fits}, Setup.{value_from, value_width}}
use Rattle.machines.specs.TableBytes.{entry_width}

-- The value and the next state of entry i.
abbrev pub entry_value : ValueKind → List ℕ → ℕ → ℕ
entry_value kind bytes i = value_from kind bytes (i * entry_width kind)

abbrev pub entry_next : ValueKind → List ℕ → ℕ → ℕ
entry_next kind bytes i = get_or bytes (i * entry_width kind + value_width kind) 0

-- A table handed in is in order; `test i` tests entry i.
unfoldable pub table_test : ℕ → ℕ → ℕ → (ℕ → Bool) → ℕ → ℕ → List ℕ → Bool
table_test width limit events test states start bytes =
    ltb 0 states && (leb states limit && (ltb start states
    && (eqb (length bytes) (states * events * width) && every (states * events) test)))

-- Entry i has a value of the kind and a next state below `states`.
unfoldable pub entry_test : ValueKind → ℕ → List ℕ → ℕ → Bool
entry_test kind states bytes i = value_fits kind (entry_value kind bytes i) && ltb (entry_next kind bytes i) states

-- Refusal 11 or none, for a table with values of a kind.
unfoldable pub table_refusal : ℕ → ℕ → ValueKind → ℕ → ℕ → List ℕ → Option Refusal
table_refusal limit events kind states start bytes =
    plain_unless (table_test (entry_width kind) limit events (entry_test kind states bytes) states start bytes) TableLimits
