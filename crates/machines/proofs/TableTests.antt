-- The tests of a table, one after the other: the first that fails decides, and past the others the entries do.
use mathlib.Core.{Path.{◌≡◌, sym, ap}, Bool.{Bool, true, false, ◌&&◌}, List.{List}}
use Prim.Native.Nat.{ℕ, ◌+◌, ◌*◌, ◌≤◌, ◌<◌}
use borrow.Author.Tests.{le-ltb, lt-ltb, le-leb, lt-leb}
use lib.{ListN.{length, get_or}, Dec.{eqb, ltb}}
use Rattle.refusal.specs.{RefusalAnswers.{plain_unless, judgement}, declared.Refusal.TheVariants.{TableLimits}}
use Rattle.values.specs.declared.ValueKind.{ValueKind}
use Rattle.values.specs.Setup.{value_width, value_from}
use Rattle.values.specs.ValueTests.{value_fits}
use Rattle.machines.specs.{TableBytes.{entry_width}, TableRefusal.{table_test, entry_test, table_refusal}}
use Rattle.theory.specs.ValueSetTests.{every}
use Rattle.std.specs.Prelude.{Err, Ok}

module _ (width limit events : ℕ) (test : ℕ → Bool) (states start : ℕ) (bytes : List ℕ) where
  pub no_states : states ≤ 0 → table_test width limit events test states start bytes ≡ false
  unfolding table_test
  no_states none = rw (le-ltb 0 states none)

  pub many_states : 0 < states → limit < states → table_test width limit events test states start bytes ≡ false
  unfolding table_test
  many_states some many = rw (lt-ltb 0 states some, lt-leb states limit many)

  pub start_outside : 0 < states → states ≤ limit → states ≤ start → table_test width limit events test states start bytes ≡ false
  unfolding table_test
  start_outside some few out = rw (lt-ltb 0 states some, le-leb states limit few, le-ltb start states out)

  pub wrong_length : 0 < states → states ≤ limit → start < states → eqb (length bytes) (states * events * width) ≡ false
      → table_test width limit events test states start bytes ≡ false
  unfolding table_test
  wrong_length some few start_in wrong = rw (lt-ltb 0 states some, le-leb states limit few, lt-ltb start states start_in, wrong)

  pub entries_decide : 0 < states → states ≤ limit → start < states → eqb (length bytes) (states * events * width) ≡ true
      → table_test width limit events test states start bytes ≡ every (states * events) test
  unfolding table_test
  entries_decide some few start_in right =
      rw (lt-ltb 0 states some, le-leb states limit few, lt-ltb start states start_in, right)

-- The answer of the check.
module _ (limit events : ℕ) (kind : ValueKind) (states start : ℕ) (bytes : List ℕ) where
  pub passed : table_test (entry_width kind) limit events (entry_test kind states bytes) states start bytes ≡ true
      → (Ok tt) ≡ judgement (table_refusal limit events kind states start bytes)
  unfolding table_refusal plain_unless judgement
  passed holds = sym (ap (λ test. judgement (plain_unless test TableLimits)) holds)

  pub failed : table_test (entry_width kind) limit events (entry_test kind states bytes) states start bytes ≡ false
      → Err TableLimits ≡ judgement (table_refusal limit events kind states start bytes)
  unfolding table_refusal plain_unless judgement
  failed fails = sym (ap (λ test. judgement (plain_unless test TableLimits)) fails)

-- The test of entry i, by the place where it starts.
pub entry_tested : (kind : ValueKind) (states : ℕ) (bytes : List ℕ) (i at : ℕ) → at ≡ i * entry_width kind
    → entry_test kind states bytes i ≡ (value_fits kind (value_from kind bytes at) && ltb (get_or bytes (at + value_width kind) 0) states)
unfolding entry_test
entry_tested kind states bytes i at e =
    ap (λ x. value_fits kind (value_from kind bytes x) && ltb (get_or bytes (x + value_width kind) 0) states) (sym e)
