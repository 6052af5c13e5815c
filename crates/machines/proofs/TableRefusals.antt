-- The tests of refusal 11 decide the printed condition; an accepted table is a machine.
use mathlib.Core.{Path.{◌≡◌, refl, sym, ◌∙◌, ap}, Bool.{Bool, true, false≢true}, Option.{none}, List.{List, [], ◌∷◌}}
use Prim.Native.Nat.{ℕ, ◌+◌, ◌*◌, ◌<◌}
use native.Mathlib.Omega.{arith}
use borrow.Author.Tests.{ltb-true, leb-true, eqb-true, lt-ltb, le-leb, eq-eqb}
use lib.{ListN.{length}, Dec.{leb, ltb, eqb}}
use Rattle.values.specs.declared.ValueKind.{ValueKind}
use Rattle.values.specs.Setup.{ValueIn}
use Rattle.values.specs.ValueTests.{value_fits}
use Rattle.values.proofs.ValueKinds.{fits_value, value_fitting}
use Rattle.refusal.specs.{Refusal.{First, has_place, order, part_of, condition_numbers, right_places}, declared.Refusal.TheVariants.{TableLimits}}
use Rattle.refusal.specs.RefusalAnswers.{plain_unless}
use Rattle.refusal.proofs.Refusals.{plain_first, plain_none, judged}
use Rattle.machines.specs.TableBytes.{table_bytes, entry_width, entry_bytes, entries, machine_of, TableInOrder, table_condition}
use Rattle.machines.specs.TableRefusal.{entry_value, entry_next, table_test, entry_test, table_refusal}
use Rattle.machines.specs.Claims.{TableRefusalClaim, AcceptedTableClaim, TableAcceptedClaim}
use Rattle.theory.proofs.ValueSets.{and_both, and_left, and_right, every_at, every_of}
use Rattle.machines.proofs.{EntryIndex.{index_below, every_entry}, EntryBytes.{table_length}}
use Rattle.machines.proofs.TableRoundTrip.{entry_length, read_back, write_back}

-- Entries of any width, read by number, and a test that decides whether an entry is in order.
module _ {B : Type 0} (width limit events : ℕ) (In : B → Type 0) (states start : ℕ) (bytes : List ℕ)
    (value_at : ℕ → B) (next_at : ℕ → ℕ) (test : ℕ → Bool)
    (sound : (i : ℕ) → test i ≡ true → In (value_at i) × (next_at i < states))
    (complete : (i : ℕ) → In (value_at i) → next_at i < states → test i ≡ true) where
  pub tested_in_order :
      table_test width limit events test states start bytes ≡ true
      → TableInOrder width limit events In states start bytes (entries events value_at next_at)
  unfolding table_test
  tested_in_order holds =
      let rest1 = and_right (ltb 0 states) _ holds in
      let rest2 = and_right (leb states limit) _ rest1 in
      let rest3 = and_right (ltb start states) _ rest2 in
      let each = every_at (states * events) test (and_right (eqb (length bytes) (states * events * width)) _ rest3) in
      record {
        some_states = ltb-true 0 states (and_left (ltb 0 states) _ holds);
        few_states = leb-true states limit (and_left (leb states limit) _ rest1);
        entry_count = eqb-true (length bytes) (states * events * width) (and_left (eqb (length bytes) (states * events * width)) _ rest3);
        start_in = ltb-true start states (and_left (ltb start states) _ rest2);
        values_in = λ l e hl he. (sound (l * events + e) (each (l * events + e) (index_below events states l e hl he))).0;
        nexts_in = λ l e hl he. (sound (l * events + e) (each (l * events + e) (index_below events states l e hl he))).1;
      }

  pub in_order_tested :
      TableInOrder width limit events In states start bytes (entries events value_at next_at)
      → table_test width limit events test states start bytes ≡ true
  unfolding table_test
  in_order_tested ok =
      and_both (lt-ltb 0 states ok.some_states)
      (and_both (le-leb states limit ok.few_states)
      (and_both (lt-ltb start states ok.start_in)
      (and_both (eq-eqb (length bytes) (states * events * width) ok.entry_count)
      (every_of (states * events) test
      (every_entry (λ i. test i ≡ true) events states
      (λ l e hl he. complete (l * events + e) (ok.values_in l e hl he) (ok.nexts_in l e hl he)))))))

  pub table_first :
      First (table_condition width limit events In states start bytes (entries events value_at next_at) ∷ [])
      (plain_unless (table_test width limit events test states start bytes) TableLimits)
  table_first =
      plain_first TableLimits (¬ TableInOrder width limit events In states start bytes (entries events value_at next_at))
      (table_test width limit events test states start bytes)
      (λ fails ok. false≢true (sym fails ∙ in_order_tested ok)) (λ holds no. no (tested_in_order holds))

-- Entries with values of a kind.
module _ (kind : ValueKind) (states : ℕ) (bytes : List ℕ) (i : ℕ) where
  entry_sound : entry_test kind states bytes i ≡ true → ValueIn kind (entry_value kind bytes i) × (entry_next kind bytes i < states)
  unfolding entry_test
  entry_sound holds =
      let value_test = value_fits kind (entry_value kind bytes i) in
      (fits_value kind _ (and_left value_test _ holds), ltb-true _ states (and_right value_test _ holds))

  entry_complete : ValueIn kind (entry_value kind bytes i) → entry_next kind bytes i < states → entry_test kind states bytes i ≡ true
  unfolding entry_test
  entry_complete v t = and_both (value_fitting kind _ v) (lt-ltb _ _ t)

module _ (limit events : ℕ) (kind : ValueKind) (states start : ℕ) (bytes : List ℕ) where
  pub none_in_order :
      table_refusal limit events kind states start bytes ≡ none
      → TableInOrder (entry_width kind) limit events (ValueIn kind) states start bytes (machine_of kind events bytes)
  unfolding table_refusal
  none_in_order accepted =
      tested_in_order (entry_width kind) limit events (ValueIn kind) states start bytes
      (entry_value kind bytes) (entry_next kind bytes) (entry_test kind states bytes)
      (entry_sound kind states bytes) (entry_complete kind states bytes) (plain_none _ TableLimits accepted)

  pub in_order_none :
      TableInOrder (entry_width kind) limit events (ValueIn kind) states start bytes (machine_of kind events bytes)
      → table_refusal limit events kind states start bytes ≡ none
  unfolding table_refusal plain_unless
  in_order_none ok =
      ap (λ test. plain_unless test TableLimits)
      (in_order_tested (entry_width kind) limit events (ValueIn kind) states start bytes
      (entry_value kind bytes) (entry_next kind bytes) (entry_test kind states bytes)
      (entry_sound kind states bytes) (entry_complete kind states bytes) ok)

pub table_accepted : TableAcceptedClaim
table_accepted limit events kind states start m runs few start_in =
    let back = read_back kind events states m in
    in_order_none limit events kind states start (table_bytes (entry_bytes kind) events m states)
    record {
      some_states = omega arith;
      few_states = few;
      entry_count = table_length _ (entry_bytes kind) (entry_width kind) (entry_length kind) events m states;
      start_in = start_in;
      values_in = λ l e hl he. rw (back.values_agree l e hl he) (runs.value_in l hl e he);
      nexts_in = λ l e hl he. rw (back.nexts_agree l e hl he) (runs.next_in l hl e he);
    }

pub accepted_table : AcceptedTableClaim
accepted_table limit events kind states start bytes accepted =
    let ok = none_in_order limit events kind states start bytes accepted in
    record {
      runs = record {
        value_in = λ l hl e he. ok.values_in l e hl he;
        next_in = λ l hl e he. ok.nexts_in l e hl he;
      };
      start_in = ok.start_in;
      bytes_of = write_back kind events states bytes ok.entry_count
          (λ i h. every_entry (λ j. ValueIn kind (entry_value kind bytes j)) events states ok.values_in i h);
    }

pub table_refusal_first :
    (limit events : ℕ) (kind : ValueKind) (states start : ℕ) (bytes : List ℕ)
    → First (table_condition (entry_width kind) limit events (ValueIn kind) states start bytes (machine_of kind events bytes) ∷ [])
    (table_refusal limit events kind states start bytes)
unfolding table_refusal
table_refusal_first limit events kind states start bytes =
    table_first (entry_width kind) limit events (ValueIn kind) states start bytes
    (entry_value kind bytes) (entry_next kind bytes) (entry_test kind states bytes)
    (entry_sound kind states bytes) (entry_complete kind states bytes)

pub table_judged : TableRefusalClaim
unfolding condition_numbers right_places part_of order has_place
table_judged limit events kind states start bytes = judged _ _ (table_refusal_first limit events kind states start bytes) refl refl
