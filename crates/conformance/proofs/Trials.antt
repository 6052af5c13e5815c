-- A trial's refusals one after the other, what an accepted input is, and the answer from the search's.
use mathlib.Core.{Path.{◌≡◌, sym, ◌∙◌, ap}, List.{List}, Option.{Option, none, some}}
use Prim.Native.Nat.{ℕ, zero, ◌*◌, ◌≤◌, ◌<◌}
use native.Mathlib.Omega.{arith}
use borrow.Author.Tests.{le-leb, lt-leb, leb-true}
use lib.{ListN.{length}, Dec.{leb}}
use Rattle.std.specs.Prelude.{Ok, Err}
use Rattle.limits.specs.Limits.{device_limit, table_limit, word_limit}
use Rattle.refusal.specs.declared.{Refusal.{Refusal}, Refusal.TheVariants.{BufferLength}}
use Rattle.refusal.specs.RefusalAnswers.{or_else, plain_unless, judgement, answered}
use Rattle.refusal.proofs.Refusals.{judgement_accepted, judgement_refused, or_else_none, plain_none}
use Rattle.values.specs.{Setup.{Setup, ValueIn}, HandedIn.{setup_of_set}, SetupInOrder.{AcceptedSetup}, SetupTests.{setup_refusal}}
use Rattle.values.proofs.Setups.{setup_accepted}
use Rattle.machines.specs.{TableBytes.{entry_width, TableInOrder}, TableRefusal.{table_refusal}}
use Rattle.machines.proofs.TableRefusals.{none_in_order}
use Rattle.conformance.specs.declared.Verdict.{Verdict}
use Rattle.conformance.specs.declared.Pairing.{Pairing}
use Rattle.conformance.specs.{Trial.{TrialInput, input, device_machine, table_machine}, PairQueue.{input_of}}
use Rattle.conformance.specs.TrialAnswer.{tables_refusal, handed_refusal, trial_refusal, first_failure, found_answer, shown, buffer_unless}
use Rattle.conformance.specs.TrialAnswer.{trial_answer, trial_buffer}
use Rattle.conformance.specs.PairQueue.{Ready}
use Rattle.conformance.proofs.Places.{product_bounded}

module _ (d t : ℕ) (x : TrialInput) (buffer : List ℕ) where
  abbrev of_device : Option Refusal
  of_device = table_refusal d x.set_up.events x.set_up.kind x.device_states x.device_start x.device

  abbrev of_table : Option Refusal
  of_table = table_refusal t x.set_up.events x.set_up.kind x.states zero x.table

  abbrev of_buffer : Option Refusal
  of_buffer = plain_unless (leb (d * t) (length buffer)) BufferLength

  -- The checks of the tables and of the buffer one after the other.
  pub device_refused : (r : Refusal) → judgement of_device ≡ Err r → Err r ≡ judgement (handed_refusal d t x buffer)
  unfolding handed_refusal tables_refusal or_else judgement
  device_refused r z = sym (ap (λ o. judgement (or_else (or_else o of_table) of_buffer)) (judgement_refused of_device r z))

  module _ (device_passes : judgement of_device ≡ Ok tt) where
    pub table_refused : (r : Refusal) → judgement of_table ≡ Err r → Err r ≡ judgement (handed_refusal d t x buffer)
    unfolding handed_refusal tables_refusal or_else judgement
    table_refused r z =
        sym (ap (λ o. judgement (or_else (or_else o of_table) of_buffer)) (judgement_accepted of_device device_passes)
        ∙ ap (λ o. judgement (or_else o of_buffer)) (judgement_refused of_table r z))

    module _ (table_passes : judgement of_table ≡ Ok tt) where
      buffer_left : handed_refusal d t x buffer ≡ of_buffer
      unfolding handed_refusal tables_refusal or_else
      buffer_left =
          ap (λ o. or_else (or_else o of_table) of_buffer) (judgement_accepted of_device device_passes)
          ∙ ap (λ o. or_else o of_buffer) (judgement_accepted of_table table_passes)

      pub buffer_refused : length buffer < d * t → Err BufferLength ≡ judgement (handed_refusal d t x buffer)
      unfolding judgement plain_unless
      buffer_refused h = sym (ap judgement (buffer_left ∙ ap (λ b. plain_unless b BufferLength) (lt-leb (d * t) (length buffer) h)))

      pub all_accepted : d * t ≤ length buffer → Ok tt ≡ judgement (handed_refusal d t x buffer)
      unfolding judgement plain_unless
      all_accepted h = sym (ap judgement (buffer_left ∙ ap (λ b. plain_unless b BufferLength) (le-leb (d * t) (length buffer) h)))

  -- What is handed in, where it is accepted.
  pub record Handed : Type 0 where
    pub device_ok :
        TableInOrder (entry_width x.set_up.kind) d x.set_up.events (ValueIn x.set_up.kind) x.device_states x.device_start x.device (device_machine x)
    pub table_ok : TableInOrder (entry_width x.set_up.kind) t x.set_up.events (ValueIn x.set_up.kind) x.states zero x.table (table_machine x)
    pub room : d * t ≤ length buffer

  handed_sound : handed_refusal d t x buffer ≡ none → Handed
  unfolding handed_refusal tables_refusal
  handed_sound z =
      let a = or_else_none (or_else of_device of_table) of_buffer z in
      let b = or_else_none of_device of_table a.0 in
      record {
        device_ok = none_in_order d x.set_up.events x.set_up.kind x.device_states x.device_start x.device b.0;
        table_ok = none_in_order t x.set_up.events x.set_up.kind x.states zero x.table b.1;
        room = leb-true (d * t) (length buffer) (plain_none _ BufferLength a.1);
      }

  pub record Sound : Type 0 where
    pub set_up : AcceptedSetup x.set_up
    pub tables : Handed

  pub sound : trial_refusal d t x buffer ≡ none → Sound
  unfolding trial_refusal
  sound z =
      let a = or_else_none (setup_refusal x.set_up) (handed_refusal d t x buffer) z in
      record { set_up = (setup_accepted x.set_up).0 a.0; tables = handed_sound a.1 }

  pub all_pairs : Handed → x.device_states * x.states ≤ d * t
  all_pairs h = product_bounded h.device_ok.few_states h.table_ok.few_states

  -- A trial's refusal, from the check of the set-up and then from the others.
  pub setup_refused : (r : Refusal) → setup_refusal x.set_up ≡ some r → trial_refusal d t x buffer ≡ some r
  unfolding trial_refusal or_else
  setup_refused r z = ap (λ o. or_else o (handed_refusal d t x buffer)) z

  module _ (accepted : setup_refusal x.set_up ≡ none) where
    after_setup : trial_refusal d t x buffer ≡ handed_refusal d t x buffer
    unfolding trial_refusal or_else
    after_setup = ap (λ o. or_else o (handed_refusal d t x buffer)) accepted

    pub handed_refused : (r : Refusal) → judgement (handed_refusal d t x buffer) ≡ Err r → trial_refusal d t x buffer ≡ some r
    handed_refused r z = after_setup ∙ judgement_refused (handed_refusal d t x buffer) r z

    pub handed_accepted : judgement (handed_refusal d t x buffer) ≡ Ok tt → trial_refusal d t x buffer ≡ none
    handed_accepted z = after_setup ∙ judgement_accepted (handed_refusal d t x buffer) z

  -- A trial's answer, from its refusal or from the search's answer.
  pub refused_answer : (r : Refusal) → trial_refusal d t x buffer ≡ some r → Err r ≡ trial_answer d t x buffer
  unfolding trial_answer answered
  refused_answer r z = sym (ap (λ o. answered o (found_answer x)) z)

  pub refused_buffer : (r : Refusal) → trial_refusal d t x buffer ≡ some r → buffer ≡ trial_buffer d t x buffer
  unfolding trial_buffer buffer_unless
  refused_buffer r z = sym (ap (λ o. buffer_unless o (first_failure x) buffer) z)

  pub searched_answer : trial_refusal d t x buffer ≡ none → (v : Verdict) → v ≡ found_answer x → Ok v ≡ trial_answer d t x buffer
  unfolding trial_answer answered
  searched_answer z v e = ap Ok e ∙ sym (ap (λ o. answered o (found_answer x)) z)

  pub searched_buffer :
      trial_refusal d t x buffer ≡ none → (later : List ℕ) → later ≡ shown (first_failure x) buffer → later ≡ trial_buffer d t x buffer
  unfolding trial_buffer buffer_unless
  searched_buffer z later e = e ∙ sym (ap (λ o. buffer_unless o (first_failure x) buffer) z)

-- What the search asks for, in a queue with as many places as there are pairs or more.
module _ (x : TrialInput) (buffer : List ℕ) (z : trial_refusal device_limit table_limit x buffer ≡ none) where
  abbrev ok : Sound device_limit table_limit x buffer
  ok = sound device_limit table_limit x buffer z

  pub pairs_few : x.device_states * x.states ≤ word_limit
  pairs_few = all_pairs device_limit table_limit x buffer ok.tables

  module _ (size : ℕ) (few : size ≤ word_limit) where
    pub ready : x.device_states * x.states ≤ size → Ready size x
    ready pairs =
        record {
          few_places = few;
          few_events = ok.set_up.few_events;
          few_device_states = omega (arith, ok.tables.device_ok.few_states);
          few_table_states = omega (arith, ok.tables.table_ok.few_states);
          few_pairs = pairs;
          device_nexts = ok.tables.device_ok.nexts_in;
          table_nexts = ok.tables.table_ok.nexts_in;
          start_in = ok.tables.device_ok.start_in;
          some_states = ok.tables.table_ok.some_states;
        }

    pub room : size ≤ length buffer
    room = omega (arith, few, ok.tables.room)

-- A trial over a set-up as it is handed in is the one over its values.
pub same_input :
    (p : Pairing) (s : Setup) → s ≡ setup_of_set p.events p.values →
    input s p.table.states p.table.entries.now p.device.table.states p.device.start p.device.table.entries.now ≡ input_of p
unfolding input
same_input p s e = ap (λ u. input u p.table.states p.table.entries.now p.device.table.states p.device.start p.device.table.entries.now) e
