-- The claims on codes, on replay and on trial.
use mathlib.Core.{Path.{◌≡◌, refl, sym, ◌∙◌, ap, subst}, Bool.{Bool, true, cond}, Option.{Option, none, some, some-ne-none}, List.{List, [], ◌∷◌, ◌++◌}}
use Prim.Native.Nat.{ℕ, zero, suc, ◌+◌, ◌*◌, ◌/◌, ◌%◌, ◌≤◌, ◌<◌}
use native.Mathlib.{Nat.{not-suc-le-zero, le_of_suc-le-suc}, Omega.{arith}}
use borrow.Author.Tests.{ltb-true, ltb-false, leb-true, leb-false}
use lib.{Dec.{leb, ltb}, ListN.{length, get_or, take}}
use Rattle.theory.proofs.{Words.{length_word_values, word_values_at}, ValueSets.{every_at, every_some}}
use Rattle.limits.specs.Limits.{state_limit, device_limit, table_limit, word_limit}
use Rattle.theory.specs.MealyMachine.{Word}
use Rattle.theory.specs.ValueSetTests.{every}
use Rattle.theory.specs.Formula.{Answers}
use Rattle.refusal.specs.declared.{Refusal.{Refusal}}
use Rattle.refusal.specs.Refusal.{Condition, First, plain, has_place, part_of, order, condition_numbers, right_places, refusal_number, refusal_place}
use Rattle.refusal.specs.{RefusalAnswers.{or_else, plain_unless}, RefusalClaims.{ListedRefusal}}
use Rattle.refusal.proofs.Refusals.{or_else_none, plain_none, plain_first, first_then, first_append, listed_refusal}
use Rattle.values.specs.{declared.ValueKind.{ValueKind}, declared.ValueKind.TheVariants.{Numbered, Register}}
use Rattle.values.specs.Setup.{Setup, SetupValue, meet_of, setup_meet, setup_top, setup_conditions, kind_conditions, value_width}
use Rattle.values.specs.Setup.{EventsFault, ValuesFault, MeetFault, LinesFault}
use Rattle.values.specs.SetupTests.{setup_refusal}
use Rattle.machines.specs.{TableBytes.{entry_width, machine_of, table_condition}, TableRefusal.{table_refusal}}
use Rattle.formulas.specs.RuleConditions.{byte_conditions}
use Rattle.machines.proofs.TableRefusals.{table_refusal_first}
use Rattle.synthesis.specs.TableOfRule.{states_condition, buffer_condition, compile_conditions, rule_conditions_of, pair_table_conditions}
use Rattle.conformance.specs.declared.Verdict.TheVariants.{Pass, Fail}
use Rattle.conformance.specs.declared.Grade.TheVariants.{Same, Stricter}
use Rattle.conformance.specs.Trial.{Answer, input, word_length}
use Rattle.conformance.specs.TrialAnswer.{tables_refusal, handed_refusal, trial_refusal}
use Rattle.conformance.proofs.TrialClaims.{trial_satisfies}
use Rattle.channel_io.specs.FileRefusals.{pair_table_refusal, pair_states, pair_table}
use Rattle.channel_io.proofs.Claims.{contents_table_claim, file_table_made, file_table_accepted}
use Rattle.gurvazze_host.specs.Codes.{refusal_code, yield_code, code, answer_code, grade_yield, verdict_yield, verdict_code, table_numbers, SmallNumbers}
use Rattle.gurvazze_host.specs.FileCalls.{pair_machine, word_refusal, file_replay_refusal, file_trial, file_trial_refusal}
use Rattle.gurvazze_host.specs.Claims.{TellsRefusal, TellsCount, TellsVerdict, TellsNumbers, CodeClaim, file_replay_conditions, replay_order}
use Rattle.gurvazze_host.specs.Claims.{file_trial_conditions, FileReplayClaim, FileTrialClaim}
use Rattle.refusal.specs.declared.Refusal.TheVariants.{BufferLength, EventNumber, SetupEvents, SetupLines, SetupMeet, SetupValues}
use Rattle.std.specs.Prelude.{Err, Ok, Result, Option as StdOption, Some, None, unwrap_or}

-- ---- codes

same_refusal : (r s : Refusal) → some r ≡ some s → r ≡ s
same_refusal r s e = cc

-- A refusal's code, by its refusal-number and refusal-place.
refused_code : (n p x : ℕ) → n ≤ 25 → x ≡ p * 256 + n → (x % 256 ≡ n) × (x / 256 ≡ p)
refused_code n p x h e = (omega arith, omega arith)

refusal_told : (r : Refusal) → TellsRefusal (some r) (refusal_code r)
unfolding refusal_code
refusal_told r =
    record {
      accepted = (λ e. absurd (some-ne-none r e), λ e. absurd (omega (arith, l.some_number, k.0, e)));
      number_is = λ s e. ap refusal_number (sym (same_refusal r s e)) ∙ sym k.0;
      place_is = λ s e. ap refusal_place (sym (same_refusal r s e)) ∙ place_told (refusal_place r) refl;
    }
  where
    l : ListedRefusal r
    l = listed_refusal r

    x : ℕ
    x = unwrap_or (refusal_place r) 0 * 256 + refusal_number r

    k : (x % 256 ≡ refusal_number r) × (x / 256 ≡ unwrap_or (refusal_place r) 0)
    k = refused_code (refusal_number r) (unwrap_or (refusal_place r) 0) x l.last_number refl

    place_told : (o : StdOption ℕ) → refusal_place r ≡ o → refusal_place r ≡ cond (has_place (x % 256)) (Some (x / 256)) None
    place_told None e = e ∙ sym (ap (λ (b : Bool). cond b (Some (x / 256)) None) (ap has_place k.0 ∙ l.without_place e))
    place_told (Some p) e =
        e ∙ sym (ap (λ (b : Bool). cond b (Some (x / 256)) None) (ap has_place k.0 ∙ l.with_place p e)
        ∙ ap Some (k.1 ∙ ap (λ (o : StdOption ℕ). unwrap_or o 0) e))

accepted_told : (x : ℕ) → x % 256 ≡ 0 → TellsRefusal none x
accepted_told x h =
    record {
      accepted = (λ e. h, λ e. refl);
      number_is = λ s e. absurd (some-ne-none s (sym e));
      place_is = λ s e. absurd (some-ne-none s (sym e));
    }

-- A refusal's low byte is not 0, so that it is no count and no word.
not_accepted : (r : Refusal) → refusal_code r % 256 ≡ 0 → ⊥
not_accepted r e = some-ne-none r ((refusal_told r).accepted.1 e)

refusals_told : (answer : Option Refusal) (yield : ℕ) → TellsRefusal answer (code answer yield)
unfolding code yield_code
refusals_told none yield = accepted_told (yield * 256) (omega arith)
refusals_told (some r) yield = refusal_told r

yields_told : (answer : Option Refusal) (yield : ℕ) → answer ≡ none → code answer yield / 256 ≡ yield
unfolding code yield_code
yields_told none yield e = omega arith
yields_told (some r) yield e = absurd (some-ne-none r e)

counts_told : (answer : Result ℕ Refusal) → TellsCount answer (answer_code answer)
unfolding answer_code yield_code
counts_told (Ok k) =
    record {
      refusal = accepted_told (k * 256) (omega arith);
      count_is = λ n. ((λ e. let z : k ≡ n = cc in (omega arith, omega arith)), λ h. let z : k ≡ n = omega (arith, h.1) in ap some z);
    }
counts_told (Err r) =
    record {
      refusal = refusal_told r;
      count_is = λ n. ((λ e. absurd (some-ne-none n (sym e))), λ h. absurd (not_accepted r h.0));
    }

verdicts_told :
    (answer : Answer) → ((n : ℕ) → word_length answer ≡ some n → (1 ≤ n) × (n ≤ word_limit)) →
    TellsVerdict answer (verdict_code answer)
unfolding verdict_code yield_code verdict_yield grade_yield
verdicts_told (Ok (Pass Same)) w =
    record {
      refusal = accepted_told 0 refl;
      same = (λ h. refl, λ e. refl);
      stricter = (λ h. let c : ◌≡◌ {A = ℕ} 0 1 = cc in absurd (omega arith), λ e. absurd (omega (arith, e.1)));
      word_length_is = λ n. ((λ e. absurd (some-ne-none n (sym e))), λ h. absurd (omega (arith, h.1, h.2)));
    }
verdicts_told (Ok (Pass Stricter)) w =
    record {
      refusal = accepted_told (65536 * 256) refl;
      same = (λ h. let c : ◌≡◌ {A = ℕ} 0 1 = cc in absurd (omega arith), λ e. absurd (omega (arith, e)));
      stricter = (λ h. (refl, refl), λ e. refl);
      word_length_is = λ n. ((λ e. absurd (some-ne-none n (sym e))), λ h. absurd (omega (arith, h.1, h.3)));
    }
verdicts_told (Ok (Fail k)) w =
    record {
      refusal = accepted_told (k * 256) (omega arith);
      same = (λ h. absurd (some-ne-none Same (sym h)), λ e. absurd (omega (arith, (w k refl).0, e)));
      stricter = (λ h. absurd (some-ne-none Stricter (sym h)), λ e. absurd (omega (arith, (w k refl).1, e.1)));
      word_length_is = λ n. (
        (λ e. let z : k ≡ n = cc in (omega arith, omega arith, omega (arith, (w k refl).0), omega (arith, (w k refl).1))),
        λ h. let z : k ≡ n = omega (arith, h.1) in ap some z,
      );
    }
verdicts_told (Err r) w =
    record {
      refusal = refusal_told r;
      same = (λ h. absurd (some-ne-none Same (sym h)), λ e. absurd (not_accepted r (ap (λ x. x % 256) e)));
      stricter = (λ h. absurd (some-ne-none Stricter (sym h)), λ e. absurd (not_accepted r e.0));
      word_length_is = λ n. ((λ e. absurd (some-ne-none n (sym e))), λ h. absurd (not_accepted r h.0));
    }

numbers_told :
    (states events values top : ℕ) → SmallNumbers states events values top → TellsNumbers states events values top (table_numbers states events values top)
unfolding table_numbers
numbers_told states events values top s =
    record {
      states_are = omega (arith, s.few_states, s.few_events, s.few_values, s.top_in);
      events_are = omega (arith, s.few_states, s.few_events, s.few_values, s.top_in);
      values_are = omega (arith, s.few_states, s.few_events, s.few_values, s.top_in);
      top_is = omega (arith, s.few_states, s.few_events, s.few_values, s.top_in);
    }

pub code_claim : CodeClaim
code_claim =
    record { refusals = refusals_told; yields = yields_told; counts = counts_told; verdicts = verdicts_told; numbers = numbers_told }

-- ---- conditions behind those of a set-up are in order and have their places, whichever kind of values it has

-- What holds of the conditions of either kind.
setup_by :
    (P : List Condition → Type 0) (s : Setup)
    → ((values : ℕ) → P (plain SetupEvents (EventsFault s.events) ∷ plain SetupValues (ValuesFault values s.top)
    ∷ plain SetupMeet (MeetFault values s.top s.meet) ∷ []))
    → ((lines : ℕ) → P (plain SetupEvents (EventsFault s.events) ∷ plain SetupLines (LinesFault lines) ∷ [])) → P (setup_conditions s)
unfolding setup_conditions kind_conditions
setup_by P s numbers register = go s.kind
  where
    go : (kind : ValueKind) → P (plain SetupEvents (EventsFault s.events) ∷ kind_conditions kind s.top s.meet)
    go (Numbered values) = numbers values
    go (Register lines) = register lines

-- Behind 4, in an order.
pub record Ordered (o : List ℕ) (cs : List Condition) : Type 0 where
  pub behind_4 : part_of (4 ∷ condition_numbers cs) o ≡ true
  pub placed : right_places cs ≡ true

module _ (s : Setup) (nodes : List ℕ) where
  abbrev later : List Condition
  later = rule_conditions_of s nodes

  pub compile_ordered : (old : List ℕ) → Ordered order (compile_conditions state_limit s nodes old)
  unfolding condition_numbers right_places has_place part_of order
  compile_ordered old =
      setup_by (λ (cs : List Condition). Ordered order (cs ++ (byte_conditions s.events s.kind nodes
      ++ (states_condition (setup_meet s) (setup_top s) s.events s.kind nodes state_limit
      ∷ buffer_condition (setup_meet s) (setup_top s) s.events s.kind nodes old
      ∷ [])))) s
      (λ values. record { behind_4 = refl; placed = refl }) (λ lines. record { behind_4 = refl; placed = refl })

  pub replay_ordered : (word old : List ℕ) → Ordered replay_order (file_replay_conditions word old s nodes)
  unfolding condition_numbers right_places has_place part_of replay_order
  replay_ordered word old =
      setup_by (λ (cs : List Condition). Ordered replay_order ((cs ++ later)
      ++ (plain EventNumber (¬ Word s.events word) ∷ plain BufferLength (length old < length word * value_width s.kind) ∷ []))) s
      (λ values. record { behind_4 = refl; placed = refl }) (λ lines. record { behind_4 = refl; placed = refl })

  pub trial_ordered : (states start : ℕ) (device old : List ℕ) → Ordered order (file_trial_conditions states start device old s nodes)
  unfolding condition_numbers right_places has_place part_of order
  trial_ordered states start device old =
      setup_by (λ (cs : List Condition). Ordered order ((cs ++ later) ++ (table_condition (entry_width s.kind) device_limit s.events (SetupValue s) states
      start device (machine_of s.kind s.events device) ∷ plain BufferLength (length old < word_limit) ∷ []))) s
      (λ values. record { behind_4 = refl; placed = refl }) (λ lines. record { behind_4 = refl; placed = refl })

-- ---- replay

word_of : (events : ℕ) (w : List ℕ) → ((i : ℕ) → i < length w → get_or w i 0 < events) → (j : ℕ) → Word events (take j w)
word_of events w h zero = tt
word_of events [] h (suc j) = tt
word_of events (e ∷ w) h (suc j) = (h 0 (omega arith), word_of events w (λ i l. h (suc i) (omega arith)) j)

pub replay_claim : FileReplayClaim
unfolding file_replay_refusal word_refusal
replay_claim s nodes word old e =
    let test : ℕ → Bool = λ i. ltb (get_or word i 0) s.events in
    let a = or_else_none (pair_table_refusal s nodes) _ e in
    let b = (or_else_none (plain_unless (every (length word) test) EventNumber) _ a.1).0 in
    let all = plain_none (every (length word) test) EventNumber b in
    let below : (i : ℕ) → i < length word → get_or word i 0 < s.events =
    λ i l. ltb-true (get_or word i 0) s.events (every_at (length word) test all i l) in
    let made = (file_table_made s nodes a.0).table in
    record {
      rule = made.formula;
      rule_is = made.code;
      same_length = length_word_values (pair_machine s nodes) 0 word;
      answers = λ i l.
          subst (λ (v : ℕ). Answers (setup_meet s) (setup_top s) made.formula (take i word) (get_or word i 0) v)
          (sym (word_values_at (pair_machine s nodes) 0 word i l))
          (made.answers (take i word) (word_of s.events word below i) (get_or word i 0) (below i l));
    }

word_at : (events : ℕ) (w : List ℕ) → Word events w → (i : ℕ) → i < length w → get_or w i 0 < events
word_at events [] h i l = absurd (not-suc-le-zero l)
word_at events (e ∷ w) h zero l = h.0
word_at events (e ∷ w) h (suc i) l = word_at events w h.1 i (le_of_suc-le-suc l)

whole_word : (events : ℕ) (w : List ℕ) → ((i : ℕ) → i < length w → get_or w i 0 < events) → Word events w
whole_word events [] h = tt
whole_word events (e ∷ w) h = (h 0 (omega arith), whole_word events w (λ i l. h (suc i) (omega arith)))

pub replay_first : (s : Setup) (nodes word old : List ℕ) → First (file_replay_conditions word old s nodes) (file_replay_refusal s nodes word old)
unfolding file_replay_refusal word_refusal
replay_first s nodes word old =
    let test : ℕ → Bool = λ i. ltb (get_or word i 0) s.events in
    let size = length word * value_width s.kind in
    first_append _ _ _ _ (contents_table_claim s nodes).first
    (first_append (plain EventNumber (¬ Word s.events word) ∷ []) _ _ _
    (plain_first EventNumber (¬ Word s.events word) (every (length word) test)
    (λ e h. let x = every_some (length word) test e in omega
    (arith, word_at s.events word h x.0 x.1, ltb-false (get_or word x.0 0) s.events x.2))
    (λ e h. h (whole_word s.events word (λ i l. ltb-true (get_or word i 0) s.events (every_at (length word) test e i l)))))
    (plain_first BufferLength (length old < size) (leb size (length old))
    (λ e. leb-false size (length old) e)
    (λ e h. let l = leb-true size (length old) e in omega arith)))

-- ---- trial

or_nothing : (a : Option Refusal) → or_else a none ≡ a
unfolding or_else
or_nothing none = refl
or_nothing (some r) = refl

trial_behind : (a b d e : Option Refusal) → a ≡ none → d ≡ none → or_else b e ≡ or_else a (or_else (or_else b d) e)
unfolding or_else
trial_behind a b d e p q = rw (p, q, or_nothing b)

pub file_trial_first :
    (s : Setup) (nodes : List ℕ) (states start : ℕ) (device old : List ℕ) →
    First (file_trial_conditions states start device old s nodes) (file_trial_refusal s nodes states start device old)
unfolding file_trial_refusal trial_refusal handed_refusal tables_refusal input pair_table_refusal
file_trial_first s nodes states start device old =
    first_then (pair_table_conditions s nodes) _ (pair_table_refusal s nodes) _ (contents_table_claim s nodes).first
    (λ ok.
    subst (First _)
    (trial_behind (setup_refusal s) (table_refusal device_limit s.events s.kind states start device)
    (table_refusal table_limit s.events s.kind (pair_states s nodes) 0 (pair_table s nodes)) (plain_unless (leb word_limit (length old)) BufferLength)
    (or_else_none (setup_refusal s) _ ok).0 (file_table_accepted s nodes ok))
    (first_append _ _ _ _ (table_refusal_first device_limit s.events s.kind states start device)
    (plain_first BufferLength (length old < word_limit) (leb word_limit (length old)) (λ e. leb-false word_limit (length old) e)
    (λ e h. let l = leb-true word_limit (length old) e in omega arith))))

pub file_trial_claim : FileTrialClaim
unfolding file_trial_refusal input meet_of
file_trial_claim s nodes states start device old e =
    let x = file_trial s nodes states start device in
    let a = or_else_none (pair_table_refusal s nodes) (trial_refusal device_limit table_limit x old) e in
    let made = (file_table_made s nodes a.0).table in
    record {
      rule = made.formula;
      rule_is = made.code;
      passes = trial_satisfies device_limit table_limit x old a.1 made.formula made.code.accepted.well_formed made.is_table;
    }
