-- The claims on a trial: its refusals are the list's; it passes exactly if the device is simulated, and as same exactly if all values are
-- equal; a word that it shows is the first on which the device fails, and the only one; against a formula's table it decides satisfaction.
use mathlib.Core.Logic.Iff
use mathlib.Core.{Path.{◌≡◌, refl, sym, ◌∙◌, ap, subst, subst⁻¹}, Bool.{Bool, true, false}, Logic.{◌↔◌, ◌⊎◌, inl, inr, ⊎_elim}}
use mathlib.Core.{List.{List, [], ◌∷◌, ◌++◌}, Option.{Option, none, some}}
use Prim.Native.Nat.{ℕ, zero, ◌*◌, ◌≤◌, ◌<◌}
use native.Mathlib.Omega.{arith}
use borrow.Author.Tests.{leb-true, leb-false}
use lib.{Dec.{T, leb, eqb}, ListN.{length, take, drop}, Seq.{take-append_seam, drop-append_seam}}
use Rattle.theory.specs.ValueSets.{AtOrBelow}
use Rattle.theory.specs.MealyMachine.{States, Runs, after}
use Rattle.theory.specs.ConformanceCheck.{counterexample}
use Rattle.theory.proofs.{ConformanceClaims.{table_simulation_claim, conformance_claim, one_first_word_claim, same_values_claim}}
use Rattle.theory.proofs.{Numbers.{eqb_iff}, ReachableStates.{after_in}, ConformanceClaims.{is_none_iff, passes_iff}, Trial.{trial_claim}}
use Rattle.refusal.specs.{declared.Refusal.{Refusal}, declared.Refusal.TheVariants.{BufferLength, TableLimits}}
use Rattle.refusal.specs.Refusal.{plain, First, has_place, condition_numbers, right_places, part_of, order, put}
use Rattle.refusal.specs.RefusalAnswers.{or_else, answered}
use Rattle.refusal.proofs.{Refusals.{plain_first, first_append}, Answers.{answered_refusal_is}}
use Rattle.values.specs.Setup.{SetupValue, setup_top}
use Rattle.values.proofs.{Setups.{setup_first, judged_after_setup}, ValueKinds.{value_kinds}}
use Rattle.machines.proofs.TableRefusals.{table_refusal_first}
use Rattle.conformance.specs.Trial.{Passes, EndsSame, TrialInput, meet, device_machine, table_machine, FirstFailure, DeviceInOrder}
use Rattle.conformance.specs.declared.Grade.{Grade}
use Rattle.conformance.specs.declared.Grade.TheVariants.{Same, Stricter}
use Rattle.conformance.specs.declared.Verdict.TheVariants.{Pass, Fail}
use Rattle.conformance.specs.TrialAnswer.{below, tables_refusal}
use Rattle.conformance.specs.Claims.{PassesDecided}
use Rattle.conformance.specs.Trial.{RuleTableInOrder, trial_conditions, Passed, grade, word_length}
use Rattle.conformance.specs.TrialAnswer.{handed_refusal, trial_refusal, first_failure, ends_same, grade_of, outcome, found_answer, shown}
use Rattle.conformance.specs.TrialAnswer.{buffer_unless, trial_answer, trial_buffer}
use Rattle.conformance.specs.Claims.{TrialRefusalClaim, TrialRefusedClaim, PassClaim, TwoPassesClaim, GradeClaim, FailClaim, TrialSatisfactionClaim}
use Rattle.conformance.specs.Claims.{LowestPassesClaim}
use Rattle.conformance.proofs.Trials.{Sound, sound, all_pairs}
use Rattle.std.specs.Prelude.{Ok, Err}

-- Tests that decide.
pub true_iff : (b : Bool) → T b ↔ (b ≡ true)
true_iff true = ((λ h. refl), λ e. tt)
true_iff false = ((λ h. absurd h), λ e. subst⁻¹ T e tt)

-- The answers by cases.
passed_none :
    (o : Option Refusal) (f : Option (List ℕ)) (b : Bool) → Passed (answered o (outcome f b)) → (o ≡ none) × (f ≡ none)
unfolding answered outcome
passed_none none none b e = (refl, refl)
passed_none none (some w) b e = absurd e
passed_none (some r) f b e = absurd e

pub failed_some :
    (o : Option Refusal) (f : Option (List ℕ)) (b : Bool) (n : ℕ) → word_length (answered o (outcome f b)) ≡ some n →
    (o ≡ none) × ((w : List ℕ) × (f ≡ some w) × (length w ≡ n))
unfolding answered outcome
failed_some none none b n e = absurd cc
failed_some none (some w) b n e = (refl, (w, refl, cc))
failed_some (some r) f b n e = absurd cc

-- A pass has the grade of the flag, and no other answer has one.
grade_is : (f : Option (List ℕ)) (b : Bool) (g : Grade) → (grade (Ok (outcome f b)) ≡ some g) ↔ ((f ≡ none) × (grade_of b ≡ g))
unfolding outcome
grade_is none b g = ((λ e. (refl, cc)), λ h. ap some h.1)
grade_is (some w) b g = ((λ e. absurd cc), λ h. absurd cc)

same_iff : (b : Bool) → (grade_of b ≡ Same) ↔ (b ≡ true)
unfolding grade_of
same_iff true = ((λ e. refl), λ e. refl)
same_iff false = ((λ e. absurd cc), λ e. absurd cc)

stricter_iff : (b : Bool) → (grade_of b ≡ Stricter) ↔ (¬ (b ≡ true))
unfolding grade_of
stricter_iff true = ((λ e. absurd cc), λ f. absurd (f refl))
stricter_iff false = ((λ e z. cc), λ f. refl)

no_grade : {A : Type 0} (g : A) → ◌≡◌ {A = Option A} none (some g) → ⊥
no_grade g e = cc

pub two_passes : TwoPassesClaim
two_passes (Ok (Pass Same)) = ((λ h. inl refl), λ e. tt)
two_passes (Ok (Pass Stricter)) = ((λ h. inr refl), λ e. tt)
two_passes (Ok (Fail n)) = ((λ h. absurd h), λ e. absurd (⊎_elim (no_grade Same) (no_grade Stricter) e))
two_passes (Err r) = ((λ h. absurd h), λ e. absurd (⊎_elim (no_grade Same) (no_grade Stricter) e))

-- One condition that is met in either of two ways.
either_first :
    (n : Refusal) (P Q : Type 0) (a b : Option Refusal) → First (plain n P ∷ []) a → First (plain n Q ∷ []) b → First (plain n (P ⊎ Q) ∷ []) (or_else a b)
unfolding First or_else
either_first n P Q a b (inl (r, x, e)) y = inl (r, (inl x.0, x.1), ap (λ o. or_else o b) e)
either_first n P Q a b (inr (unmet, e)) (inl (r, y, d)) = inl (r, (inr y.0, y.1), ap (λ o. or_else o b) e ∙ d)
either_first n P Q a b (inr (unmet, e)) (inr (neither, d)) =
    inr ((λ r m. ⊎_elim (λ p. unmet r (p, m.1)) (λ q. neither r (q, m.1)) m.0), ap (λ o. or_else o b) e ∙ d)

-- Two first words of one input are equal.
one_word : (x : TrialInput) (v w : List ℕ) → FirstFailure x v → FirstFailure x w → v ≡ w
one_word x v w =
    one_first_word_claim (SetupValue x.set_up) (meet x) (setup_top x.set_up) x.set_up.events (device_machine x) (table_machine x)
    x.device_start zero v w

module _ (d t : ℕ) where
  -- The refusals.
  module _ (x : TrialInput) (old : List ℕ) where
    tables_first :
        First (plain TableLimits ((¬ DeviceInOrder d t x old) ⊎ (¬ RuleTableInOrder d t x old)) ∷ [])
        (tables_refusal d t x.set_up.events x.set_up.kind x.states x.table x.device_states x.device_start x.device)
    unfolding tables_refusal
    tables_first =
        either_first TableLimits _ _ _ _
        (table_refusal_first d x.set_up.events x.set_up.kind x.device_states x.device_start x.device)
        (table_refusal_first t x.set_up.events x.set_up.kind x.states zero x.table)

    refusal_first : First (trial_conditions d t x old) (trial_refusal d t x old)
    unfolding trial_conditions trial_refusal handed_refusal
    refusal_first =
        first_append _ _ _ _ (setup_first x.set_up)
        (first_append _ _ _ _ tables_first
        (plain_first BufferLength (length old < d * t) (leb (d * t) (length old)) (leb-false (d * t) (length old))
        (λ e h. omega (arith, leb-true (d * t) (length old) e))))

  pub trial_refusals : TrialRefusalClaim d t
  unfolding trial_conditions condition_numbers right_places has_place part_of order
  trial_refusals x old = judged_after_setup x.set_up _ (trial_refusal d t x old) (refusal_first x old) refl refl refl

  pub trial_refused : TrialRefusedClaim d t
  unfolding trial_answer found_answer trial_buffer buffer_unless
  trial_refused =
      record {
        answer = λ x old. answered_refusal_is (trial_refusal d t x old) (found_answer x);
        kept = λ x old r e.
            ap (λ o. buffer_unless o (first_failure x) old) (sym (answered_refusal_is (trial_refusal d t x old) (found_answer x)) ∙ e);
      }

  -- An accepted input's tables run, and the values obey the laws.
  module _ (x : TrialInput) (old : List ℕ) (z : trial_refusal d t x old ≡ none) where
    ok : Sound d t x old
    ok = sound d t x old z

    decides : (b c : ℕ) → T (below x b c) ↔ AtOrBelow (meet x) b c
    decides b c = Iff.trans (true_iff (below x b c)) (value_kinds.order x.set_up.kind x.set_up.meet b c)

    device_runs : Runs x.set_up.events (SetupValue x.set_up) (States x.device_states) (device_machine x)
    device_runs =
        record { value_in = λ s h e l. ok.tables.device_ok.values_in s e h l; next_in = λ s h e l. ok.tables.device_ok.nexts_in s e h l }

    table_runs : Runs x.set_up.events (SetupValue x.set_up) (States x.states) (table_machine x)
    table_runs =
        record { value_in = λ s h e l. ok.tables.table_ok.values_in s e h l; next_in = λ s h e l. ok.tables.table_ok.nexts_in s e h l }

    abbrev found : Option (List ℕ)
    found = counterexample (below x) (device_machine x) (table_machine x) x.set_up.events x.device_states x.states x.device_start zero

    says :
        ((found ≡ none) ↔ PassesDecided x)
        × ((word : List ℕ) → found ≡ some word → FirstFailure x word × (0 < length word) × (length word ≤ x.device_states * x.states))
    says =
        conformance_claim (SetupValue x.set_up) (meet x) (setup_top x.set_up) x.set_up.events (below x) decides
        x.device_states (device_machine x) x.states (table_machine x) device_runs table_runs x.device_start zero
        ok.tables.device_ok.start_in ok.tables.table_ok.some_states

    accepted_answer : trial_answer d t x old ≡ Ok (outcome found (ends_same x))
    unfolding trial_answer found_answer first_failure answered
    accepted_answer = ap (λ o. answered o (found_answer x)) z

    answer_iff : Passed (trial_answer d t x old) ↔ (found ≡ none)
    unfolding answered outcome
    answer_iff = (
      (λ e. (passed_none none found (ends_same x) (subst Passed accepted_answer e)).1),
      λ e. subst⁻¹ Passed (accepted_answer ∙ ap (λ o. Ok (outcome o (ends_same x))) e) tt,
    )

    few : (word : List ℕ) → length word ≤ x.device_states * x.states → length word ≤ d * t
    few word h = omega (arith, all_pairs d t x old ok.tables)

    -- Definition 1, with decided relations or without.
    by_definition : PassesDecided x ↔ Passes x
    by_definition =
        table_simulation_claim (SetupValue x.set_up) (meet x) (setup_top x.set_up) x.set_up.events (below x) decides
        x.device_states (device_machine x) x.states (table_machine x) device_runs table_runs x.device_start zero
        ok.tables.device_ok.start_in ok.tables.table_ok.some_states

  pub trial_passes : PassClaim d t
  unfolding trial_answer found_answer trial_buffer buffer_unless shown
  trial_passes =
      record {
        exactly = λ x old z. Iff.trans (answer_iff x old z) (says x old z).0;
        kept = λ x old e.
            let c = passed_none (trial_refusal d t x old) (first_failure x) (ends_same x) e in
            ap (λ o. buffer_unless o (first_failure x) old) c.0 ∙ ap (λ f. shown f old) c.1;
      }

  pub trial_fails : FailClaim d t
  unfolding trial_answer found_answer trial_buffer first_failure buffer_unless shown put
  trial_fails x old n e =
      let c = failed_some (trial_refusal d t x old) (first_failure x) (ends_same x) n e in
      let word = c.1.0 in
      let said = (says x old c.0).1 word c.1.1 in
      let later : trial_buffer d t x old ≡ word ++ drop (length word) old
      = ap (λ o. buffer_unless o (first_failure x) old) c.0 ∙ ap (λ f. shown f old) c.1.1 in
      let long : length word ≡ n = c.1.2 in
      let front : take n (trial_buffer d t x old) ≡ word
      = ap (take n) later ∙ ap (λ i. take i (word ++ drop (length word) old)) (sym long) ∙ take-append_seam word (drop (length word) old) in
      record {
        some_events = omega (arith, said.1, long);
        few_events = omega (arith, few x old c.0 word said.2, long);
        word = subst⁻¹ (FirstFailure x) front said.0;
        only = λ other h. let same : word ≡ other = one_word x word other said.0 h in (front ∙ same, sym long ∙ ap length same);
        rest_kept =
            ap (drop n) later ∙ ap (λ i. drop i (word ++ drop (length word) old)) (sym long) ∙ drop-append_seam word (drop (length word) old)
            ∙ ap (λ i. drop i old) long;
        not_passed = λ p. let u : found x old c.0 ≡ none = (says x old c.0).0.1 ((by_definition x old c.0).1 p) in
            let v : found x old c.0 ≡ some word = c.1.1 in
            cc;
      }

  pub trial_satisfies : TrialSatisfactionClaim d t
  trial_satisfies x old z φ well is_table =
      Iff.trans (answer_iff x old z)
      (trial_claim (SetupValue x.set_up) (meet x) (setup_top x.set_up) (ok x old z).set_up.laws x.set_up.events (below x) (decides x old z)
      φ well x.states (table_machine x) is_table x.device_states (device_machine x) (device_runs x old z) x.device_start
      (ok x old z).tables.device_ok.start_in)

  pub lowest_passes : LowestPassesClaim d t
  lowest_passes x old z low =
      (trial_passes.exactly x old z).1 (
        (λ s u. true),
        (λ s u hs hu r e l. (low s e ((table_machine x).value u e) hs l ((table_runs x old z).value_in u hu e l), tt)),
        tt,
      )

  -- As same exactly if every event sequence ends in equal values.
  module _ (x : TrialInput) (old : List ℕ) (z : trial_refusal d t x old ≡ none) where
    ends_iff : (ends_same x ≡ true) ↔ EndsSame x
    unfolding ends_same
    ends_iff =
        Iff.trans (Iff.symm (true_iff (ends_same x)))
        (Iff.trans (is_none_iff _)
        (same_values_claim (SetupValue x.set_up) (meet x) (setup_top x.set_up) x.set_up.events eqb eqb_iff
        x.device_states (device_machine x) x.states (table_machine x) (device_runs x old z) (table_runs x old z) x.device_start zero
        (ok x old z).tables.device_ok.start_in (ok x old z).tables.table_ok.some_states))

    -- Equal values are at or below each other.
    same_passes : EndsSame x → found x old z ≡ none
    same_passes same =
        (passes_iff (SetupValue x.set_up) (meet x) (below x) (decides x old z) x.set_up.events
        x.device_states (device_machine x) x.states (table_machine x) (device_runs x old z) (table_runs x old z) x.device_start zero
        (ok x old z).tables.device_ok.start_in (ok x old z).tables.table_ok.some_states).1
        (λ w v e l. subst (AtOrBelow (meet x) ((device_machine x).value (after (device_machine x) x.device_start w) e)) (same w v e l)
        ((ok x old z).set_up.laws.idempotent _
        ((device_runs x old z).value_in _
        (after_in x.set_up.events (device_machine x) (States x.device_states) (device_runs x old z).next_in w v x.device_start
        (ok x old z).tables.device_ok.start_in) e l)))

    grade_iff : (g : Grade) → (grade (trial_answer d t x old) ≡ some g) ↔ ((found x old z ≡ none) × (grade_of (ends_same x) ≡ g))
    grade_iff g =
        subst⁻¹ (λ v. (grade v ≡ some g) ↔ ((found x old z ≡ none) × (grade_of (ends_same x) ≡ g))) (accepted_answer x old z)
        (grade_is (found x old z) (ends_same x) g)

    passes_iff_none : (found x old z ≡ none) ↔ Passes x
    passes_iff_none = Iff.trans (says x old z).0 (by_definition x old z)

  pub trial_grades : GradeClaim d t
  trial_grades =
      record {
        same = λ x old z. (
          (λ e. (ends_iff x old z).0 ((same_iff (ends_same x)).0 ((grade_iff x old z Same).0 e).1)),
          λ h. (grade_iff x old z Same).1 (same_passes x old z h, (same_iff (ends_same x)).1 ((ends_iff x old z).1 h)),
        );
        stricter = λ x old z. (
          (λ e. let g = (grade_iff x old z Stricter).0 e in
              ((passes_iff_none x old z).0 g.0, λ h. (stricter_iff (ends_same x)).0 g.1 ((ends_iff x old z).1 h))),
          λ h. (grade_iff x old z Stricter).1
              ((passes_iff_none x old z).1 h.0, (stricter_iff (ends_same x)).1 (λ e. h.1 ((ends_iff x old z).0 e))),
        );
      }

  -- The same by document 01's definitions.
  pub trial_simulated :
      (x : TrialInput) (old : List ℕ) → trial_refusal d t x old ≡ none → Passed (trial_answer d t x old) ↔ Passes x
  trial_simulated x old z =
      let e = trial_passes.exactly x old z in
      let f = by_definition x old z in
      ((λ p. f.0 (e.0 p)), λ q. e.1 (f.1 q))
