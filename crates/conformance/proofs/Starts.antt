-- The queue with the start's pair alone, and what the answer is when the search has ended.
use mathlib.Core.{Path.{◌≡◌, refl, sym, ◌∙◌, ap, ap₂, subst⁻¹}, Bool.{Bool, true, false, or-false}, List.{List, [], ◌∷◌, reverse}, Option.{none}}
use Prim.Native.Nat.{ℕ, zero, ◌+◌, ◌*◌, ◌≤◌, ◌<◌}
use native.Mathlib.{Nat.{mul-le-mul_right, suc-mul}, Omega.{arith}}
use lib.{ListN.{length, get_or, set, replicate, length-set, length-reverse, length-replicate, get_or-replicate}}
use lib.Seq.{get_or-set_same, get_or-set_other}
use Rattle.theory.specs.Exploration.{has_state}
use Rattle.theory.specs.ConformanceCheck.{same_pair, next_pair}
use Rattle.theory.proofs.Numbers.{digits_equal}
use Rattle.refusal.specs.Refusal.{put}
use Rattle.conformance.specs.declared.{Failure.{Failure}, Queue.{Queue}, Pair.{Pair}}
use Rattle.conformance.specs.declared.Verdict.TheVariants.{Pass, Fail}
use Rattle.conformance.specs.Trial.{TrialInput, device_machine, table_machine}
use Rattle.conformance.specs.TrialAnswer.{outcome, grade_of, found_answer, first_failure, ends_same, shown}
use Rattle.conformance.specs.PairQueue.{pair_at, states, HoldsPairs, Ready, pair_after, pushed, FailsAt}
use Rattle.conformance.proofs.{Queues.{same_pair_self, same_pair_true}, Words.{short_word, put_last}}

-- The queue as it is made.
abbrev pub empty : (size : ℕ) → Queue size
empty size =
    record {
      count = 0;
      pairs = replicate size (record { device = 0; table = 0; event = 0; parent = 0 });
      flags = replicate size false;
    }

module _ {size : ℕ} {x : TrialInput} (ready : Ready size x) where
  abbrev place : ℕ
  place = x.device_start * x.states

  -- The start's state and pair fit.
  pub start_place : place < size
  start_place = omega (arith, ready.some_states, mul-le-mul_right x.states ready.start_in, suc-mul x.device_start x.states, ready.few_pairs)

  unset : (i : ℕ) → i < size → get_or (replicate size false) i false ≡ false
  unset i h = get_or-replicate size i false false h

  abbrev start : Pair
  start = record { device = x.device_start; table = 0; event = 0; parent = 0 }

  pub start_held : HoldsPairs x ([] ∷ []) (pushed (empty size) place start)
  unfolding pushed
  start_held = rw (unset place start_place) (record {
    sized =
        record {
          pairs_size = simp (length-set, length-replicate);
          flags_size = simp (length-set, length-replicate);
        };
    counted = refl;
    linked =
        record { some_word = omega arith; empty_first = refl; earlier = λ j u h. absurd (omega arith); longer = λ j u h. absurd (omega arith) };
    reached = λ j h. ap states (first_is j h) ∙ sym (ap (λ y. pair_after x (get_or ([] ∷ []) y [])) (only j h));
    device_in = λ j h. subst⁻¹ (λ y. y.device < x.device_states) (first_is j h) ready.start_in;
    table_in = λ j h. subst⁻¹ (λ y. y.table < x.states) (first_is j h) ready.some_states;
    flagged = λ u v hu hv. flagged u v hu hv (same_pair (x.device_start, zero) (u, v)) refl;
  })
    where
      only : (j : ℕ) → j < 1 → j ≡ 0
      only j h = omega arith

      first_is : (j : ℕ) → j < 1 → pair_at (set (empty size).pairs 0 start) j ≡ start
      first_is j h =
          ap (pair_at (set (empty size).pairs 0 start)) (only j h)
          ∙ get_or-set_same (empty size).pairs 0 start _ (omega (arith, length-replicate size (pair_at [] 0), start_place))

      flagged :
          (u v : ℕ) → u < x.device_states → v < x.states → (b : Bool) → same_pair (x.device_start, zero) (u, v) ≡ b →
          get_or (set (replicate size false) place true) (u * x.states + v) false
          ≡ has_state same_pair (next_pair (device_machine x) (table_machine x)) (x.device_start, zero) ([] ∷ []) (u, v)
      flagged u v hu hv true z =
          let e : (x.device_start ≡ u) × (zero ≡ v) = same_pair_true (x.device_start, zero) (u, v) z in
          let there : u * x.states + v ≡ place = omega (arith, ap (λ y. y * x.states) e.0, e.1) in
          ap (λ y. get_or (set (replicate size false) place true) y false) there
          ∙ get_or-set_same (replicate size false) place true false (omega (arith, length-replicate size false, start_place))
          ∙ sym (or-false (same_pair (x.device_start, zero) (u, v)) ∙ z)
      flagged u v hu hv false z =
          get_or-set_other (replicate size false) place (u * x.states + v) true false
          (λ y. other (digits_equal x.states u x.device_start v zero hv ready.some_states (omega arith)))
          ∙ unset (u * x.states + v) (omega (arith, hv, mul-le-mul_right x.states hu, suc-mul u x.states, ready.few_pairs))
          ∙ sym (or-false (same_pair (x.device_start, zero) (u, v)) ∙ z)
        where
          other : (u ≡ x.device_start) × (v ≡ zero) → ⊥
          other e =
              let c : ◌≡◌ {A = Bool} true false
              = sym (same_pair_self x.device_start zero) ∙ ap₂ (λ a b. same_pair (x.device_start, zero) (a, b)) (sym e.0) (sym e.1) ∙ z in cc

-- The verdict where the search finds nothing.
pub none_answer :
    (x : TrialInput) (all_equal : Bool) → (first_failure x ≡ none) × (all_equal ≡ ends_same x) → Pass (grade_of all_equal) ≡ found_answer x
unfolding found_answer outcome
none_answer x all_equal (z, e) = ap (λ b. Pass (grade_of b)) e ∙ ap (λ o. outcome o (ends_same x)) (sym z)

pub none_shown : (x : TrialInput) (old : List ℕ) → first_failure x ≡ none → old ≡ shown (first_failure x) old
unfolding shown
none_shown x old z = ap (λ o. shown o old) (sym z)

-- And where it fails at a place of the queue.
module _ {size : ℕ} {x : TrialInput} {failure : Failure} {a : Queue size} (y : FailsAt x failure a) where
  abbrev w : List ℕ
  w = get_or y.reaches.words failure.place []

  pub word_fits : (n : ℕ) → n ≡ length w → n < size
  word_fits n z =
      omega (
        arith,
        short_word y.reaches.words a.pairs y.reaches.linked failure.place y.reaches.has,
        y.reaches.has,
        y.few,
      )

  module _ (n : ℕ) (z : n ≡ length w) where
    pub some_answer : Fail (n + 1) ≡ found_answer x
    unfolding found_answer outcome
    some_answer = ap Fail (omega (arith, length-reverse (failure.event ∷ w))) ∙ ap (λ o. outcome o (ends_same x)) (sym y.is_first)

    pub some_shown :
        (old later : List ℕ) → size ≤ length old → later ≡ put (reverse w) (set old n failure.event) → later ≡ shown (first_failure x) old
    unfolding shown
    some_shown old later room is =
        is ∙ ap (λ c. put (reverse w) (set old c failure.event)) z ∙ put_last w old failure.event (omega (arith, word_fits n z))
        ∙ ap (λ o. shown o old) (sym y.is_first)
