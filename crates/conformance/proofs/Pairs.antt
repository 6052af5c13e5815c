-- What a pair of states shows, event by event.
use mathlib.Core.{Path.{◌≡◌, refl, ◌∙◌, ap, subst, subst⁻¹}, Bool.{Bool, true, false, ◌&&◌, and-true, and-false}}
use Prim.Native.Nat.{ℕ, ◌+◌, ◌<◌}
use native.Mathlib.Omega.{arith}
use Rattle.values.specs.declared.Comparison.{Comparison}
use Rattle.values.specs.declared.Comparison.TheVariants.{Equal, StrictlyBelow, NotBelow}
use Rattle.values.proofs.Comparisons.{TestsOf, tests_of}
use Rattle.conformance.specs.Trial.{TrialInput}
use Rattle.conformance.specs.PairQueue.{comparison_on, below_on, equal_on, BadOn, GoodOn}
use borrow.Author.Count.{below_more}

-- A comparison says what the two tests are.
pub tests_on :
    (x : TrialInput) (s t e : ℕ) (compared : Comparison) → compared ≡ comparison_on x s t e → TestsOf compared (below_on x s t e) (equal_on x s t e)
unfolding comparison_on below_on equal_on
tests_on x s t e compared is =
    subst⁻¹ (λ c. TestsOf c (below_on x s t e) (equal_on x s t e)) is (tests_of x.set_up.kind x.set_up.meet _ _)

module _ (good equal : ℕ → Bool) where
  pub good_none : GoodOn 0 good equal true
  good_none =
      record {
        allowed = λ e h. absurd (omega arith);
        all_same = λ z e h. absurd (omega arith);
        some_differ = λ z. absurd cc;
      }

  pub all_judged : (e events : ℕ) (all_equal : Bool) → e ≡ events → GoodOn e good equal all_equal → GoodOn events good equal all_equal
  all_judged e events all_equal z p = subst (λ n. GoodOn n good equal all_equal) z p

  module _ (e : ℕ) (all_equal : Bool) (p : GoodOn e good equal all_equal) where
    -- One event more, on which the device passes.
    module _ (passes : good e ≡ true) where
      pub good_equal : equal e ≡ true → GoodOn (e + 1) good equal all_equal
      good_equal z =
          record {
            allowed = below_more (λ k. good k ≡ true) e p.allowed passes;
            all_same = λ y. below_more (λ k. equal k ≡ true) e (p.all_same y) z;
            some_differ = λ y. let d = p.some_differ y in (d.0, omega (arith, d.1), d.2);
          }

      pub good_below : equal e ≡ false → GoodOn (e + 1) good equal false
      good_below z =
          record {
            allowed = below_more (λ k. good k ≡ true) e p.allowed passes;
            all_same = λ y. absurd cc;
            some_differ = λ y. (e, omega arith, z);
          }

    -- The turn of the loop, by the comparison on the event.
    module _ {compared : Comparison} (t : TestsOf compared (good e) (equal e)) where
      pub bad_here : (events : ℕ) → e < events → compared ≡ NotBelow → BadOn events good equal e
      bad_here events h z = record { event_in = h; before = p.allowed; bad = subst (λ c. TestsOf c (good e) (equal e)) z t }

      pub equal_here : (flag : Bool) → compared ≡ Equal → flag ≡ true → GoodOn (e + 1) good equal (all_equal && flag)
      equal_here flag z f =
          let u : TestsOf Equal (good e) (equal e) = subst (λ c. TestsOf c (good e) (equal e)) z t in
          subst⁻¹ (GoodOn (e + 1) good equal) (ap (λ b. all_equal && b) f ∙ and-true all_equal) (good_equal u.0 u.1)

      pub below_here : (flag : Bool) → (compared ≡ NotBelow → ⊥) → (compared ≡ Equal → ⊥) → flag ≡ false → GoodOn (e + 1) good equal (all_equal && flag)
      below_here flag f g z =
          let u : TestsOf StrictlyBelow (good e) (equal e) = only_left compared f g t in
          subst⁻¹ (GoodOn (e + 1) good equal) (ap (λ b. all_equal && b) z ∙ and-false all_equal) (good_below u.0 u.1)
        where
          only_left :
              (c : Comparison) → (c ≡ NotBelow → ⊥) → (c ≡ Equal → ⊥) → TestsOf c (good e) (equal e) → TestsOf StrictlyBelow (good e) (equal e)
          only_left NotBelow f g t = absurd (f refl)
          only_left Equal f g t = absurd (g refl)
          only_left StrictlyBelow f g t = t
