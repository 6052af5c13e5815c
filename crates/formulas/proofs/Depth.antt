-- 23, for any limit: a V is found with so many above it exactly if some part stands below more, and exactly if the most V nodes on a path are more.
use mathlib.Core.{Path.{◌≡◌, refl, sym, ap, subst}, Logic.{◌⊎◌, inl, inr, ◌↔◌}, Bool.{Bool, true, false}, List.{List, [], ◌∷◌}}
use mathlib.Core.Option.{Option, none, some, some-ne-none}
use Prim.Native.Nat.{ℕ, suc, ◌+◌, ◌≤◌, ◌<◌}
use native.Mathlib.Omega.{arith}
use lib.Dec.{leb}
use borrow.Author.Tests.{le-leb, leb-true, leb-false}
use Rattle.theory.specs.{Formula.{Formula, truth, variable, transition, output, conjunction, greatest, size}, BinderDepth.{binder_depth}}
use Rattle.formulas.specs.RuleConditions.Placed.{root as placed_root, part_of_transition as placed_transition, left_part as placed_left}
use Rattle.formulas.specs.RuleConditions.Placed.{right_part as placed_right, part_of_greatest as placed_greatest}
use Rattle.formulas.specs.RuleConditions.{Mark, binder_mark, transition_mark, binders_above, Placed, TooDeep}
use Rattle.formulas.specs.RuleReading.{path_full, deep_search, lowest_deep}
use Rattle.formulas.proofs.LowestFault.{Answered, false_not_true, state_below, FaultIn, lowest_answered, FaultyVariable, FaultyBinder, root, fault_up}
use Rattle.formulas.proofs.LowestFault.{fault_down, placed_reached, reached_placed}

-- The state is the number of binders above.
state_is : (most : ℕ) (ms : List Mark) → state_below (deep_search most) 0 ms ≡ binders_above ms
state_is most [] = refl
state_is most (binder_mark ∷ ms) = ap suc (state_is most ms)
state_is most (transition_mark ∷ ms) = state_is most ms

module _ {B : Type 0} (most : ℕ) where
  -- From a path within the limit on: a V is at fault exactly if the V nodes below make more.
  pub fault_deep : (φ : Formula B) (d i j : ℕ) → FaultIn (deep_search most) d i φ j → most < d + binder_depth φ
  unfolding path_full
  fault_deep truth d i j x = absurd x
  fault_deep (variable n) d i j x = absurd (false_not_true x.1)
  fault_deep (transition e φ) d i j x = fault_deep φ d (suc i) j x
  fault_deep (output e b) d i j x = absurd x
  fault_deep (conjunction φ χ) d i j (inl x) = omega (arith, fault_deep φ d (suc i) j x)
  fault_deep (conjunction φ χ) d i j (inr x) = omega (arith, fault_deep χ d (suc i + size φ) j x)
  fault_deep (greatest φ) d i j (inl x) = omega (arith, leb-true most d x.1)
  fault_deep (greatest φ) d i j (inr x) = omega (arith, fault_deep φ (suc d) (suc i) j x)

  pub no_fault_shallow :
      (φ : Formula B) (d i : ℕ) → d ≤ most → ((j : ℕ) → ¬ FaultIn (deep_search most) d i φ j) → d + binder_depth φ ≤ most
  unfolding path_full
  no_fault_shallow truth d i h clear = omega (arith, h)
  no_fault_shallow (variable n) d i h clear = omega (arith, h)
  no_fault_shallow (transition e φ) d i h clear = no_fault_shallow φ d (suc i) h clear
  no_fault_shallow (output e b) d i h clear = omega (arith, h)
  no_fault_shallow (conjunction φ χ) d i h clear =
      omega (arith, no_fault_shallow φ d (suc i) h (λ j x. clear j (inl x)), no_fault_shallow χ d (suc i + size φ) h (λ j x. clear j (inr x)))
  no_fault_shallow (greatest φ) d i h clear =
      go (leb most d) refl (λ l. no_fault_shallow φ (suc d) (suc i) l (λ j x. clear j (inr x)))
    where
      go : (b : Bool) → leb most d ≡ b → (suc d ≤ most → suc d + binder_depth φ ≤ most) → d + suc (binder_depth φ) ≤ most
      go true e below = absurd (clear i (inl (refl, e)))
      go false e below = omega (arith, below (omega (arith, leb-false most d e)))

  -- So the answer of the search says which it is.
  pub found_deep : (φ : Formula B) (p : ℕ) → lowest_deep most 0 0 φ ≡ some p → most < binder_depth φ
  found_deep φ p e = go (lowest_deep most 0 0 φ) e (lowest_answered (deep_search most) 0 0 φ)
    where
      go : (o : Option ℕ) → o ≡ some p → Answered (FaultIn (deep_search most) 0 0 φ) o → most < binder_depth φ
      go none c w = absurd (some-ne-none p (sym c))
      go (some q) c w = omega (arith, fault_deep φ 0 0 q w.holds)

  pub clear_shallow : (φ : Formula B) → lowest_deep most 0 0 φ ≡ none → binder_depth φ ≤ most
  clear_shallow φ e = go (lowest_deep most 0 0 φ) e (lowest_answered (deep_search most) 0 0 φ)
    where
      go : (o : Option ℕ) → o ≡ none → Answered (FaultIn (deep_search most) 0 0 φ) o → binder_depth φ ≤ most
      go none c w = omega (arith, no_fault_shallow φ 0 0 (omega arith) w)
      go (some q) c w = absurd (some-ne-none q c)

  module _ (φ : Formula B) where
    -- A part below more than the limit stands below a V at fault.
    placed_fault : {i : ℕ} {ms : List Mark} {ψ : Formula B} → Placed φ i ms ψ → most < binders_above ms → (j : ℕ) × FaultIn (deep_search most) 0 0 φ j
    unfolding path_full
    placed_fault placed_root h = absurd (omega (arith, h))
    placed_fault (placed_transition r) h = placed_fault r h
    placed_fault (placed_left r) h = placed_fault r h
    placed_fault (placed_right r) h = placed_fault r h
    placed_fault (placed_greatest {i} {ms} r) h = (
      i,
      fault_up (deep_search most) 0 φ (placed_reached (deep_search most) 0 φ r) i
          (inl (refl, subst (λ d. leb most d ≡ true) (sym (state_is most ms)) (le-leb most (binders_above ms) (omega (arith, h))))),
    )

    fault_placed : (j : ℕ) → FaultIn (deep_search most) 0 0 φ j → TooDeep φ most
    unfolding path_full
    fault_placed j x = go (fault_down (deep_search most) 0 φ φ root j x)
      where
        go : FaultyVariable (deep_search most) 0 φ j ⊎ FaultyBinder (deep_search most) 0 φ j → TooDeep φ most
        go (inl y) = absurd (false_not_true y.3)
        go (inr (d, ψ, r, full)) =
            let w = reached_placed (deep_search most) 0 φ r in
            (suc j, binder_mark ∷ w.0, ψ, placed_greatest w.2, omega (arith, leb-true most d full, w.1, state_is most w.0))

    -- 23's sentence and the greatest number of V nodes on a path.
    pub too_deep : TooDeep φ most ↔ (most < binder_depth φ)
    too_deep = (to, from)
      where
        to : TooDeep φ most → most < binder_depth φ
        to (i, ms, ψ, r, h) = let w = placed_fault r h in omega (arith, fault_deep φ 0 0 w.0 w.1)

        from : most < binder_depth φ → TooDeep φ most
        from h = go (lowest_deep most 0 0 φ) refl (lowest_answered (deep_search most) 0 0 φ)
          where
            go : (o : Option ℕ) → lowest_deep most 0 0 φ ≡ o → Answered (FaultIn (deep_search most) 0 0 φ) o → TooDeep φ most
            go none e w = absurd (omega (arith, h, clear_shallow φ e))
            go (some p) e w = fault_placed p w.holds
