-- 8 and 9: what the searches find is the lowest variable of which the sentence holds, and none is found in closed and guarded formulas alone.
use mathlib.Core.{Path.{◌≡◌, refl, sym, ap, subst}, Logic.{inl, inr}, Bool.{Bool, true, false, not}, List.{List, [], ◌∷◌}}
use Prim.Native.Nat.{ℕ, zero, suc, ◌+◌, ◌≤◌, ◌<◌}
use native.Mathlib.Omega.{arith}
use lib.{Dec.{ltb}, ListN.{length}}
use borrow.Author.Tests.{lt-ltb, le-ltb, ltb-true, ltb-false, not-true}
use Rattle.theory.specs.Formula.{Formula, truth, variable, transition, output, conjunction, greatest, size, Stands}
use Rattle.theory.specs.FormulaClasses.{FreeBelow, GuardedIn, Guarded}
use Rattle.theory.specs.Formula.Stands.{root as stands_root, part_of_transition as stands_transition, left_part as stands_left, right_part as stands_right}
use Rattle.theory.specs.Formula.Stands.{part_of_greatest as stands_greatest}
use Rattle.formulas.specs.RuleConditions.{Mark, binder_mark, transition_mark, Protected, by_transition, past_binder, Placed, Unbound, Unprotected}
use Rattle.formulas.specs.RuleReading.{unbound_below, bound_near, unbound_search, unprotected_search, lowest_unbound, lowest_unprotected}
use Rattle.formulas.proofs.LowestFault.{Answered, answered_as, false_not_true, FaultIn, lowest_answered, Reached, root, in_transition, in_left, in_right}
use Rattle.formulas.proofs.LowestFault.{in_greatest, fault_up, faulty_variable, state_below, placed_reached, reached_placed}

-- 8: the state is the number of binders above.
module _ {B : Type 0} (φ : Formula B) where
  abbrev BelowBinders : ℕ → ℕ → Formula B → Type 0
  BelowBinders = Reached unbound_search 0 φ

  stands_below : {i : ℕ} {bs : List ℕ} {ψ : Formula B} → Stands φ i bs ψ → BelowBinders i (length bs) ψ
  stands_below stands_root = root
  stands_below (stands_transition r) = in_transition (stands_below r)
  stands_below (stands_left r) = in_left (stands_below r)
  stands_below (stands_right r) = in_right (stands_below r)
  stands_below (stands_greatest r) = in_greatest (stands_below r)

  below_stands : {i d : ℕ} {ψ : Formula B} → BelowBinders i d ψ → (bs : List ℕ) × (length bs ≡ d) × Stands φ i bs ψ
  below_stands root = ([], refl, stands_root)
  below_stands (in_transition r) = let w = below_stands r in (w.0, w.1, stands_transition w.2)
  below_stands (in_left r) = let w = below_stands r in (w.0, w.1, stands_left w.2)
  below_stands (in_right r) = let w = below_stands r in (w.0, w.1, stands_right w.2)
  below_stands (in_greatest {i} r) = let w = below_stands r in (i ∷ w.0, ap suc w.1, stands_greatest w.2)

  pub unbound_fault : (j : ℕ) → Unbound φ j → FaultIn unbound_search 0 0 φ j
  unfolding unbound_below
  unbound_fault j (bs, n, r, h) = fault_up unbound_search 0 φ (stands_below r) j (refl, ap not (le-ltb n (length bs) h))

  pub fault_unbound : (j : ℕ) → FaultIn unbound_search 0 0 φ j → Unbound φ j
  unfolding unbound_below
  fault_unbound j f =
      let w = faulty_variable unbound_search 0 φ (λ s. refl) j f in
      let v = below_stands w.2 in
      (v.0, w.1, v.2, subst (λ d. d ≤ w.1) (sym v.1) (ltb-false w.1 w.0 (not-true (ltb w.1 w.0) w.3)))

  pub unbound_answered : Answered (Unbound φ) (lowest_unbound 0 0 φ)
  unbound_answered =
      answered_as (FaultIn unbound_search 0 0 φ) (Unbound φ) fault_unbound unbound_fault (lowest_unbound 0 0 φ) (lowest_answered unbound_search 0 0 φ)

-- 9: the state is the number of binders since the last transition.
abbrev near_binders : List Mark → ℕ
near_binders = state_below unprotected_search zero

abbrev all_binders : List Mark → ℕ
all_binders = state_below unbound_search zero

-- A variable whose own binder is near is not protected; any other that has a binder is.
near_unprotected : (ms : List Mark) (n : ℕ) → n < near_binders ms → ¬ Protected ms n
near_unprotected [] n h w = elim h [ ]
near_unprotected (transition_mark ∷ ms) n h w = omega (arith, h)
near_unprotected (binder_mark ∷ ms) zero h w = elim w [ ]
near_unprotected (binder_mark ∷ ms) (suc n) h (past_binder w) = near_unprotected ms n (omega (arith, h)) w

far_protected : (ms : List Mark) (n : ℕ) → near_binders ms ≤ n → n < all_binders ms → Protected ms n
far_protected [] n h l = absurd (omega (arith, l))
far_protected (transition_mark ∷ ms) n h l = by_transition
far_protected (binder_mark ∷ ms) zero h l = absurd (omega (arith, h))
far_protected (binder_mark ∷ ms) (suc n) h l = past_binder (far_protected ms n (omega (arith, h)) (omega (arith, l)))

module _ {B : Type 0} (φ : Formula B) where
  abbrev pub NearFault : ℕ → Type 0
  NearFault = FaultIn unprotected_search 0 0 φ

  pub fault_unprotected : (j : ℕ) → NearFault j → Unprotected φ j
  unfolding bound_near
  fault_unprotected j f =
      let w = faulty_variable unprotected_search 0 φ (λ s. refl) j f in
      let v = reached_placed unprotected_search 0 φ w.2 in
      (v.0, w.1, v.2, near_unprotected v.0 w.1 (subst (λ d. w.1 < d) (sym v.1) (ltb-true w.1 w.0 w.3)))

  -- Where every variable has a binder.
  module _ (bound : (j : ℕ) → ¬ Unbound φ j) where
    binder_above : {j : ℕ} {ms : List Mark} {n : ℕ} → Placed φ j ms (variable n) → n < all_binders ms
    binder_above {j} {ms} {n} r = go (ltb n (all_binders ms)) refl
      where
        go : (b : Bool) → ltb n (all_binders ms) ≡ b → n < all_binders ms
        go true e = ltb-true n (all_binders ms) e
        go false e =
            let w = below_stands φ (placed_reached unbound_search 0 φ r) in
            absurd (bound j (w.0, n, w.2, subst (λ d. d ≤ n) (sym w.1) (ltb-false n (all_binders ms) e)))

    pub unprotected_fault : (j : ℕ) → Unprotected φ j → NearFault j
    unfolding bound_near
    unprotected_fault j (ms, n, r, u) =
        fault_up unprotected_search 0 φ (placed_reached unprotected_search 0 φ r) j (refl, go (ltb n (near_binders ms)) refl)
      where
        go : (b : Bool) → ltb n (near_binders ms) ≡ b → ltb n (near_binders ms) ≡ true
        go true e = e
        go false e = absurd (u (far_protected ms n (ltb-false n (near_binders ms) e) (binder_above r)))

    pub unprotected_answered : Answered (Unprotected φ) (lowest_unprotected 0 0 φ)
    unprotected_answered =
        answered_as NearFault (Unprotected φ) fault_unprotected unprotected_fault (lowest_unprotected 0 0 φ)
        (lowest_answered unprotected_search 0 0 φ)

-- No variable is without binder exactly if the formula is closed.
module _ {B : Type 0} where
  abbrev NoUnbound : ℕ → ℕ → Formula B → Type 0
  NoUnbound d i φ = (j : ℕ) → ¬ FaultIn unbound_search d i φ j

  pub free_below : (φ : Formula B) (d i : ℕ) → NoUnbound d i φ → FreeBelow d φ
  unfolding unbound_below
  free_below truth d i h = tt
  free_below (variable n) d i h = go (ltb n d) refl
    where
      go : (b : Bool) → ltb n d ≡ b → n < d
      go true e = ltb-true n d e
      go false e = absurd (h i (refl, ap not e))
  free_below (transition e φ) d i h = free_below φ d (suc i) h
  free_below (output e b) d i h = tt
  free_below (conjunction φ χ) d i h = (free_below φ d (suc i) (λ j f. h j (inl f)), free_below χ d (suc i + size φ) (λ j f. h j (inr f)))
  free_below (greatest φ) d i h = free_below φ (suc d) (suc i) (λ j f. h j (inr f))

  pub below_free : (φ : Formula B) (d i : ℕ) → FreeBelow d φ → NoUnbound d i φ
  unfolding unbound_below
  below_free truth d i h j f = f
  below_free (variable n) d i h j f = omega (arith, h, ltb-false n d (not-true (ltb n d) f.1))
  below_free (transition e φ) d i h j f = below_free φ d (suc i) h j f
  below_free (output e b) d i h j f = f
  below_free (conjunction φ χ) d i h j (inl f) = below_free φ d (suc i) h.0 j f
  below_free (conjunction φ χ) d i h j (inr f) = below_free χ d (suc i + size φ) h.1 j f
  below_free (greatest φ) d i h j (inl f) = false_not_true f.1
  below_free (greatest φ) d i h j (inr f) = below_free φ (suc d) (suc i) h j f

  -- No variable has its own binder near exactly if the formula is guarded, also in the variables of the near binders.
  abbrev NoneNear : ℕ → ℕ → Formula B → Type 0
  NoneNear near i φ = (j : ℕ) → ¬ FaultIn unprotected_search near i φ j

  abbrev GuardedNear : ℕ → Formula B → Type 0
  GuardedNear near φ = Guarded φ × ((k : ℕ) → k < near → GuardedIn k φ)

  pub near_guarded : (φ : Formula B) (near i : ℕ) → NoneNear near i φ → GuardedNear near φ
  unfolding bound_near
  near_guarded truth near i h = (tt, λ k l. tt)
  near_guarded (variable n) near i h = (tt, λ k l e. h i (refl, lt-ltb n near (omega (arith, l, e))))
  near_guarded (transition e φ) near i h = ((near_guarded φ zero (suc i) h).0, λ k l. tt)
  near_guarded (output e b) near i h = (tt, λ k l. tt)
  near_guarded (conjunction φ χ) near i h =
      let u = near_guarded φ near (suc i) (λ j f. h j (inl f)) in
      let v = near_guarded χ near (suc i + size φ) (λ j f. h j (inr f)) in
      ((u.0, v.0), λ k l. (u.1 k l, v.1 k l))
  near_guarded (greatest φ) near i h =
      let w = near_guarded φ (suc near) (suc i) (λ j f. h j (inr f)) in
      ((w.1 zero (omega arith), w.0), λ k l. w.1 (suc k) (omega (arith, l)))

  pub guarded_near : (φ : Formula B) (near i : ℕ) → GuardedNear near φ → NoneNear near i φ
  unfolding bound_near
  guarded_near truth near i g j f = f
  guarded_near (variable n) near i g j f = g.1 n (ltb-true n near f.1) refl
  guarded_near (transition e φ) near i g j f = guarded_near φ zero (suc i) (g.0, λ k l. absurd (omega (arith, l))) j f
  guarded_near (output e b) near i g j f = f
  guarded_near (conjunction φ χ) near i g j (inl f) = guarded_near φ near (suc i) (g.0.0, λ k l. (g.1 k l).0) j f
  guarded_near (conjunction φ χ) near i g j (inr f) = guarded_near χ near (suc i + size φ) (g.0.1, λ k l. (g.1 k l).1) j f
  guarded_near (greatest φ) near i g j (inl f) = false_not_true f.1
  guarded_near (greatest φ) near i g j (inr f) = guarded_near φ (suc near) (suc i) (g.0.1, inner) j f
    where
      inner : (k : ℕ) → k < suc near → GuardedIn k φ
      inner zero l = g.0.0
      inner (suc k) l = g.1 k (omega (arith, l))
