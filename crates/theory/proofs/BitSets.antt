-- Node sets as bits: of a formula no larger than the width, the machine of bits reaches the states that the machine of node sets
-- reaches, with the same values.
use mathlib.Core.{Path.{◌≡◌, refl, sym, ◌∙◌, ap, ap₂, subst, subst⁻¹, fun_ext}, Bool.{Bool, true, false, ◌||◌, ◌&&◌, cond, beq}, Logic.{◌↔◌}}
use mathlib.Core.List.{List, [], ◌∷◌}
use Prim.Native.Nat.{ℕ, zero, suc, ◌+◌, ◌≤◌, ◌<◌}
use native.Mathlib.{Nat.{le_of_suc-le-suc, not-suc-le-zero}, Decide.{dec_lt}, Omega.{arith}}
use lib.Dec.{T, eqb}
use mir.Facts.{and_yes}
use borrow.Author.Tests.{ne_eqb}
use Rattle.theory.specs.Formula.{Formula, truth, variable, transition, output, conjunction, greatest, size}
use Rattle.theory.specs.ReachableStates.{NodeSet, value_of_set}
use Rattle.theory.specs.DemandSets.{empty, only, union, binder_set, demands, moved, set_machine, first_set}
use Rattle.theory.specs.Exploration.{member, bits, same_bits, bit_machine, first_bits}
use Rattle.theory.proofs.Transport.{SameStates, map_same_states}

-- The comparison of bits decides equality.
bit_iff : (x y : Bool) → T (beq x y) ↔ (x ≡ y)
bit_iff true true = ((λ t. refl), λ e. tt)
bit_iff true false = ((λ t. absurd t), λ e. subst T e tt)
bit_iff false true = ((λ t. absurd t), λ e. subst⁻¹ T e tt)
bit_iff false false = ((λ t. refl), λ e. tt)

pub same_bits_iff : (L K : List Bool) → T (same_bits L K) ↔ (L ≡ K)
same_bits_iff L K = (to L K, λ e. subst (λ x. T (same_bits L x)) e (self L))
  where
    to : (L K : List Bool) → T (same_bits L K) → L ≡ K
    to [] [] h = refl
    to [] (y ∷ K) h = absurd h
    to (x ∷ L) [] h = absurd h
    to (x ∷ L) (y ∷ K) h =
        let r : T (beq x y) × T (same_bits L K) = and_yes (beq x y) (same_bits L K) h in
        ap₂ ◌∷◌ ((bit_iff x y).0 r.0) (to L K r.1)

    self : (L : List Bool) → T (same_bits L L)
    self [] = tt
    self (true ∷ L) = self L
    self (false ∷ L) = self L

-- No member at or above n.
abbrev pub BoundedBy : ℕ → NodeSet → Type 0
BoundedBy n D = (j : ℕ) → n ≤ j → D j ≡ false

member_below : (n i : ℕ) (D : NodeSet) (j : ℕ) → j < n → member (bits n i D) j ≡ D (i + j)
member_below zero i D j h = absurd (not-suc-le-zero h)
member_below (suc n) i D zero h = ap D (omega arith)
member_below (suc n) i D (suc j) h = member_below n (suc i) D j (le_of_suc-le-suc h) ∙ ap D (omega arith)

member_above : (n i : ℕ) (D : NodeSet) → BoundedBy n (member (bits n i D))
member_above zero i D j h = refl
member_above (suc n) i D zero h = absurd (not-suc-le-zero h)
member_above (suc n) i D (suc j) h = member_above n (suc i) D j (le_of_suc-le-suc h)

-- The members of the bits of a set are the set's.
pub member_bits : (n : ℕ) (D : NodeSet) → BoundedBy n D → member (bits n zero D) ≡ D
member_bits n D b = fun_ext (λ j. go j (dec_lt j n))
  where
    go : (j : ℕ) → Dec (j < n) → member (bits n zero D) j ≡ D j
    go j (yes h) = member_below n zero D j h ∙ ap D (omega arith)
    go j (no h) = member_above n zero D j (omega arith) ∙ sym (b j (omega arith))

abbrev pub AllBoundedBy : ℕ → List NodeSet → Type 0
AllBoundedBy n [] = Unit {0}
AllBoundedBy n (D ∷ ρ) = BoundedBy n D × AllBoundedBy n ρ

empty_bounded : (n : ℕ) → BoundedBy n empty
unfolding empty
empty_bounded n j h = refl

only_bounded : (n i : ℕ) → i < n → BoundedBy n (only i)
unfolding only
only_bounded n i l j h = ne_eqb i j (omega arith)

union_bounded : (n : ℕ) (C D : NodeSet) → BoundedBy n C → BoundedBy n D → BoundedBy n (union C D)
unfolding union
union_bounded n C D c d j h = ap₂ ◌||◌ (c j h) (d j h)

cond_bounded : (n : ℕ) (b : Bool) (D : NodeSet) → BoundedBy n D → BoundedBy n (cond b D empty)
cond_bounded n true D d = d
cond_bounded n false D d = empty_bounded n

binder_set_bounded : (n : ℕ) (ρ : List NodeSet) (k : ℕ) → AllBoundedBy n ρ → BoundedBy n (binder_set ρ k)
binder_set_bounded n [] k h = empty_bounded n
binder_set_bounded n (D ∷ ρ) zero h = h.0
binder_set_bounded n (D ∷ ρ) (suc k) h = binder_set_bounded n ρ k h.1

module _ {B : Type 0} where
  -- The computed sets have no node past the formula's.
  pub demands_bounded :
      (n : ℕ) (ρ : List NodeSet) (i : ℕ) (φ : Formula B) → AllBoundedBy n ρ → i + size φ ≤ n → BoundedBy n (demands ρ i φ)
  demands_bounded n ρ i truth h l = empty_bounded n
  demands_bounded n ρ i (variable k) h l = binder_set_bounded n ρ k h
  demands_bounded n ρ i (transition e φ) h l = only_bounded n i (omega arith)
  demands_bounded n ρ i (output e b) h l = only_bounded n i (omega arith)
  demands_bounded n ρ i (conjunction φ χ) h l =
      union_bounded n (demands ρ (suc i) φ) (demands ρ (suc i + size φ) χ)
      (demands_bounded n ρ (suc i) φ h (omega arith)) (demands_bounded n ρ (suc i + size φ) χ h (omega arith))
  demands_bounded n ρ i (greatest φ) h l =
      demands_bounded n (empty ∷ ρ) (suc i) φ (empty_bounded n, h) (omega arith)

  pub moved_bounded :
      (n : ℕ) (D : NodeSet) (e : ℕ) (ρ : List NodeSet) (i : ℕ) (φ : Formula B) → AllBoundedBy n ρ → i + size φ ≤ n →
      BoundedBy n (moved D e ρ i φ)
  moved_bounded n D e ρ i truth h l = empty_bounded n
  moved_bounded n D e ρ i (variable k) h l = empty_bounded n
  moved_bounded n D e ρ i (transition a φ) h l =
      union_bounded n (cond (D i && eqb a e) (demands ρ (suc i) φ) empty) (moved D e ρ (suc i) φ)
      (cond_bounded n (D i && eqb a e) (demands ρ (suc i) φ) (demands_bounded n ρ (suc i) φ h (omega arith)))
      (moved_bounded n D e ρ (suc i) φ h (omega arith))
  moved_bounded n D e ρ i (output a b) h l = empty_bounded n
  moved_bounded n D e ρ i (conjunction φ χ) h l =
      union_bounded n (moved D e ρ (suc i) φ) (moved D e ρ (suc i + size φ) χ)
      (moved_bounded n D e ρ (suc i) φ h (omega arith)) (moved_bounded n D e ρ (suc i + size φ) χ h (omega arith))
  moved_bounded n D e ρ i (greatest φ) h l =
      moved_bounded n D e (demands ρ i (greatest φ) ∷ ρ) (suc i) φ (demands_bounded n ρ i (greatest φ) h l, h) (omega arith)

  module _ (width : ℕ) (meet : B → B → B) (top : B) (φ : Formula B) (wide : size φ ≤ width) where
    pub same_as_bits :
        (events : ℕ) →
        SameStates events (set_machine meet top φ) (first_set φ) (bit_machine width meet top φ) (first_bits width meet top φ)
    same_as_bits events =
        map_same_states events (set_machine meet top φ) (first_set φ) (bit_machine width meet top φ) (first_bits width meet top φ)
        (BoundedBy width) (demands_bounded width [] zero φ tt (omega arith))
        (λ D b e h. moved_bounded width D e [] zero φ tt (omega arith))
        (bits width zero) refl
        (λ D b e h. ap (λ C. bits width zero (moved C e [] zero φ)) (sym (member_bits width D b)))
        (λ D b e h. ap (λ C. value_of_set meet top φ C e) (sym (member_bits width D b)))
        (λ C D b c e. sym (member_bits width C b) ∙ ap member e ∙ member_bits width D c)
