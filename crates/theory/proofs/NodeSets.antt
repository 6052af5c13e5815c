-- Laws of sets of nodes, and what demands, next set and value make of them.
use mathlib.Core.{Path.{◌≡◌, refl, sym, ◌∙◌, ap, ap₂, subst, fun_ext}, Logic.{◌↔◌, ◌⊎◌, inl, inr}}
use mathlib.Core.{Bool.{Bool, true, false, ◌||◌, ◌&&◌, cond, or-false, or_self, or_assoc, or_comm}, List.{List, [], ◌∷◌}}
use Prim.Native.Nat.{ℕ, zero, suc, ◌+◌, ◌≤◌, ◌<◌}
use native.Mathlib.Omega.{arith}
use lib.Dec.{T, eqb, eqb→eq, eqb_refl}
use borrow.Author.Tests.{eq-eqb, ne_eqb}
use Rattle.theory.specs.ValueSets.{MeetSemilattice}
use Rattle.theory.specs.Formula.{Formula, truth, variable, transition, output, conjunction, greatest, size}
use Rattle.theory.specs.FormulaClasses.{GuardedIn, Fits}
use Rattle.theory.specs.ReachableStates.{NodeSet}
use Rattle.theory.specs.DemandSets.{empty, only, union, binder_set, demands, moved}
use Rattle.theory.proofs.Order.{top_meet, top_top, meet_swap}

-- Union is idempotent, has the empty set as neutral element, and two unions of two may be regrouped.
pub union_empty : (C : NodeSet) → union C empty ≡ C
unfolding union empty
union_empty C = fun_ext (λ i. or-false (C i))

pub empty_union : (C : NodeSet) → union empty C ≡ C
unfolding union empty
empty_union C = refl

pub union_same : (C : NodeSet) → union C C ≡ C
unfolding union
union_same C = fun_ext (λ i. or_self (C i))

pub union_swap : (C D E F : NodeSet) → union (union C D) (union E F) ≡ union (union C E) (union D F)
unfolding union
union_swap C D E F = fun_ext (λ i. swap (C i) (D i) (E i) (F i))
  where
    swap : (a b c d : Bool) → (a || b) || (c || d) ≡ (a || c) || (b || d)
    swap true b c d = refl
    swap false b c d = sym (or_assoc b c d) ∙ ap (λ x. x || d) (or_comm b c) ∙ or_assoc c b d

-- Membership.
pub not_in_empty : (d : ℕ) → ¬ T (empty d)
unfolding empty
not_in_empty d h = h

pub only_self : (i : ℕ) → only i i ≡ true
unfolding only
only_self i = eq-eqb i i refl

pub only_other : (i j : ℕ) → ¬ (i ≡ j) → only i j ≡ false
unfolding only
only_other i j h = ne_eqb i j h

pub in_only : (i d : ℕ) → T (only i d) ↔ (i ≡ d)
unfolding only
in_only i d = (eqb→eq i d, λ p. subst (λ x. T (eqb i x)) p (eqb_refl i))

pub in_union : (C D : NodeSet) (d : ℕ) → T (union C D d) ↔ (T (C d) ⊎ T (D d))
unfolding union
in_union C D d = (to (C d) (D d), from (C d) (D d))
  where
    to : (a b : Bool) → T (a || b) → T a ⊎ T b
    to true b h = inl h
    to false b h = inr h

    from : (a b : Bool) → T a ⊎ T b → T (a || b)
    from true b h = tt
    from false b (inl h) = absurd h
    from false b (inr h) = h

-- Sets with the same members are the same set.
pub same_members : (C D : NodeSet) → ((d : ℕ) → T (C d) ↔ T (D d)) → C ≡ D
same_members C D f = fun_ext (λ d. same (C d) (D d) (f d).0 (f d).1)
  where
    same : (a b : Bool) → (T a → T b) → (T b → T a) → a ≡ b
    same true true f g = refl
    same true false f g = absurd (f tt)
    same false true f g = absurd (g tt)
    same false false f g = refl

-- C and D have the same of the n nodes from i on; D has none of them; D has no others.
abbrev pub Agree : NodeSet → NodeSet → ℕ → ℕ → Type 0
Agree C D i n = (j : ℕ) → i ≤ j → j < i + n → C j ≡ D j

abbrev pub Misses : NodeSet → ℕ → ℕ → Type 0
Misses D i n = (j : ℕ) → i ≤ j → j < i + n → D j ≡ false

abbrev pub Lies : NodeSet → ℕ → ℕ → Type 0
Lies D i n = ((j : ℕ) → j < i → D j ≡ false) × ((j : ℕ) → i + n ≤ j → D j ≡ false)

pub empty_misses : (i n : ℕ) → Misses empty i n
unfolding empty
empty_misses i n j h l = refl

pub only_lies : (i n : ℕ) → Lies (only i) i (suc n)
only_lies i n = ((λ j h. only_other i j (omega arith)), λ j h. only_other i j (omega arith))

-- The list with C for the set of variable n.
abbrev pub swap_at : ℕ → NodeSet → List NodeSet → List NodeSet
swap_at n C [] = []
swap_at zero C (D ∷ ρ) = C ∷ ρ
swap_at (suc n) C (D ∷ ρ) = D ∷ swap_at n C ρ

binder_swap :
    (n k : ℕ) (C : NodeSet) (ρ : List NodeSet) → ¬ (k ≡ n) → binder_set (swap_at n C ρ) k ≡ binder_set ρ k
binder_swap n k C [] h = refl
binder_swap zero zero C (D ∷ ρ) h = absurd (h refl)
binder_swap zero (suc k) C (D ∷ ρ) h = refl
binder_swap (suc n) zero C (D ∷ ρ) h = refl
binder_swap (suc n) (suc k) C (D ∷ ρ) h = binder_swap n k C ρ (λ e. h (ap suc e))

cond_union :
    (s t u : Bool) (C : NodeSet) →
    cond ((s || t) && u) C empty ≡ union (cond (s && u) C empty) (cond (t && u) C empty)
cond_union true true true C = sym (union_same C)
cond_union true true false C = sym (union_empty empty)
cond_union true false true C = sym (union_empty C)
cond_union true false false C = sym (union_empty empty)
cond_union false true true C = sym (empty_union C)
cond_union false true false C = sym (empty_union empty)
cond_union false false u C = sym (empty_union empty)

module _ {B : Type 0} where
  -- What is put for a guarded variable is no matter.
  pub demands_swap :
      (n : ℕ) (C : NodeSet) (ρ : List NodeSet) (i : ℕ) (φ : Formula B) → GuardedIn n φ →
      demands (swap_at n C ρ) i φ ≡ demands ρ i φ
  demands_swap n C ρ i truth g = refl
  demands_swap n C ρ i (variable k) g = binder_swap n k C ρ g
  demands_swap n C ρ i (transition a φ) g = refl
  demands_swap n C ρ i (output a b) g = refl
  demands_swap n C ρ i (conjunction φ χ) g =
      ap₂ union (demands_swap n C ρ (suc i) φ g.0) (demands_swap n C ρ (suc i + size φ) χ g.1)
  demands_swap n C ρ i (greatest φ) g = demands_swap (suc n) C (empty ∷ ρ) (suc i) φ g

  -- The next set of a union is the union of the next sets.
  pub moved_union :
      (C D : NodeSet) (e : ℕ) (ρ : List NodeSet) (i : ℕ) (φ : Formula B) →
      moved (union C D) e ρ i φ ≡ union (moved C e ρ i φ) (moved D e ρ i φ)
  unfolding union empty
  moved_union C D e ρ i truth = refl
  moved_union C D e ρ i (variable n) = refl
  moved_union C D e ρ i (transition a φ) =
      ap₂ union (cond_union (C i) (D i) (eqb a e) (demands ρ (suc i) φ)) (moved_union C D e ρ (suc i) φ)
      ∙ union_swap (cond (C i && eqb a e) (demands ρ (suc i) φ) empty) (cond (D i && eqb a e) (demands ρ (suc i) φ) empty)
      (moved C e ρ (suc i) φ) (moved D e ρ (suc i) φ)
  moved_union C D e ρ i (output a b) = refl
  moved_union C D e ρ i (conjunction φ χ) =
      ap₂ union (moved_union C D e ρ (suc i) φ) (moved_union C D e ρ (suc i + size φ) χ)
      ∙ union_swap (moved C e ρ (suc i) φ) (moved D e ρ (suc i) φ)
      (moved C e ρ (suc i + size φ) χ) (moved D e ρ (suc i + size φ) χ)
  moved_union C D e ρ i (greatest φ) = moved_union C D e (demands ρ i (greatest φ) ∷ ρ) (suc i) φ

  -- Only the nodes of the formula matter.
  pub moved_agree :
      (C D : NodeSet) (e : ℕ) (ρ : List NodeSet) (i : ℕ) (φ : Formula B) → Agree C D i (size φ) →
      moved C e ρ i φ ≡ moved D e ρ i φ
  moved_agree C D e ρ i truth h = refl
  moved_agree C D e ρ i (variable n) h = refl
  moved_agree C D e ρ i (transition a φ) h =
      ap₂ union (ap (λ t. cond (t && eqb a e) (demands ρ (suc i) φ) empty) (h i (omega arith) (omega arith)))
      (moved_agree C D e ρ (suc i) φ (λ j l u. h j (omega arith) (omega arith)))
  moved_agree C D e ρ i (output a b) h = refl
  moved_agree C D e ρ i (conjunction φ χ) h =
      ap₂ union (moved_agree C D e ρ (suc i) φ (λ j l u. h j (omega arith) (omega arith)))
      (moved_agree C D e ρ (suc i + size φ) χ (λ j l u. h j (omega arith) (omega arith)))
  moved_agree C D e ρ i (greatest φ) h =
      moved_agree C D e (demands ρ i (greatest φ) ∷ ρ) (suc i) φ (λ j l u. h j (omega arith) (omega arith))

  moved_empty : (e : ℕ) (ρ : List NodeSet) (i : ℕ) (φ : Formula B) → moved empty e ρ i φ ≡ empty
  unfolding empty
  moved_empty e ρ i truth = refl
  moved_empty e ρ i (variable n) = refl
  moved_empty e ρ i (transition a φ) = ap (union empty) (moved_empty e ρ (suc i) φ) ∙ union_empty empty
  moved_empty e ρ i (output a b) = refl
  moved_empty e ρ i (conjunction φ χ) =
      ap₂ union (moved_empty e ρ (suc i) φ) (moved_empty e ρ (suc i + size φ) χ) ∙ union_empty empty
  moved_empty e ρ i (greatest φ) = moved_empty e (demands ρ i (greatest φ) ∷ ρ) (suc i) φ

  -- A set that has no node of the formula leads to the empty set.
  pub moved_miss :
      (D : NodeSet) (e : ℕ) (ρ : List NodeSet) (i : ℕ) (φ : Formula B) → Misses D i (size φ) → moved D e ρ i φ ≡ empty
  unfolding empty
  moved_miss D e ρ i φ h = moved_agree D empty e ρ i φ h ∙ moved_empty e ρ i φ

  module _ (meet : B → B → B) (top : B) where
    -- The meet of the values of the O nodes of D for e, among the nodes of the formula at i, tree by tree.
    abbrev pub shown : NodeSet → ℕ → ℕ → Formula B → B
    shown D e i truth = top
    shown D e i (variable n) = top
    shown D e i (transition a φ) = shown D e (suc i) φ
    shown D e i (output a b) = cond (D i && eqb a e) b top
    shown D e i (conjunction φ χ) = meet (shown D e (suc i) φ) (shown D e (suc i + size φ) χ)
    shown D e i (greatest φ) = shown D e (suc i) φ

    pub shown_agree :
        (C D : NodeSet) (e i : ℕ) (φ : Formula B) → Agree C D i (size φ) →
        shown C e i φ ≡ shown D e i φ
    shown_agree C D e i truth h = refl
    shown_agree C D e i (variable n) h = refl
    shown_agree C D e i (transition a φ) h = shown_agree C D e (suc i) φ (λ j l u. h j (omega arith) (omega arith))
    shown_agree C D e i (output a b) h = ap (λ t. cond (t && eqb a e) b top) (h i (omega arith) (omega arith))
    shown_agree C D e i (conjunction φ χ) h =
        ap₂ meet (shown_agree C D e (suc i) φ (λ j l u. h j (omega arith) (omega arith)))
        (shown_agree C D e (suc i + size φ) χ (λ j l u. h j (omega arith) (omega arith)))
    shown_agree C D e i (greatest φ) h = shown_agree C D e (suc i) φ (λ j l u. h j (omega arith) (omega arith))

    module _ (In : B → Type 0) (L : MeetSemilattice In meet top) where
      shown_empty : (e i : ℕ) (φ : Formula B) → shown empty e i φ ≡ top
      unfolding empty
      shown_empty e i truth = refl
      shown_empty e i (variable n) = refl
      shown_empty e i (transition a φ) = shown_empty e (suc i) φ
      shown_empty e i (output a b) = refl
      shown_empty e i (conjunction φ χ) =
          ap₂ meet (shown_empty e (suc i) φ) (shown_empty e (suc i + size φ) χ) ∙ top_top In meet top L
      shown_empty e i (greatest φ) = shown_empty e (suc i) φ

      -- A set that has no node of the formula has the value top.
      pub shown_miss :
          (D : NodeSet) (e i : ℕ) (φ : Formula B) → Misses D i (size φ) → shown D e i φ ≡ top
      unfolding empty
      shown_miss D e i φ h = shown_agree D empty e i φ h ∙ shown_empty e i φ

      cond_in : (t : Bool) (b : B) → In b → In (cond t b top)
      cond_in true b h = h
      cond_in false b h = L.top_in

      -- The value of a set is a value.
      pub shown_in :
          (events : ℕ) (D : NodeSet) (e i : ℕ) (φ : Formula B) → Fits events In φ → In (shown D e i φ)
      shown_in events D e i truth f = L.top_in
      shown_in events D e i (variable n) f = L.top_in
      shown_in events D e i (transition a φ) f = shown_in events D e (suc i) φ f.1
      shown_in events D e i (output a b) f = cond_in (D i && eqb a e) b f.1
      shown_in events D e i (conjunction φ χ) f =
          L.meet_in _ _ (shown_in events D e (suc i) φ f.0) (shown_in events D e (suc i + size φ) χ f.1)
      shown_in events D e i (greatest φ) f = shown_in events D e (suc i) φ f

      cond_meet :
          (s t u : Bool) (b : B) → In b → cond ((s || t) && u) b top ≡ meet (cond (s && u) b top) (cond (t && u) b top)
      cond_meet true true true b h = sym (L.idempotent b h)
      cond_meet true true false b h = sym (top_top In meet top L)
      cond_meet true false true b h = sym (L.neutral b h)
      cond_meet true false false b h = sym (top_top In meet top L)
      cond_meet false true true b h = sym (top_meet In meet top L b h)
      cond_meet false true false b h = sym (top_top In meet top L)
      cond_meet false false u b h = sym (top_top In meet top L)

      -- The value of a union is the meet of the values.
      pub shown_union :
          (events : ℕ) (C D : NodeSet) (e i : ℕ) (φ : Formula B) → Fits events In φ →
          shown (union C D) e i φ ≡ meet (shown C e i φ) (shown D e i φ)
      unfolding union
      shown_union events C D e i truth f = sym (top_top In meet top L)
      shown_union events C D e i (variable n) f = sym (top_top In meet top L)
      shown_union events C D e i (transition a φ) f = shown_union events C D e (suc i) φ f.1
      shown_union events C D e i (output a b) f = cond_meet (C i) (D i) (eqb a e) b f.1
      shown_union events C D e i (conjunction φ χ) f =
          ap₂ meet (shown_union events C D e (suc i) φ f.0) (shown_union events C D e (suc i + size φ) χ f.1)
          ∙ meet_swap In meet top L _ _ _ _ (shown_in events C e (suc i) φ f.0) (shown_in events D e (suc i) φ f.0)
          (shown_in events C e (suc i + size φ) χ f.1) (shown_in events D e (suc i + size φ) χ f.1)
      shown_union events C D e i (greatest φ) f = shown_union events C D e (suc i) φ f
