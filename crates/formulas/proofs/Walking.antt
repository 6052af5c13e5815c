-- One step of a walk that notes the lowest node at fault, for each kind of node.
use mathlib.Core.{Path.{◌≡◌, refl, sym, ◌∙◌, ap, subst}, Bool.{cond}, Option.{Option, none, some}}
use Prim.Native.Nat.{ℕ, suc, ◌+◌, ◌-◌, ◌≤◌, ◌<◌}
use Rattle.std.specs.Prelude.{Option as StdOption, Some, None}
use native.Mathlib.{Numerals.{add-one}, Omega.{arith}}
use borrow.Author.Tests.{le-ltb}
use Rattle.limits.specs.Limits.{binder_limit}
use Rattle.theory.specs.Formula.{Formula, truth, variable, transition, output, conjunction, greatest, size}
use Rattle.formulas.specs.{NodeReading.{Reads}, RuleReading.{kind_of, first_of, Search, lowest_fault, unbound_below, path_full, bound_near}}
use Rattle.formulas.specs.declared.NodeKind.TheVariants.{Variable, Transition, Conjunction, Greatest}
use Rattle.formulas.proofs.KindFacts.{IsLeaf, not_leaf}
use Rattle.formulas.specs.{RuleReading.{unbound_search, deep_search, unprotected_search}}
use Rattle.formulas.specs.{NodeWalks.{noted, Keeps, WalkJudged, Scanned}, declared.Faults.{Faults}}

pub size_positive : {B : Type 0} (φ : Formula B) → 0 < size φ
size_positive truth = omega arith
size_positive (variable n) = omega arith
size_positive (transition e φ) = omega arith
size_positive (output e b) = omega arith
size_positive (conjunction φ χ) = omega arith
size_positive (greatest φ) = omega arith

-- Nothing is found.
pub keeps_none : (n : StdOption ℕ) → Keeps none n n
unfolding noted first_of
keeps_none None = refl
keeps_none (Some i) = refl

-- One search after the other.
first_first : (o p q : Option ℕ) → first_of (first_of q o) p ≡ first_of q (first_of o p)
unfolding first_of
first_first o p none = refl
first_first o p (some i) = refl

keeps_both : (o p : Option ℕ) (before between after : StdOption ℕ) → Keeps o before between → Keeps p between after → Keeps (first_of o p) before after
keeps_both o p before between after one two = two ∙ ap (λ x. first_of x p) one ∙ first_first o p (noted before)

module _ (kind first value : ℕ → ℕ) {S : Type 0} (f : Search S) where
  abbrev J : S → ℕ → Formula ℕ → Option ℕ
  J = lowest_fault f

  moved_to : (φ : Formula ℕ) {i j : ℕ} → i ≡ j → Reads kind first value i φ → Reads kind first value j φ
  moved_to φ e d = subst (λ i. Reads kind first value i φ) e d

  module _ (at left : ℕ) (s : S) (before : StdOption ℕ) where
    -- A leaf that is no variable.
    pub walk_leaf :
        IsLeaf (kind_of (kind at)) → WalkJudged kind first value (J s) at left before before (at + 1)
    unfolding WalkJudged lowest_fault
    walk_leaf l truth d h = (refl, keeps_none before)
    walk_leaf l (variable n) d h = absurd (not_leaf Variable _ d.0 l)
    walk_leaf l (transition e φ) d h = absurd (not_leaf Transition _ d.0 l)
    walk_leaf l (output e b) d h = (refl, keeps_none before)
    walk_leaf l (conjunction φ χ) d h = absurd (not_leaf Conjunction _ d.0 l)
    walk_leaf l (greatest φ) d h = absurd (not_leaf Greatest _ d.0 l)

    module _ (after : StdOption ℕ) where
      pub walk_variable :
          kind at ≡ 1 → Keeps (cond (f.at_variable s (first at)) (some at) none) before after
          → WalkJudged kind first value (J s) at left before after (at + 1)
      unfolding WalkJudged lowest_fault
      walk_variable k w truth d h = absurd (omega (arith, k, d))
      walk_variable k w (variable n) d h = (refl, subst (λ x. Keeps (cond (f.at_variable s x) (some at) none) before after) d.1 w)
      walk_variable k w (transition a φ) d h = absurd (omega (arith, k, d.0))
      walk_variable k w (output a b) d h = absurd (omega (arith, k, d.0))
      walk_variable k w (conjunction φ χ) d h = absurd (omega (arith, k, d.0))
      walk_variable k w (greatest φ) d h = absurd (omega (arith, k, d.0))

      module _ (r : ℕ) where
        -- No node is left.
        pub walk_none : left ≡ 0 → WalkJudged kind first value (J s) at left before after r
        unfolding WalkJudged
        walk_none e φ d h = absurd (omega (arith, size_positive φ))

        -- The part of a node with one, from the walk over it.
        part :
            (t : S) (between : StdOption ℕ) → WalkJudged kind first value (J t) (at + 1) (left - 1) between after r → (φ : Formula ℕ)
            → Reads kind first value (suc at) φ → suc (size φ) ≤ left → (r ≡ at + suc (size φ)) × Keeps (J t (suc at) φ) between after
        unfolding WalkJudged
        part t between w φ d h =
            let v = w φ (moved_to φ (sym (add-one at)) d) (omega arith) in
            (omega (arith, v.0), subst (λ i. Keeps (J t i φ) between after) (add-one at) v.1)

        pub walk_transition :
            kind at ≡ 2 → WalkJudged kind first value (J (f.below_transition s)) (at + 1) (left - 1) before after r
            → WalkJudged kind first value (J s) at left before after r
        unfolding WalkJudged lowest_fault
        walk_transition k w truth d h = absurd (omega (arith, k, d))
        walk_transition k w (variable n) d h = absurd (omega (arith, k, d.0))
        walk_transition k w (transition e φ) d h = part (f.below_transition s) before w φ d.2 h
        walk_transition k w (output e b) d h = absurd (omega (arith, k, d.0))
        walk_transition k w (conjunction φ χ) d h = absurd (omega (arith, k, d.0))
        walk_transition k w (greatest φ) d h = absurd (omega (arith, k, d.0))

        pub walk_greatest :
            (between : StdOption ℕ) → kind at ≡ 5 → Keeps (cond (f.at_greatest s) (some at) none) before between
            → WalkJudged kind first value (J (f.below_greatest s)) (at + 1) (left - 1) between after r
            → WalkJudged kind first value (J s) at left before after r
        unfolding WalkJudged lowest_fault
        walk_greatest between k n w truth d h = absurd (omega (arith, k, d))
        walk_greatest between k n w (variable m) d h = absurd (omega (arith, k, d.0))
        walk_greatest between k n w (transition e φ) d h = absurd (omega (arith, k, d.0))
        walk_greatest between k n w (output e b) d h = absurd (omega (arith, k, d.0))
        walk_greatest between k n w (conjunction φ χ) d h = absurd (omega (arith, k, d.0))
        walk_greatest between k n w (greatest φ) d h =
            let v = part (f.below_greatest s) between w φ d.1 h in
            (v.0, keeps_both (cond (f.at_greatest s) (some at) none) (J (f.below_greatest s) (suc at) φ) before between after n v.1)

        -- A node with two parts: a walk over each.
        pub walk_conjunction :
            (m : ℕ) (between : StdOption ℕ) → kind at ≡ 4 → WalkJudged kind first value (J s) (at + 1) (left - 1) before between m
            → WalkJudged kind first value (J s) m (at + left - m) between after r → WalkJudged kind first value (J s) at left before after r
        unfolding WalkJudged lowest_fault
        walk_conjunction m between k one two truth d h = absurd (omega (arith, k, d))
        walk_conjunction m between k one two (variable n) d h = absurd (omega (arith, k, d.0))
        walk_conjunction m between k one two (transition e φ) d h = absurd (omega (arith, k, d.0))
        walk_conjunction m between k one two (output e b) d h = absurd (omega (arith, k, d.0))
        walk_conjunction m between k one two (conjunction φ χ) d h =
            let u = one φ (moved_to φ (sym (add-one at)) d.1) (omega arith) in
            let e : suc at + size φ ≡ m = omega (arith, u.0) in
            let v = two χ (moved_to χ e d.2) (omega (arith, u.0)) in (
              omega (arith, u.0, v.0),
              keeps_both (J s (suc at) φ) (J s (suc at + size φ) χ) before between after
                  (subst (λ i. Keeps (J s i φ) before between) (add-one at) u.1)
                  (subst (λ i. Keeps (J s i χ) between after) (sym e) v.1),
            )
        walk_conjunction m between k one two (greatest φ) d h = absurd (omega (arith, k, d.0))

-- The walk of 8, 23 and 9: all three notes.
module _ (kind first : ℕ → ℕ) (depth near at left : ℕ) (before : Faults) where
  pub scanned_none : left ≡ 0 → Scanned kind first depth near at left before before at
  scanned_none e =
      record {
        low = omega arith;
        high = omega arith;
        unbound = λ value. walk_none kind first value unbound_search at left depth _ _ at e;
        deep = λ value. walk_none kind first value (deep_search binder_limit) at left depth _ _ at e;
        unprotected = λ value. walk_none kind first value unprotected_search at left near _ _ at e;
      }

  pub scanned_leaf :
      ¬ (left ≡ 0) → IsLeaf (kind_of (kind at)) → Scanned kind first depth near at left before before (at + 1)
  scanned_leaf e l =
      record {
        low = omega arith;
        high = omega (arith, e);
        unbound = λ value. walk_leaf kind first value unbound_search at left depth _ l;
        deep = λ value. walk_leaf kind first value (deep_search binder_limit) at left depth _ l;
        unprotected = λ value. walk_leaf kind first value unprotected_search at left near _ l;
      }

  module _ (after : Faults) where
    pub scanned_variable :
        ¬ (left ≡ 0) → kind at ≡ 1
        → Keeps (cond (unbound_below depth (first at)) (some at) none) before.unbound after.unbound
        → Keeps none before.too_deep after.too_deep
        → Keeps (cond (bound_near near (first at)) (some at) none) before.unprotected after.unprotected
        → Scanned kind first depth near at left before after (at + 1)
    scanned_variable e k u d v =
        record {
          low = omega arith;
          high = omega (arith, e);
          unbound = λ value. walk_variable kind first value unbound_search at left depth _ _ k u;
          deep = λ value. walk_variable kind first value (deep_search binder_limit) at left depth _ _ k d;
          unprotected = λ value. walk_variable kind first value unprotected_search at left near _ _ k v;
        }

    module _ (r : ℕ) where
      pub scanned_transition :
          ¬ (left ≡ 0) → kind at ≡ 2 → Scanned kind first depth 0 (at + 1) (left - 1) before after r
          → Scanned kind first depth near at left before after r
      scanned_transition e k w =
          record {
            low = omega (arith, w.low);
            high = omega (arith, e, w.high);
            unbound = λ value. walk_transition kind first value unbound_search at left depth _ _ r k (w.unbound value);
            deep = λ value. walk_transition kind first value (deep_search binder_limit) at left depth _ _ r k (w.deep value);
            unprotected = λ value. walk_transition kind first value unprotected_search at left near _ _ r k (w.unprotected value);
          }

      pub scanned_greatest :
          (between : Faults) → ¬ (left ≡ 0) → kind at ≡ 5 → Keeps none before.unbound between.unbound
          → Keeps (cond (path_full binder_limit depth) (some at) none) before.too_deep between.too_deep
          → Keeps none before.unprotected between.unprotected
          → Scanned kind first (depth + 1) (near + 1) (at + 1) (left - 1) between after r
          → Scanned kind first depth near at left before after r
      scanned_greatest between e k u d v w =
          record {
            low = omega (arith, w.low);
            high = omega (arith, e, w.high);
            unbound = λ value.
                walk_greatest kind first value unbound_search at left depth _ _ r _ k u (rw (← (add-one depth)) (w.unbound value));
            deep = λ value.
                walk_greatest kind first value (deep_search binder_limit) at left depth _ _ r _ k d (rw (← (add-one depth)) (w.deep value));
            unprotected = λ value.
                walk_greatest kind first value unprotected_search at left near _ _ r _ k v (rw (← (add-one near)) (w.unprotected value));
          }

      pub scanned_conjunction :
          (m : ℕ) (between : Faults) → ¬ (left ≡ 0) → kind at ≡ 4 → Scanned kind first depth near (at + 1) (left - 1) before between m
          → Scanned kind first depth near m (at + left - m) between after r → Scanned kind first depth near at left before after r
      scanned_conjunction m between e k w v =
          record {
            low = omega (arith, w.low, v.low);
            high = omega (arith, e, w.high, v.high);
            unbound = λ value.
                walk_conjunction kind first value unbound_search at left depth _ _ r m _ k (w.unbound value) (v.unbound value);
            deep = λ value. walk_conjunction kind first value (deep_search binder_limit) at left depth _ _ r m _ k (w.deep value) (v.deep value);
            unprotected = λ value.
                walk_conjunction kind first value unprotected_search at left near _ _ r m _ k (w.unprotected value) (v.unprotected value);
          }

-- In an open position a variable has the note of 8 alone.
pub keeps_open : (first at : ℕ) (n : StdOption ℕ) → Keeps (cond (bound_near 0 first) (some at) none) n n
unfolding bound_near
keeps_open first at n = rw (le-ltb first 0 (omega arith)) (keeps_none n)
