-- One step of a walk over nodes, for each kind of node.
use mathlib.Core.{Path.{◌≡◌, refl, sym, subst}, Logic.{◌⊎◌, inl, inr}, List.{List}}
use Rattle.std.specs.Prelude.{Option as StdOption, Some}
use Rattle.formulas.specs.declared.NodeKind.{NodeKind, TheVariants.{Transition, Greatest}}
use Rattle.formulas.specs.RuleReading.{kind_of as read_kind}
use Rattle.synthesis.proofs.NodeKinds.{NoParts, kind_read}
use Prim.Native.Nat.{ℕ, suc, ◌+◌, ◌-◌, ◌<◌}
use native.Mathlib.{Decide.{ℕ_discrete}, Numerals.{add-one}, Omega.{arith}}
use lib.{ListN.{length, get_or, set}, Seq.{get_or-set_same, get_or-set_other}}
use Rattle.theory.specs.Formula.{Formula, truth, variable, transition, output, conjunction, greatest, size}
use Rattle.formulas.specs.{NodeReading.{Reads}, NodeWalks.{field}}
use Rattle.formulas.proofs.Walking.{size_positive}
use Rattle.synthesis.specs.NodeWalks.{Ends, Walked, EndsFrom, EndsHere, Binds}

pub reads_at :
    (kind first value : ℕ → ℕ) (φ : Formula ℕ) {i j : ℕ} → i ≡ j → Reads kind first value i φ → Reads kind first value j φ
reads_at kind first value φ e d = subst (λ i. Reads kind first value i φ) e d

pub binds_at : (b : ℕ → ℕ) (σ : List ℕ) (φ : Formula ℕ) {i j : ℕ} → i ≡ j → Binds b σ i φ → Binds b σ j φ
binds_at b σ φ e d = subst (λ i. Binds b σ i φ) e d

-- The node after a formula.
module _ (kinds : List ℕ) (at left : ℕ) where
  abbrev kind_here : ℕ
  kind_here = field kinds at

  pub end_none : left ≡ 0 → (r : ℕ) → Ends kinds at left r
  end_none e r first value φ d h = absurd (omega (arith, size_positive φ))

  pub end_leaf : NoParts kind_here → Ends kinds at left (at + 1)
  end_leaf w first value truth d h = refl
  end_leaf w first value (variable n) d h = refl
  end_leaf w first value (transition e φ) d h = absurd (w.no_transition d.0)
  end_leaf w first value (output e b) d h = refl
  end_leaf w first value (conjunction φ χ) d h = absurd (w.no_conjunction d.0)
  end_leaf w first value (greatest φ) d h = absurd (w.no_greatest d.0)

  module _ (r : ℕ) (part : Ends kinds (at + 1) (left - 1) r) where
    pub end_transition : kind_here ≡ 2 → Ends kinds at left r
    end_transition g first value truth d h = absurd (omega (arith, g, d))
    end_transition g first value (variable n) d h = absurd (omega (arith, g, d.0))
    end_transition g first value (transition e φ) d h =
        omega (arith, part first value φ (reads_at (field kinds) first value φ (sym (add-one at)) d.2) (omega arith))
    end_transition g first value (output e b) d h = absurd (omega (arith, g, d.0))
    end_transition g first value (conjunction φ χ) d h = absurd (omega (arith, g, d.0))
    end_transition g first value (greatest φ) d h = absurd (omega (arith, g, d.0))

    pub end_greatest : kind_here ≡ 5 → Ends kinds at left r
    end_greatest g first value truth d h = absurd (omega (arith, g, d))
    end_greatest g first value (variable n) d h = absurd (omega (arith, g, d.0))
    end_greatest g first value (transition e φ) d h = absurd (omega (arith, g, d.0))
    end_greatest g first value (output e b) d h = absurd (omega (arith, g, d.0))
    end_greatest g first value (conjunction φ χ) d h = absurd (omega (arith, g, d.0))
    end_greatest g first value (greatest φ) d h =
        omega (arith, part first value φ (reads_at (field kinds) first value φ (sym (add-one at)) d.1) (omega arith))

  module _ (m r : ℕ) (one : Ends kinds (at + 1) (left - 1) m) (two : Ends kinds m (at + left - m) r) where
    pub end_conjunction : kind_here ≡ 4 → Ends kinds at left r
    end_conjunction g first value truth d h = absurd (omega (arith, g, d))
    end_conjunction g first value (variable n) d h = absurd (omega (arith, g, d.0))
    end_conjunction g first value (transition e φ) d h = absurd (omega (arith, g, d.0))
    end_conjunction g first value (output e b) d h = absurd (omega (arith, g, d.0))
    end_conjunction g first value (conjunction φ χ) d h =
        let e : m ≡ at + 1 + size φ
        = one first value φ (reads_at (field kinds) first value φ (sym (add-one at)) d.1) (omega arith) in
        omega (arith, two first value χ (reads_at (field kinds) first value χ (omega (arith, e)) d.2) (omega arith))
    end_conjunction g first value (greatest φ) d h = absurd (omega (arith, g, d.0))

-- The nodes after the formulas, one node more.
module _ (kinds ends : List ℕ) (at : ℕ) where
  abbrev kind_of : ℕ
  kind_of = field kinds at

  abbrev next_end : ℕ
  next_end = get_or ends (at + 1) 0

  next_walked : (total : ℕ) → at < total → EndsFrom kinds total ends (suc at) → Walked kinds (at + 1) (total - at - 1) next_end
  next_walked total h f =
      subst (λ n. Walked kinds (at + 1) n next_end) (omega arith) (f (at + 1) (omega arith) (omega arith))

  pub here_leaf : NoParts kind_of → EndsHere kinds ends at (at + 1)
  here_leaf w total h f = record { low = omega arith; high = omega arith; end = end_leaf kinds at (total - at) w }

  pub here_transition : kind_of ≡ 2 → EndsHere kinds ends at next_end
  here_transition g total h f =
      let w = next_walked total h f in
      record {
        low = omega (arith, w.low);
        high = omega (arith, w.high);
        end = end_transition kinds at (total - at) next_end w.end g;
      }

  pub here_greatest : kind_of ≡ 5 → EndsHere kinds ends at next_end
  here_greatest g total h f =
      let w = next_walked total h f in
      record {
        low = omega (arith, w.low);
        high = omega (arith, w.high);
        end = end_greatest kinds at (total - at) next_end w.end g;
      }

  pub here_part :
      {o : StdOption NodeKind} {k : NodeKind} → o ≡ read_kind kind_of → o ≡ Some k → (k ≡ Transition) ⊎ (k ≡ Greatest) →
      EndsHere kinds ends at next_end
  here_part a b (inl h) = here_transition (kind_read kind_of Transition a b h)
  here_part a b (inr h) = here_greatest (kind_read kind_of Greatest a b h)

  pub here_conjunction : kind_of ≡ 4 → EndsHere kinds ends at (get_or ends next_end 0)
  here_conjunction g total h f =
      let w = next_walked total h f in
      let v = f next_end (omega (arith, w.low)) (omega (arith, w.high)) in
      let e : total - next_end ≡ at + (total - at) - next_end = omega (arith, w.low, w.high) in
      record {
        low = omega (arith, w.low, v.low);
        high = omega (arith, w.high, v.high);
        end = end_conjunction kinds at (total - at) next_end (get_or ends next_end 0) w.end
            (subst (λ n. Ends kinds next_end n (get_or ends next_end 0)) e v.end) g;
      }

-- At a transition of the nodes that are left.
pub transition_end :
    (kinds ends : List ℕ) (at left : ℕ) → 0 < left → EndsFrom kinds (at + left) ends 0 → field kinds at ≡ 2 →
    (at < get_or ends (at + 1) 0) × Walked kinds at left (get_or ends (at + 1) 0)
transition_end kinds ends at left l f k = (
  omega (arith, (f (at + 1) (omega arith) (omega arith)).low),
  subst (λ n. Walked kinds at n (get_or ends (at + 1) 0)) (omega arith)
      (here_transition kinds ends at k (at + left) (omega arith) (λ j h. f j (omega arith))),
)

-- What the loop from the last node down stores.
pub ends_last : (kinds ends : List ℕ) (count : ℕ) → count < length ends → EndsFrom kinds count (set ends count count) count
ends_last kinds ends count n j l h =
    let e : count ≡ j = omega arith in
    subst (λ x. Walked kinds x (count - x) (get_or (set ends count count) x 0)) e
    (subst (Walked kinds count (count - count)) (sym (get_or-set_same ends count count 0 n))
    (record { low = omega arith; high = omega arith; end = end_none kinds count (count - count) (omega arith) count }))

pub ends_more :
    (kinds ends : List ℕ) (count i r : ℕ) → i < count → i < length ends → EndsHere kinds ends i r →
    EndsFrom kinds count ends (suc i) → EndsFrom kinds count (set ends i r) i
ends_more kinds ends count i r h n here f j l u = go (ℕ_discrete j i)
  where
    go : Dec (j ≡ i) → Walked kinds j (count - j) (get_or (set ends i r) j 0)
    go (yes e) =
        subst (λ x. Walked kinds x (count - x) (get_or (set ends i r) x 0)) (sym e)
        (subst (Walked kinds i (count - i)) (sym (get_or-set_same ends i r 0 n)) (here count h f))
    go (no e) =
        subst (Walked kinds j (count - j)) (sym (get_or-set_other ends i j r 0 (λ q. omega (arith, q)))) (f j (omega arith) u)
