-- Rows of demands: what a step of the walk that gathers makes of them, for each kind of node, and one more formula of the loop.
use mathlib.Core.{Path.{◌≡◌, refl, sym, ◌∙◌, ap, ap₂, subst}, List.{List, [], ◌∷◌, map}}
use Prim.Native.Nat.{ℕ, suc, ◌+◌, ◌-◌, ◌≤◌, ◌<◌}
use native.Mathlib.{Decide.{dec_lt, ℕ_discrete}, Numerals.{add-one}, Omega.{arith}}
use lib.{ListN.{length, set}, Seq.{get_or-set_same, get_or-set_other}}
use Rattle.theory.specs.Formula.{Formula, truth, variable, transition, output, conjunction, greatest, size}
use Rattle.theory.specs.FormulaClasses.{GuardedIn}
use Rattle.theory.specs.ReachableStates.{NodeSet}
use Rattle.theory.specs.DemandSets.{empty, union, only, demands}
use Rattle.theory.proofs.NodeSets.{swap_at, demands_swap}
use Rattle.formulas.specs.declared.NodeKind.TheVariants.{Variable, Transition, Output, Conjunction, Greatest}
use Rattle.formulas.specs.RuleReading.{kind_of}
use Rattle.synthesis.proofs.NodeKinds.{IsTruth, not_truth}
use Rattle.formulas.specs.{NodeReading.{Reads}, NodeWalks.{field}}
use Rattle.formulas.proofs.Walking.{size_positive}
use Rattle.synthesis.specs.{NodeWords.{set_of, row}, NodeWalks.{Ends}}
use Rattle.synthesis.specs.DemandRows.{RowStored, AllBelow, UnguardedRows, Gathers, Gathered, RowsAt, RowsTo}
use Rattle.synthesis.proofs.{NodeSetLaws.{binder_map}}
use Rattle.synthesis.proofs.NodeWalks.{reads_at, binds_at, end_none, end_greatest, end_conjunction}

-- A set stored for a node.
pub row_stored :
    (i : ℕ) (words : List ℕ) (before : List (List ℕ)) (D : NodeSet) → i < length before → set_of words ≡ D →
    RowStored before (set before i words) i D
row_stored i words before D h e =
    record {
      here = ap set_of (get_or-set_same before i words [] h) ∙ e;
      others = λ j d. ap set_of (get_or-set_other before i j words [] d);
    }

pub below_later : (i j : ℕ) (σ : List ℕ) → i ≤ j → AllBelow i σ → AllBelow j σ
below_later i j [] h u = tt
below_later i j (x ∷ σ) h u = (omega (arith, u.0), below_later i j σ h u.1)

map_below : (f g : ℕ → NodeSet) (i : ℕ) (σ : List ℕ) → AllBelow i σ → ((j : ℕ) → j < i → f j ≡ g j) → map f σ ≡ map g σ
map_below f g i [] u h = refl
map_below f g i (x ∷ σ) u h = ap₂ ◌∷◌ (h x u.0) (map_below f g i σ u.1 h)

-- The formula's own node is one of them.
pub unguarded_row :
    (rows : List (List ℕ)) (ρ : List NodeSet) (i : ℕ) (φ : Formula ℕ) → UnguardedRows rows ρ i φ → row rows i ≡ demands ρ i φ
unguarded_row rows ρ i truth u = u
unguarded_row rows ρ i (variable n) u = u
unguarded_row rows ρ i (transition e φ) u = u
unguarded_row rows ρ i (output e v) u = u
unguarded_row rows ρ i (conjunction φ χ) u = u.0
unguarded_row rows ρ i (greatest φ) u = u.0

-- Only the rows of the formula's nodes matter.
unguarded_same :
    (rows after : List (List ℕ)) (ρ : List NodeSet) (i : ℕ) (φ : Formula ℕ) →
    ((j : ℕ) → i ≤ j → j < i + size φ → row after j ≡ row rows j) → UnguardedRows rows ρ i φ → UnguardedRows after ρ i φ
unguarded_same rows after ρ i truth h u = h i (omega arith) (omega arith) ∙ u
unguarded_same rows after ρ i (variable n) h u = h i (omega arith) (omega arith) ∙ u
unguarded_same rows after ρ i (transition e φ) h u = h i (omega arith) (omega arith) ∙ u
unguarded_same rows after ρ i (output e v) h u = h i (omega arith) (omega arith) ∙ u
unguarded_same rows after ρ i (conjunction φ χ) h u = (
  h i (omega arith) (omega arith) ∙ u.0,
  unguarded_same rows after ρ (suc i) φ (λ j l m. h j (omega arith) (omega arith)) u.1,
  unguarded_same rows after ρ (suc i + size φ) χ (λ j l m. h j (omega arith) (omega arith)) u.2,
)
unguarded_same rows after ρ i (greatest φ) h u =
    let e : row after i ≡ row rows i = h i (omega arith) (omega arith) in (
      e ∙ u.0,
      subst (λ D. UnguardedRows after (D ∷ ρ) (suc i) φ) (sym e)
          (unguarded_same rows after (row rows i ∷ ρ) (suc i) φ (λ j l m. h j (omega arith) (omega arith)) u.1),
    )

-- What is put for a guarded variable is no matter.
unguarded_swap :
    (rows : List (List ℕ)) (n : ℕ) (C : NodeSet) (ρ : List NodeSet) (i : ℕ) (φ : Formula ℕ) → GuardedIn n φ →
    UnguardedRows rows ρ i φ → UnguardedRows rows (swap_at n C ρ) i φ
unguarded_swap rows n C ρ i truth g u = u
unguarded_swap rows n C ρ i (variable k) g u = u ∙ sym (demands_swap {B = ℕ} n C ρ i (variable k) g)
unguarded_swap rows n C ρ i (transition e φ) g u = u
unguarded_swap rows n C ρ i (output e v) g u = u
unguarded_swap rows n C ρ i (conjunction φ χ) g u = (
  u.0 ∙ sym (demands_swap n C ρ i (conjunction φ χ) g),
  unguarded_swap rows n C ρ (suc i) φ g.0 u.1,
  unguarded_swap rows n C ρ (suc i + size φ) χ g.1 u.2,
)
unguarded_swap rows n C ρ i (greatest φ) g u = (
  u.0 ∙ sym (demands_swap n C ρ i (greatest φ) g),
  unguarded_swap rows (suc n) C (row rows i ∷ ρ) (suc i) φ g u.1,
)

module _ (kinds b : List ℕ) (at left : ℕ) where
  abbrev kind_at : ℕ
  kind_at = field kinds at

  pub gathered_none : left ≡ 0 → (rows : List (List ℕ)) → Gathered kinds b at left rows rows at
  gathered_none e rows =
      record {
        low = omega arith;
        high = omega arith;
        end = end_none kinds at left e at;
        below = λ j h. refl;
        beyond = λ j h. refl;
        rows = λ first value φ σ d h. absurd (omega (arith, size_positive φ));
      }

  -- One row is stored, the node's own.
  module _ (before after : List (List ℕ)) (D : NodeSet) (s : RowStored before after at D) where
    pub gathered_one :
        (r : ℕ) → at < r → r ≤ at + left → Ends kinds at left r → Gathers kinds b at left before after →
        Gathered kinds b at left before after r
    gathered_one r l h e g =
        record {
          low = omega arith;
          high = h;
          end = e;
          below = λ j m. s.others j (λ q. omega (arith, q));
          beyond = λ j m. s.others j (λ q. omega (arith, q));
          rows = g;
        }

    pub gathers_truth :
        D ≡ empty → IsTruth (kind_of kind_at) →
        Gathers kinds b at left before after
    gathers_truth e l first value truth σ d h w n o = s.here ∙ e
    gathers_truth e l first value (variable m) σ d h w n o = absurd (not_truth Variable kind_at d.0 l)
    gathers_truth e l first value (transition a φ) σ d h w n o = absurd (not_truth Transition kind_at d.0 l)
    gathers_truth e l first value (output a v) σ d h w n o = absurd (not_truth Output kind_at d.0 l)
    gathers_truth e l first value (conjunction φ χ) σ d h w n o = absurd (not_truth Conjunction kind_at d.0 l)
    gathers_truth e l first value (greatest φ) σ d h w n o = absurd (not_truth Greatest kind_at d.0 l)

    pub gathers_variable : D ≡ row before (field b at) → kind_at ≡ 1 → Gathers kinds b at left before after
    gathers_variable e k first value truth σ d h w n o = absurd (omega (arith, k, d))
    gathers_variable e k first value (variable m) σ d h w n o =
        s.here ∙ e ∙ ap (row before) n.1 ∙ sym (binder_map (row before) σ m n.0)
    gathers_variable e k first value (transition a φ) σ d h w n o = absurd (omega (arith, k, d.0))
    gathers_variable e k first value (output a v) σ d h w n o = absurd (omega (arith, k, d.0))
    gathers_variable e k first value (conjunction φ χ) σ d h w n o = absurd (omega (arith, k, d.0))
    gathers_variable e k first value (greatest φ) σ d h w n o = absurd (omega (arith, k, d.0))

    pub gathers_transition : D ≡ only at → kind_at ≡ 2 → Gathers kinds b at left before after
    gathers_transition e k first value truth σ d h w n o = absurd (omega (arith, k, d))
    gathers_transition e k first value (variable m) σ d h w n o = absurd (omega (arith, k, d.0))
    gathers_transition e k first value (transition a φ) σ d h w n o = s.here ∙ e
    gathers_transition e k first value (output a v) σ d h w n o = absurd (omega (arith, k, d.0))
    gathers_transition e k first value (conjunction φ χ) σ d h w n o = absurd (omega (arith, k, d.0))
    gathers_transition e k first value (greatest φ) σ d h w n o = absurd (omega (arith, k, d.0))

    pub gathers_output : D ≡ only at → kind_at ≡ 3 → Gathers kinds b at left before after
    gathers_output e k first value truth σ d h w n o = absurd (omega (arith, k, d))
    gathers_output e k first value (variable m) σ d h w n o = absurd (omega (arith, k, d.0))
    gathers_output e k first value (transition a φ) σ d h w n o = absurd (omega (arith, k, d.0))
    gathers_output e k first value (output a v) σ d h w n o = s.here ∙ e
    gathers_output e k first value (conjunction φ χ) σ d h w n o = absurd (omega (arith, k, d.0))
    gathers_output e k first value (greatest φ) σ d h w n o = absurd (omega (arith, k, d.0))

  -- The rows of the part, then the node's own.
  module _ (before after last : List (List ℕ)) (r : ℕ) (p : Gathered kinds b (at + 1) (left - 1) before after r)
      (s : RowStored after last at (row after (at + 1))) where
    pub gathers_greatest : kind_at ≡ 5 → Gathers kinds b at left before last
    gathers_greatest k first value truth σ d h w n o = absurd (omega (arith, k, d))
    gathers_greatest k first value (variable m) σ d h w n o = absurd (omega (arith, k, d.0))
    gathers_greatest k first value (transition a φ) σ d h w n o = absurd (omega (arith, k, d.0))
    gathers_greatest k first value (output a v) σ d h w n o = absurd (omega (arith, k, d.0))
    gathers_greatest k first value (conjunction φ χ) σ d h w n o = absurd (omega (arith, k, d.0))
    gathers_greatest k first value (greatest φ) σ d h w n o =
        let z : suc at ≡ at + 1 = sym (add-one at) in
        let ρ : List NodeSet = map (row before) σ in
        let u : UnguardedRows after (row before at ∷ ρ) (suc at) φ =
        subst (λ i. UnguardedRows after (row before at ∷ ρ) i φ) (add-one at)
        (p.rows first value φ (at ∷ σ) (reads_at (field kinds) first value φ z d.1) (omega arith) w.1
        (binds_at (field b) (at ∷ σ) φ z n) (omega arith, below_later at (at + 1) σ (omega arith) o)) in (
          s.here
              ∙ ap (row after) (add-one at)
              ∙ unguarded_row after (row before at ∷ ρ) (suc at) φ u
              ∙ sym (demands_swap 0 empty (row before at ∷ ρ) (suc at) φ w.0),
          unguarded_same after last (row last at ∷ ρ) (suc at) φ (λ j l m. s.others j (λ q. omega (arith, q)))
              (unguarded_swap after 0 (row last at) (row before at ∷ ρ) (suc at) φ w.0 u),
        )

    pub gathered_greatest : 0 < left → kind_at ≡ 5 → Gathered kinds b at left before last r
    gathered_greatest l k =
        record {
          low = omega (arith, p.low);
          high = omega (arith, p.high);
          end = end_greatest kinds at left r p.end k;
          below = λ j h. s.others j (λ t. omega (arith, t)) ∙ p.below j (omega arith);
          beyond = λ j h. s.others j (λ t. omega (arith, t, p.low)) ∙ p.beyond j h;
          rows = gathers_greatest k;
        }

  -- The rows of both parts, then the node's own.
  module _ (before middle after last : List (List ℕ)) (m r : ℕ) (p : Gathered kinds b (at + 1) (left - 1) before middle m)
      (q : Gathered kinds b m (at + left - m) middle after r)
      (s : RowStored after last at (union (row after (at + 1)) (row after m))) where
    pub gathers_conjunction : kind_at ≡ 4 → Gathers kinds b at left before last
    gathers_conjunction k first value truth σ d h w n o = absurd (omega (arith, k, d))
    gathers_conjunction k first value (variable v) σ d h w n o = absurd (omega (arith, k, d.0))
    gathers_conjunction k first value (transition a φ) σ d h w n o = absurd (omega (arith, k, d.0))
    gathers_conjunction k first value (output a v) σ d h w n o = absurd (omega (arith, k, d.0))
    gathers_conjunction k first value (conjunction φ χ) σ d h w n o =
        let z : suc at ≡ at + 1 = sym (add-one at) in
        let e : m ≡ at + 1 + size φ = p.end first value φ (reads_at (field kinds) first value φ z d.1) (omega arith) in
        let y : suc at + size φ ≡ m = omega (arith, e) in
        let ρ : List NodeSet = map (row before) σ in
        let u : UnguardedRows middle ρ (suc at) φ =
        subst (λ i. UnguardedRows middle ρ i φ) (add-one at)
        (p.rows first value φ σ (reads_at (field kinds) first value φ z d.1) (omega arith) w.0
        (binds_at (field b) σ φ z n.0) (below_later at (at + 1) σ (omega arith) o)) in
        let c : map (row middle) σ ≡ ρ = map_below (row middle) (row before) at σ o (λ j l. p.below j (omega arith)) in
        let v : UnguardedRows after ρ (suc at + size φ) χ =
        subst (λ i. UnguardedRows after ρ i χ) (sym y)
        (subst (λ ρ. UnguardedRows after ρ m χ) c
        (q.rows first value χ σ (reads_at (field kinds) first value χ y d.2) (omega (arith, e)) w.1
        (binds_at (field b) σ χ y n.1) (below_later at m σ (omega (arith, e)) o))) in (
          s.here
              ∙ ap₂ union
              (ap (row after) (add-one at) ∙ q.below (suc at) (omega (arith, e, size_positive φ)) ∙ unguarded_row middle ρ (suc at) φ u)
              (ap (row after) (sym y) ∙ unguarded_row after ρ (suc at + size φ) χ v),
          unguarded_same middle last ρ (suc at) φ
              (λ j l h. s.others j (λ t. omega (arith, t)) ∙ q.below j (omega (arith, e)))
              u,
          unguarded_same after last ρ (suc at + size φ) χ (λ j l h. s.others j (λ t. omega (arith, t))) v,
        )
    gathers_conjunction k first value (greatest φ) σ d h w n o = absurd (omega (arith, k, d.0))

    pub gathered_conjunction : 0 < left → kind_at ≡ 4 → Gathered kinds b at left before last r
    gathered_conjunction l k =
        record {
          low = omega (arith, p.low, q.low);
          high = omega (arith, p.low, p.high, q.high);
          end = end_conjunction kinds at left m r p.end q.end k;
          below = λ j h. s.others j (λ t. omega (arith, t)) ∙ q.below j (omega (arith, p.low)) ∙ p.below j (omega arith);
          beyond = λ j h. s.others j (λ t. omega (arith, t, p.low, q.low)) ∙ q.beyond j h ∙ p.beyond j (omega (arith, q.low));
          rows = gathers_conjunction k;
        }

-- The part of a transition at node i of a formula lies within the formula.
record PartAt (kinds : List ℕ) (first value : ℕ → ℕ) (i end : ℕ) : Type 0 where
  part : Formula ℕ
  reads : Reads (field kinds) first value (suc i) part
  within : suc i + size part ≤ end

module _ (kinds : List ℕ) (first value : ℕ → ℕ) (i : ℕ) (k : field kinds i ≡ 2) where
  kind_moved : {s : ℕ} → i ≡ s → field kinds s ≡ 2
  kind_moved e = subst (λ x. field kinds x ≡ 2) e k

  part_later : {s t : ℕ} → s ≤ t → PartAt kinds first value i s → PartAt kinds first value i t
  part_later h p = record { part = p.part; reads = p.reads; within = omega (arith, p.within, h) }

  part_at :
      (φ : Formula ℕ) (s : ℕ) → Reads (field kinds) first value s φ → s ≤ i → i < s + size φ →
      PartAt kinds first value i (s + size φ)
  part_at truth s d l h = absurd (omega (arith, kind_moved {s = s} (omega arith), d))
  part_at (variable n) s d l h = absurd (omega (arith, kind_moved {s = s} (omega arith), d.0))
  part_at (output e v) s d l h = absurd (omega (arith, kind_moved {s = s} (omega arith), d.0))
  part_at (transition e φ) s d l h =
      go (ℕ_discrete i s) (λ q. part_later (omega arith) (part_at φ (suc s) d.2 (omega arith) (omega arith)))
    where
      go :
          Dec (i ≡ s) → (¬ (i ≡ s) → PartAt kinds first value i (s + suc (size φ))) → PartAt kinds first value i (s + suc (size φ))
      go (yes q) f =
          record {
            part = φ;
            reads = reads_at (field kinds) first value φ (ap suc (sym q)) d.2;
            within = omega (arith, q);
          }
      go (no q) f = f q
  part_at (conjunction φ χ) s d l h =
      go (ℕ_discrete i s) (dec_lt i (suc s + size φ))
      (λ q t. part_later (omega arith) (part_at φ (suc s) d.1 (omega arith) t))
      (λ q t. part_later (omega arith) (part_at χ (suc s + size φ) d.2 (omega arith) (omega arith)))
    where
      go :
          Dec (i ≡ s) → Dec (i < suc s + size φ) →
          (¬ (i ≡ s) → i < suc s + size φ → PartAt kinds first value i (s + suc (size φ + size χ))) →
          (¬ (i ≡ s) → ¬ (i < suc s + size φ) → PartAt kinds first value i (s + suc (size φ + size χ))) →
          PartAt kinds first value i (s + suc (size φ + size χ))
      go (yes q) t f g = absurd (omega (arith, kind_moved q, d.0))
      go (no q) (yes t) f g = f q t
      go (no q) (no t) f g = g q t
  part_at (greatest φ) s d l h =
      go (ℕ_discrete i s) (λ q. part_later (omega arith) (part_at φ (suc s) d.1 (omega arith) (omega arith)))
    where
      go :
          Dec (i ≡ s) → (¬ (i ≡ s) → PartAt kinds first value i (s + suc (size φ))) → PartAt kinds first value i (s + suc (size φ))
      go (yes q) f = absurd (omega (arith, kind_moved q, d.0))
      go (no q) f = f q

-- The part of the transition at node i is gathered.
module _ (kinds b : List ℕ) (total : ℕ) (rows after : List (List ℕ)) (i r : ℕ) (k : field kinds i ≡ 2)
    (g : Gathered kinds b (i + 1) (total - i - 1) rows after r) where
  -- The rows of formulas that start before it stay.
  unguarded_kept :
      (first value : ℕ → ℕ) (ρ : List NodeSet) (φ : Formula ℕ) (s : ℕ) → Reads (field kinds) first value s φ →
      s + size φ ≤ total → s ≤ i → UnguardedRows rows ρ s φ → UnguardedRows after ρ s φ
  unguarded_kept first value ρ truth s d h l u = g.below s (omega arith) ∙ u
  unguarded_kept first value ρ (variable n) s d h l u = g.below s (omega arith) ∙ u
  unguarded_kept first value ρ (transition e φ) s d h l u = g.below s (omega arith) ∙ u
  unguarded_kept first value ρ (output e v) s d h l u = g.below s (omega arith) ∙ u
  unguarded_kept first value ρ (conjunction φ χ) s d h l u =
      go (ℕ_discrete i s) (dec_lt i (suc s + size φ))
      (λ q. unguarded_kept first value ρ φ (suc s) d.1 (omega arith) (omega arith) u.1)
      (λ t. unguarded_kept first value ρ χ (suc s + size φ) d.2 (omega arith) (omega arith) u.2)
    where
      go :
          Dec (i ≡ s) → Dec (i < suc s + size φ) → (¬ (i ≡ s) → UnguardedRows after ρ (suc s) φ) →
          (¬ (i < suc s + size φ) → UnguardedRows after ρ (suc s + size φ) χ) → UnguardedRows after ρ s (conjunction φ χ)
      go (yes q) t f f' = absurd (omega (arith, kind_moved kinds first value i k q, d.0))
      go (no q) (yes t) f f' =
          let p = part_at kinds first value i k φ (suc s) d.1 (omega arith) t in
          let e : r ≡ i + 1 + size p.part
          = g.end first value p.part (reads_at (field kinds) first value p.part (sym (add-one i)) p.reads) (omega (arith, p.within)) in (
            g.below s (omega arith) ∙ u.0,
            f q,
            unguarded_same rows after ρ (suc s + size φ) χ (λ j m n. g.beyond j (omega (arith, e, p.within))) u.2,
          )
      go (no q) (no t) f f' = (
        g.below s (omega arith) ∙ u.0,
        unguarded_same rows after ρ (suc s) φ (λ j m n. g.below j (omega arith)) u.1,
        f' t,
      )
  unguarded_kept first value ρ (greatest φ) s d h l u =
      go (ℕ_discrete i s)
      (λ q. unguarded_kept first value (row rows s ∷ ρ) φ (suc s) d.1 (omega arith) (omega arith) u.1)
    where
      go :
          Dec (i ≡ s) → (¬ (i ≡ s) → UnguardedRows after (row rows s ∷ ρ) (suc s) φ) → UnguardedRows after ρ s (greatest φ)
      go (yes q) f = absurd (omega (arith, kind_moved kinds first value i k q, d.0))
      go (no q) f =
          let e : row after s ≡ row rows s = g.below s (omega arith) in
          (e ∙ u.0, subst (λ D. UnguardedRows after (D ∷ ρ) (suc s) φ) (sym e) (f q))

  binders_kept : (s : ℕ) (σ : List ℕ) → s ≤ i + 1 → AllBelow s σ → map (row rows) σ ≡ map (row after) σ
  binders_kept s σ l o = map_below (row rows) (row after) s σ o (λ j h. sym (g.below j (omega arith)))

  kept_at : (s : ℕ) → s ≤ i → RowsAt kinds b total rows s → RowsAt kinds b total after s
  kept_at s l old first value φ σ d h w n o =
      subst (λ ρ. UnguardedRows after ρ s φ) (binders_kept s σ (omega arith) o)
      (unguarded_kept first value (map (row rows) σ) φ s d h l (old first value φ σ d h w n o))

  new_at : RowsAt kinds b total after (suc i)
  new_at first value φ σ d h w n o =
      let z : suc i ≡ i + 1 = sym (add-one i) in
      subst (λ x. UnguardedRows after (map (row after) σ) x φ) (add-one i)
      (subst (λ ρ. UnguardedRows after ρ (i + 1) φ) (binders_kept (suc i) σ (omega arith) o)
      (g.rows first value φ σ (reads_at (field kinds) first value φ z d) (omega arith) w (binds_at (field b) σ φ z n)
      (below_later (suc i) (i + 1) σ (omega arith) o)))

  pub rows_part : RowsTo kinds b total rows i → RowsTo kinds b total after (i + 1)
  rows_part old =
      record {
        root = kept_at 0 (omega arith) old.root;
        parts = λ j h e. go j h e (ℕ_discrete j i);
      }
    where
      go : (j : ℕ) → j < i + 1 → field kinds j ≡ 2 → Dec (j ≡ i) → RowsAt kinds b total after (suc j)
      go j h e (yes q) = subst (λ x. RowsAt kinds b total after (suc x)) (sym q) new_at
      go j h e (no q) = kept_at (suc j) (omega arith) (old.parts j (omega arith) e)

module _ (kinds b : List ℕ) (total : ℕ) where
  pub rows_root : (rows after : List (List ℕ)) (r : ℕ) → Gathered kinds b 0 total rows after r → RowsTo kinds b total after 0
  rows_root rows after r g =
      record {
        root = λ first value φ σ d h w n o.
            subst (λ ρ. UnguardedRows after ρ 0 φ) (map_below (row rows) (row after) 0 σ o (λ j h. absurd (omega arith)))
            (g.rows first value φ σ d (omega arith) w n o);
        parts = λ i h. absurd (omega arith);
      }

  pub rows_other :
      (rows : List (List ℕ)) (i : ℕ) → ¬ (field kinds i ≡ 2) → RowsTo kinds b total rows i → RowsTo kinds b total rows (i + 1)
  rows_other rows i k old = record { root = old.root; parts = λ j h e. go j h e (ℕ_discrete j i) }
    where
      go : (j : ℕ) → j < i + 1 → field kinds j ≡ 2 → Dec (j ≡ i) → RowsAt kinds b total rows (suc j)
      go j h e (yes q) = absurd (k (subst (λ x. field kinds x ≡ 2) q e))
      go j h e (no q) = old.parts j (omega arith) e
