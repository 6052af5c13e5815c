-- The machine of demand sets has the formula's computed values on every event sequence.
use mathlib.Core.{Path.{◌≡◌, refl, sym, ◌∙◌, ap, ap₂, subst, subst⁻¹}, Bool.{Bool, true, false, ◌&&◌, cond}, List.{List, [], ◌∷◌}}
use Prim.Native.Nat.{ℕ, zero, suc, ◌+◌, ◌<◌}
use native.Mathlib.{Nat.{not-suc-le-zero}, Omega.{arith}}
use lib.{Dec.{eqb}, ListN.{length, get_or}}
use Rattle.theory.specs.ValueSets.{MeetSemilattice}
use Rattle.theory.specs.Formula.{Formula, truth, variable, transition, output, conjunction, greatest, size, unfolded}
use Rattle.theory.specs.FormulaClasses.{WellFormed}
use Rattle.theory.specs.MealyMachine.{after}
use Rattle.theory.specs.Formula.{Stands, root, part_of_transition, left_part, right_part, part_of_greatest}
use Rattle.theory.specs.ReachableStates.{NodeSet}
use Rattle.theory.specs.Evaluation.{unguarded_depth, step, value, follower, formulas}
use Rattle.theory.specs.DemandSets.{empty, only, union, binder_set, demands, moved, set_machine, first_set}
use Rattle.theory.proofs.Order.{top_meet}
use Rattle.theory.proofs.Instantiation.{instantiate, nth, instantiate_truth, instantiate_transition, instantiate_output, instantiate_conjunction}
use Rattle.theory.proofs.Instantiation.{instantiate_greatest, instantiate_variable, all_closed}
use Rattle.theory.proofs.Equations.{step_truth, step_transition, step_output, step_conjunction, step_greatest, depth_unfolded, follower_well_formed}
use Rattle.theory.proofs.NodeSets.{shown, Misses, Lies, only_self, only_other, only_lies, empty_misses, union_empty, empty_union, moved_union}
use Rattle.theory.proofs.NodeSets.{moved_miss, shown_miss, shown_in, shown_union}
use Rattle.theory.proofs.Binders.{binder_demands, binder_formulas, binder_formulas_length, IsBinder, binder_of, part_free, part_fits}
use Rattle.theory.proofs.{Binders.{binder_formulas_well_formed, part_well_formed}, Demands.{own_demands}}

module _ {B : Type 0} (φ : Formula B) where
  -- Of a set within a part's nodes, the whole formula's next set is the part's.
  local_moved :
      {i : ℕ} {bs : List ℕ} {ψ : Formula B} (s : Stands φ i bs ψ) (D : NodeSet) (e : ℕ) → Lies D i (size ψ) →
      moved D e [] zero φ ≡ moved D e (binder_demands φ s) i ψ
  local_moved root D e l = refl
  local_moved (part_of_transition {i = i} {e = a} {ψ = ψ} s) D e l =
      local_moved s D e ((λ j h. l.0 j (omega arith)), λ j h. l.1 j (omega arith))
      ∙ ap (λ t. union (cond (t && eqb a e) (demands (binder_demands φ s) (suc i) ψ) empty)
      (moved D e (binder_demands φ s) (suc i) ψ)) (l.0 i (omega arith))
      ∙ empty_union (moved D e (binder_demands φ s) (suc i) ψ)
  local_moved (left_part {i = i} {ψ = ψ} {χ = χ} s) D e l =
      local_moved s D e ((λ j h. l.0 j (omega arith)), λ j h. l.1 j (omega arith))
      ∙ ap (union (moved D e (binder_demands φ s) (suc i) ψ))
      (moved_miss D e (binder_demands φ s) (suc i + size ψ) χ (λ j h u. l.1 j h))
      ∙ union_empty (moved D e (binder_demands φ s) (suc i) ψ)
  local_moved (right_part {i = i} {ψ = ψ} {χ = χ} s) D e l =
      local_moved s D e ((λ j h. l.0 j (omega arith)), λ j h. l.1 j (omega arith))
      ∙ ap (λ X. union X (moved D e (binder_demands φ s) (suc i + size ψ) χ))
      (moved_miss D e (binder_demands φ s) (suc i) ψ (λ j h u. l.0 j u))
      ∙ empty_union (moved D e (binder_demands φ s) (suc i + size ψ) χ)
  local_moved (part_of_greatest s) D e l =
      local_moved s D e ((λ j h. l.0 j (omega arith)), λ j h. l.1 j (omega arith))

  module _ (In : B → Type 0) (meet : B → B → B) (top : B) (L : MeetSemilattice In meet top) (events : ℕ)
      (good : WellFormed events In φ) where
    -- Of a set within a part's nodes, the whole formula's value is the part's.
    local_shown :
        {i : ℕ} {bs : List ℕ} {ψ : Formula B} (s : Stands φ i bs ψ) (D : NodeSet) (e : ℕ) → Lies D i (size ψ) →
        shown meet top D e zero φ ≡ shown meet top D e i ψ
    local_shown root D e l = refl
    local_shown (part_of_transition s) D e l =
        local_shown s D e ((λ j h. l.0 j (omega arith)), λ j h. l.1 j (omega arith))
    local_shown (left_part {i = i} {ψ = ψ} {χ = χ} s) D e l =
        local_shown s D e ((λ j h. l.0 j (omega arith)), λ j h. l.1 j (omega arith))
        ∙ ap (meet (shown meet top D e (suc i) ψ))
        (shown_miss meet top In L D e (suc i + size ψ) χ (λ j h u. l.1 j h))
        ∙ L.neutral (shown meet top D e (suc i) ψ)
        (shown_in meet top In L events D e (suc i) ψ (part_fits φ events In good.fits (left_part s)))
    local_shown (right_part {i = i} {ψ = ψ} {χ = χ} s) D e l =
        local_shown s D e ((λ j h. l.0 j (omega arith)), λ j h. l.1 j (omega arith))
        ∙ ap (λ x. meet x (shown meet top D e (suc i + size ψ) χ))
        (shown_miss meet top In L D e (suc i) ψ (λ j h u. l.0 j u))
        ∙ top_meet In meet top L (shown meet top D e (suc i + size ψ) χ)
        (shown_in meet top In L events D e (suc i + size ψ) χ (part_fits φ events In good.fits (right_part s)))
    local_shown (part_of_greatest s) D e l =
        local_shown s D e ((λ j h. l.0 j (omega arith)), λ j h. l.1 j (omega arith))

    -- A follower of the formula and the set of nodes for it: T and the empty set, a closed part and its demands, A and the union.
    data Follows : Formula B → NodeSet → Type 0 where
      of_truth : Follows truth empty
      of_part :
          {i : ℕ} {bs : List ℕ} {ψ : Formula B} (s : Stands φ i bs ψ) →
          Follows (instantiate zero (binder_formulas φ s) ψ) (demands (binder_demands φ s) i ψ)
      of_conjunction :
          {ψ χ : Formula B} {C D : NodeSet} → WellFormed events In ψ → WellFormed events In χ →
          Follows ψ C → Follows χ D → Follows (conjunction ψ χ) (union C D)

    -- One event: the value is that of the set, and what follows goes with the next set.
    abbrev Matches : ℕ → B × Formula B → NodeSet → Type 0
    Matches e x D = (x.0 ≡ shown meet top D e zero φ) × Follows x.1 (moved D e [] zero φ)

    matches_truth : (e : ℕ) → Matches e (step meet top e truth) empty
    matches_truth e =
        subst⁻¹ (λ x. Matches e x empty) (step_truth events In meet top e) (
          sym (shown_miss meet top In L empty e zero φ (empty_misses zero (size φ))),
          subst⁻¹ (Follows truth) (moved_miss empty e [] zero φ (empty_misses zero (size φ))) of_truth,
        )

    matches_conjunction :
        (e : ℕ) (ψ χ : Formula B) (C D : NodeSet) → WellFormed events In ψ → WellFormed events In χ →
        Matches e (step meet top e ψ) C → Matches e (step meet top e χ) D →
        Matches e (step meet top e (conjunction ψ χ)) (union C D)
    matches_conjunction e ψ χ C D g h p q =
        subst⁻¹ (λ x. Matches e x (union C D)) (step_conjunction events In meet top e ψ χ g h) (
          ap₂ meet p.0 q.0 ∙ sym (shown_union meet top In L events C D e zero φ good.fits),
          subst⁻¹ (Follows (conjunction (follower meet top e ψ) (follower meet top e χ))) (moved_union C D e [] zero φ)
              (of_conjunction (follower_well_formed events In meet top e ψ g) (follower_well_formed events In meet top e χ h)
              p.1 q.1),
        )

    follows_cond :
        (t : Bool) (ψ : Formula B) (D : NodeSet) → Follows ψ D → Follows (cond t ψ truth) (cond t D empty)
    follows_cond true ψ D f = f
    follows_cond false ψ D f = of_truth

    matches_transition :
        {i a : ℕ} {bs : List ℕ} {ψ : Formula B} (e : ℕ) (s : Stands φ i bs (transition a ψ)) →
        Matches e (step meet top e (transition a (instantiate zero (binder_formulas φ s) ψ))) (only i)
    matches_transition {i} {a} {bs} {ψ} e s =
        let σ : List (Formula B) = binder_formulas φ s in
        let ρ : List NodeSet = binder_demands φ s in
        let lies : Lies (only i) i (suc (size ψ)) = only_lies i (size ψ) in
        let miss : Misses (only i) (suc i) (size ψ) = λ j l u. only_other i j (omega arith) in
        subst⁻¹ (λ x. Matches e x (only i)) (step_transition events In meet top e a (instantiate zero σ ψ)) (
          sym (local_shown s (only i) e lies ∙ shown_miss meet top In L (only i) e (suc i) ψ miss),
          subst⁻¹ (Follows (cond (eqb a e) (instantiate zero σ ψ) truth))
              (local_moved s (only i) e lies
              ∙ ap₂ union (ap (λ t. cond (t && eqb a e) (demands ρ (suc i) ψ) empty) (only_self i))
              (moved_miss (only i) e ρ (suc i) ψ miss)
              ∙ union_empty (cond (eqb a e) (demands ρ (suc i) ψ) empty))
              (follows_cond (eqb a e) (instantiate zero σ ψ) (demands ρ (suc i) ψ) (of_part (part_of_transition s))),
        )

    matches_output :
        {i a : ℕ} {bs : List ℕ} {b : B} (e : ℕ) (s : Stands φ i bs (output a b)) →
        Matches e (step meet top e (output a b)) (only i)
    matches_output {i} {a} {bs} {b} e s =
        let lies : Lies (only i) i 1 = only_lies i zero in
        subst⁻¹ (λ x. Matches e x (only i)) (step_output events In meet top e a b) (
          sym (local_shown s (only i) e lies ∙ ap (λ t. cond (t && eqb a e) b top) (only_self i)),
          subst⁻¹ (Follows truth) (local_moved s (only i) e lies) of_truth,
        )

    -- The parts whose closed formula has a measure below k.
    abbrev MatchesBelow : ℕ → ℕ → Type 0
    MatchesBelow k e =
        (i : ℕ) (bs : List ℕ) (ψ : Formula B) (s : Stands φ i bs ψ) →
        unguarded_depth (instantiate zero (binder_formulas φ s) ψ) < k →
        Matches e (step meet top e (instantiate zero (binder_formulas φ s) ψ)) (demands (binder_demands φ s) i ψ)

    matches_greatest :
        (k e : ℕ) → MatchesBelow k e →
        (i : ℕ) (bs : List ℕ) (ψ : Formula B) (s : Stands φ i bs (greatest ψ)) →
        unguarded_depth (instantiate zero (binder_formulas φ s) (greatest ψ)) < suc k →
        Matches e (step meet top e (instantiate zero (binder_formulas φ s) (greatest ψ)))
        (demands (binder_demands φ s) i (greatest ψ))
    matches_greatest k e below i bs ψ s h =
        let σ : List (Formula B) = binder_formulas φ s in
        let D : NodeSet = demands (binder_demands φ s) i (greatest ψ) in
        let p : instantiate zero σ (greatest ψ) ≡ greatest (instantiate 1 σ ψ) = instantiate_greatest zero σ ψ in
        let g : WellFormed events In (greatest (instantiate 1 σ ψ))
        = subst (WellFormed events In) p (part_well_formed φ events In good s) in
        let l : unguarded_depth (unfolded (instantiate 1 σ ψ)) < k
        = omega (arith, h, ap unguarded_depth p, depth_unfolded events In (instantiate 1 σ ψ) g) in
        subst⁻¹ (λ x. Matches e (step meet top e x) D) p
        (subst⁻¹ (λ x. Matches e x D) (step_greatest events In meet top e (instantiate 1 σ ψ) g)
        (subst (Matches e (step meet top e (unfolded (instantiate 1 σ ψ)))) (own_demands φ good.guarded s)
        (below (suc i) (i ∷ bs) ψ (part_of_greatest s) l)))

    matches_below : (k e : ℕ) → MatchesBelow k e
    matches_below zero e i bs ψ s h = absurd (not-suc-le-zero h)
    matches_below (suc k) e i bs truth s h =
        subst⁻¹ (λ x. Matches e (step meet top e x) empty) (instantiate_truth zero (binder_formulas φ s)) (matches_truth e)
    matches_below (suc k) e i bs (variable n) s h =
        let σ : List (Formula B) = binder_formulas φ s in
        let free : n < length bs = part_free φ good.closed s in
        let b : IsBinder φ (get_or bs n zero) (binder_set (binder_demands φ s) n) (nth σ n) = binder_of φ s n free in
        let p : instantiate zero σ (variable n) ≡ instantiate zero (binder_formulas φ b.stands) (greatest b.part)
        = instantiate_variable σ n (all_closed events In σ (binder_formulas_well_formed φ events In good s))
        (omega (arith, free, binder_formulas_length φ s))
        ∙ b.its_formula in
        subst⁻¹ (λ x. Matches e (step meet top e x) (binder_set (binder_demands φ s) n)) p
        (subst⁻¹ (Matches e (step meet top e (instantiate zero (binder_formulas φ b.stands) (greatest b.part))))
        b.its_demands
        (matches_greatest k e (matches_below k e) (get_or bs n zero) b.above b.part b.stands
        (omega (arith, h, ap unguarded_depth p))))
    matches_below (suc k) e i bs (transition a ψ) s h =
        subst⁻¹ (λ x. Matches e (step meet top e x) (only i)) (instantiate_transition zero (binder_formulas φ s) a ψ)
        (matches_transition e s)
    matches_below (suc k) e i bs (output a b) s h =
        subst⁻¹ (λ x. Matches e (step meet top e x) (only i)) (instantiate_output zero (binder_formulas φ s) a b)
        (matches_output e s)
    matches_below (suc k) e i bs (conjunction ψ χ) s h =
        let σ : List (Formula B) = binder_formulas φ s in
        let ρ : List NodeSet = binder_demands φ s in
        let p : instantiate zero σ (conjunction ψ χ) ≡ conjunction (instantiate zero σ ψ) (instantiate zero σ χ)
        = instantiate_conjunction zero σ ψ χ in
        subst⁻¹ (λ x. Matches e (step meet top e x) (demands ρ i (conjunction ψ χ))) p
        (matches_conjunction e (instantiate zero σ ψ) (instantiate zero σ χ) (demands ρ (suc i) ψ)
        (demands ρ (suc i + size ψ) χ) (part_well_formed φ events In good (left_part s))
        (part_well_formed φ events In good (right_part s))
        (matches_below k e (suc i) bs ψ (left_part s) (omega (arith, h, ap unguarded_depth p)))
        (matches_below k e (suc i + size ψ) bs χ (right_part s) (omega (arith, h, ap unguarded_depth p))))
    matches_below (suc k) e i bs (greatest ψ) s h = matches_greatest k e (matches_below k e) i bs ψ s h

    matches : (e : ℕ) (ψ : Formula B) (D : NodeSet) → Follows ψ D → Matches e (step meet top e ψ) D
    matches e ψ D of_truth = matches_truth e
    matches e ψ D (of_part {i = i} {bs = bs} {ψ = χ} s) =
        matches_below (suc (unguarded_depth (instantiate zero (binder_formulas φ s) χ))) e i bs χ s (omega arith)
    matches e ψ D (of_conjunction {ψ = χ} {χ = ξ} {C = C} {D = E} g h p q) =
        matches_conjunction e χ ξ C E g h (matches e χ C p) (matches e ξ E q)

    values_from :
        (w : List ℕ) (ψ : Formula B) (D : NodeSet) (e : ℕ) → Follows ψ D →
        value meet top e (after (formulas meet top) ψ w) ≡ shown meet top (after (set_machine meet top φ) D w) e zero φ
    values_from [] ψ D e f = (matches e ψ D f).0
    values_from (a ∷ w) ψ D e f =
        values_from w (follower meet top a ψ) (moved D a [] zero φ) e (matches a ψ D f).1

    -- On every sequence (w, then e) the machine of demand sets has the formula's value.
    pub demand_values :
        (w : List ℕ) (e : ℕ) →
        value meet top e (after (formulas meet top) φ w)
        ≡ shown meet top (after (set_machine meet top φ) (first_set φ) w) e zero φ
    demand_values w e = values_from w φ (first_set φ) e (of_part root)
