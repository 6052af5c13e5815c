-- The computed demands, first set, next set and value are the printed ones (document 01, "Table of a rule").
use mathlib.Core.Logic.Iff
use mathlib.Core.{Path.{◌≡◌, refl, sym, ◌∙◌, ap, subst, subst⁻¹, subst₂}, Logic.{◌↔◌, inl, inr, ⊎_elim}}
use mathlib.Core.{Bool.{Bool, true, false, ◌&&◌, cond}, List.{List, [], ◌∷◌, ◌++◌, append-nil, append_assoc}}
use Prim.Native.Nat.{ℕ, zero, suc, ◌+◌, ◌<◌, zero-le, suc-le-suc}
use native.Mathlib.Omega.{arith}
use lib.{Dec.{T, eqb, eqb→eq, eqb_refl}, ListN.{length, get_or}}
use Rattle.theory.specs.ValueSets.{MeetSemilattice}
use Rattle.theory.specs.Formula.{Formula, truth, variable, transition, output, conjunction, greatest, size}
use Rattle.theory.specs.FormulaClasses.{Guarded, Fits}
use Rattle.theory.specs.Formula.{Node, nodes, Stands, root, part_of_transition, left_part, right_part, part_of_greatest}
use Rattle.theory.specs.ReachableStates.{NodeSet, Demands, of_left, of_right, of_variable, InNextSet, of_transition, of_output, of_greatest}
use Rattle.theory.specs.DemandSets.{IsFirstSet, IsNextSet, empty, binder_set, demands, moved, first_set}
use Rattle.theory.specs.ReachableStates.{outputs, meet_all, value_of_set}
use Rattle.theory.proofs.{Order.{top_meet}, PrefixCode.{stands_once}}
use Rattle.theory.proofs.NodeSets.{shown, not_in_empty, in_only, in_union, same_members, demands_swap, shown_in}
use Rattle.theory.proofs.Binders.{binder_demands, binder_of, part_guarded}

module _ {B : Type 0} (φ : Formula B) where
  -- What is kept for a variable is demanded by its binder.
  abbrev Demanded : List NodeSet → List ℕ → Type 0
  Demanded ρ bs = (n d : ℕ) → T (binder_set ρ n d) → (n < length bs) × Demands φ (get_or bs n zero) d

  demanded_part :
      (ψ : Formula B) (ρ : List NodeSet) (i : ℕ) (bs : List ℕ) → Demanded ρ bs → Stands φ i bs ψ →
      (d : ℕ) → T (demands ρ i ψ d) → Demands φ i d
  demanded_part truth ρ i bs k s d h = absurd (not_in_empty d h)
  demanded_part (variable n) ρ i bs k s d h = let r = k n d h in of_variable s r.0 r.1
  demanded_part (transition e ψ) ρ i bs k s d h = subst (Demands φ i) ((in_only i d).0 h) (of_transition s)
  demanded_part (output e b) ρ i bs k s d h = subst (Demands φ i) ((in_only i d).0 h) (of_output s)
  demanded_part (conjunction ψ χ) ρ i bs k s d h =
      ⊎_elim (λ l. of_left s (demanded_part ψ ρ (suc i) bs k (left_part s) d l))
      (λ r. of_right s (demanded_part χ ρ (suc i + size ψ) bs k (right_part s) d r))
      ((in_union (demands ρ (suc i) ψ) (demands ρ (suc i + size ψ) χ) d).0 h)
  demanded_part (greatest ψ) ρ i bs k s d h =
      of_greatest s (demanded_part ψ (empty ∷ ρ) (suc i) (i ∷ bs) below (part_of_greatest s) d h)
    where
      below : Demanded (empty ∷ ρ) (i ∷ bs)
      below zero d h = absurd (not_in_empty d h)
      below (suc n) d h = (suc-le-suc (k n d h).0, (k n d h).1)

  demanded_binders : {i : ℕ} {bs : List ℕ} {ψ : Formula B} (s : Stands φ i bs ψ) → Demanded (binder_demands φ s) bs
  demanded_binders root n d h = absurd (not_in_empty d h)
  demanded_binders (part_of_transition s) n d h = demanded_binders s n d h
  demanded_binders (left_part s) n d h = demanded_binders s n d h
  demanded_binders (right_part s) n d h = demanded_binders s n d h
  demanded_binders (part_of_greatest {i = i} {bs = bs} {ψ = ψ} s) zero d h =
      (suc-le-suc zero-le, demanded_part (greatest ψ) (binder_demands φ s) i bs (λ m c l. demanded_binders s m c l) s d h)
  demanded_binders (part_of_greatest s) (suc n) d h =
      (suc-le-suc (demanded_binders s n d h).0, (demanded_binders s n d h).1)

  -- What is computed is demanded: for every formula.
  pub demands_sound :
      {i : ℕ} {bs : List ℕ} {ψ : Formula B} (s : Stands φ i bs ψ) (d : ℕ) →
      T (demands (binder_demands φ s) i ψ d) → Demands φ i d
  demands_sound {i} {bs} {ψ} s d h = demanded_part ψ (binder_demands φ s) i bs (demanded_binders s) s d h

  module _ (g : Guarded φ) where
    -- The part of a binder may be computed with the binder's own demands for its variable.
    pub own_demands :
        {i : ℕ} {bs : List ℕ} {ψ : Formula B} (s : Stands φ i bs (greatest ψ)) →
        demands (binder_demands φ (part_of_greatest s)) (suc i) ψ ≡ demands (binder_demands φ s) i (greatest ψ)
    own_demands {i} {bs} {ψ} s =
        demands_swap zero (demands (binder_demands φ s) i (greatest ψ)) (empty ∷ binder_demands φ s) (suc i) ψ
        (part_guarded φ g s).0

    -- What is computed at a node may be shown for any part that stands there, since only one does.
    at_node :
        {i : ℕ} {bs cs : List ℕ} {ψ χ : Formula B} (d : ℕ) → Stands φ i cs χ →
        ((t : Stands φ i cs χ) → T (demands (binder_demands φ t) i χ d)) →
        (s : Stands φ i bs ψ) → T (demands (binder_demands φ s) i ψ d)
    at_node {i} d t f s =
        subst₂ (λ xs ξ. (r : Stands φ i xs ξ) → T (demands (binder_demands φ r) i ξ d)) (stands_once φ t s).0
        (stands_once φ t s).1 f s

    -- What is demanded is computed: for every formula of the wider guarded class.
    pub demands_complete :
        {i d : ℕ} → Demands φ i d → (bs : List ℕ) (ψ : Formula B) (s : Stands φ i bs ψ) →
        T (demands (binder_demands φ s) i ψ d)
    demands_complete (of_transition {i = i} r) bs ψ s = at_node i r (λ t. (in_only i i).1 refl) s
    demands_complete (of_output {i = i} r) bs ψ s = at_node i r (λ t. (in_only i i).1 refl) s
    demands_complete (of_left {i = i} {d = d} {bs = cs} {ψ = χ} {χ = ξ} r h) bs ψ s =
        at_node d r
        (λ t. (in_union (demands (binder_demands φ t) (suc i) χ) (demands (binder_demands φ t) (suc i + size χ) ξ) d).1
        (inl (demands_complete h cs χ (left_part t)))) s
    demands_complete (of_right {i = i} {d = d} {bs = cs} {ψ = χ} {χ = ξ} r h) bs ψ s =
        at_node d r
        (λ t. (in_union (demands (binder_demands φ t) (suc i) χ) (demands (binder_demands φ t) (suc i + size χ) ξ) d).1
        (inr (demands_complete h cs ξ (right_part t)))) s
    demands_complete (of_greatest {i = i} {d = d} {bs = cs} {ψ = χ} r h) bs ψ s =
        at_node d r (λ t. subst (λ D. T (D d)) (own_demands t) (demands_complete h (i ∷ cs) χ (part_of_greatest t))) s
    demands_complete (of_variable {i = i} {d = d} {n = n} {bs = cs} r l h) bs ψ s =
        at_node d r
        (λ t. let b = binder_of φ t n l in
        subst⁻¹ (λ D. T (D d)) b.its_demands (demands_complete h b.above (greatest b.part) b.stands)) s

    -- The computed demands of a part, with the demands of its binders for its variables, are its node's demands.
    pub demands_iff :
        {i : ℕ} {bs : List ℕ} {ψ : Formula B} (s : Stands φ i bs ψ) (d : ℕ) →
        T (demands (binder_demands φ s) i ψ d) ↔ Demands φ i d
    demands_iff {bs = bs} {ψ = ψ} s d = (demands_sound s d, λ h. demands_complete h bs ψ s)

    pub is_first_set : IsFirstSet φ (first_set φ)
    is_first_set d = demands_iff root d

    pub only_first_set : (D : NodeSet) → IsFirstSet φ D → D ≡ first_set φ
    only_first_set D f = same_members D (first_set φ) (λ d. Iff.trans (f d) (Iff.symm (is_first_set d)))

-- Membership of a set that stands under a condition.
in_cond : (t : Bool) (C : NodeSet) (d : ℕ) → T (cond t C empty d) ↔ (T t × T (C d))
in_cond true C d = ((λ h. (tt, h)), λ h. h.1)
in_cond false C d = ((λ h. absurd (not_in_empty d h)), λ h. absurd h.0)

-- The test for a node of D for e.
node_for : (t : Bool) (a e : ℕ) → T (t && eqb a e) ↔ (T t × (a ≡ e))
node_for true a e = ((λ h. (tt, eqb→eq a e h)), λ h. subst (λ x. T (eqb a x)) h.1 (eqb_refl a))
node_for false a e = ((λ h. absurd h), λ h. h.0)

module _ {B : Type 0} (φ : Formula B) (D : NodeSet) (e d : ℕ) where
  -- The next set among the nodes of a part has what the parts of its G nodes demand: for every formula.
  moved_part :
      (ψ : Formula B) (i : ℕ) (bs : List ℕ) (s : Stands φ i bs ψ) → T (moved D e (binder_demands φ s) i ψ d) →
      InNextSet φ D e d
  moved_part truth i bs s h = absurd (not_in_empty d h)
  moved_part (variable n) i bs s h = absurd (not_in_empty d h)
  moved_part (transition a ψ) i bs s h =
      ⊎_elim here (moved_part ψ (suc i) bs (part_of_transition s))
      ((in_union (cond (D i && eqb a e) (demands (binder_demands φ s) (suc i) ψ) empty)
      (moved D e (binder_demands φ s) (suc i) ψ) d).0 h)
    where
      here : T (cond (D i && eqb a e) (demands (binder_demands φ s) (suc i) ψ) empty d) → InNextSet φ D e d
      here t =
          let c = (in_cond (D i && eqb a e) (demands (binder_demands φ s) (suc i) ψ) d).0 t in
          let n = (node_for (D i) a e).0 c.0 in (
            i,
            bs,
            ψ,
            n.0,
            subst (λ x. Stands φ i bs (transition x ψ)) n.1 s,
            demands_sound φ (part_of_transition s) d c.1,
          )
  moved_part (output a b) i bs s h = absurd (not_in_empty d h)
  moved_part (conjunction ψ χ) i bs s h =
      ⊎_elim (moved_part ψ (suc i) bs (left_part s)) (moved_part χ (suc i + size ψ) bs (right_part s))
      ((in_union (moved D e (binder_demands φ s) (suc i) ψ) (moved D e (binder_demands φ s) (suc i + size ψ) χ) d).0 h)
  moved_part (greatest ψ) i bs s h = moved_part ψ (suc i) (i ∷ bs) (part_of_greatest s) h

  -- The next set among the nodes of a part lies in the whole next set.
  moved_whole :
      {i : ℕ} {bs : List ℕ} {ψ : Formula B} (s : Stands φ i bs ψ) → T (moved D e (binder_demands φ s) i ψ d) →
      T (moved D e [] zero φ d)
  moved_whole root h = h
  moved_whole (part_of_transition {i = i} {e = a} {ψ = ψ} s) h =
      moved_whole s
      ((in_union (cond (D i && eqb a e) (demands (binder_demands φ s) (suc i) ψ) empty)
      (moved D e (binder_demands φ s) (suc i) ψ) d).1 (inr h))
  moved_whole (left_part {i = i} {ψ = ψ} {χ = χ} s) h =
      moved_whole s
      ((in_union (moved D e (binder_demands φ s) (suc i) ψ) (moved D e (binder_demands φ s) (suc i + size ψ) χ) d).1 (inl h))
  moved_whole (right_part {i = i} {ψ = ψ} {χ = χ} s) h =
      moved_whole s
      ((in_union (moved D e (binder_demands φ s) (suc i) ψ) (moved D e (binder_demands φ s) (suc i + size ψ) χ) d).1 (inr h))
  moved_whole (part_of_greatest s) h = moved_whole s h

  moved_node : Guarded φ → InNextSet φ D e d → T (moved D e [] zero φ d)
  moved_node g (i, bs, ψ, t, s, h) =
      moved_whole s
      ((in_union (cond (D i && eqb e e) (demands (binder_demands φ s) (suc i) ψ) empty)
      (moved D e (binder_demands φ s) (suc i) ψ) d).1
      (inl ((in_cond (D i && eqb e e) (demands (binder_demands φ s) (suc i) ψ) d).1
      ((node_for (D i) e e).1 (t, refl), demands_complete φ g h bs ψ (part_of_transition s)))))

-- What is computed as next set is in it: for every formula.
pub next_set_sound :
    {B : Type 0} (φ : Formula B) (D : NodeSet) (e d : ℕ) → T (moved D e [] zero φ d) → InNextSet φ D e d
next_set_sound φ D e d h = moved_part φ D e d φ zero [] root h

pub is_next_set :
    {B : Type 0} (φ : Formula B) → Guarded φ → (D : NodeSet) (e : ℕ) → IsNextSet φ D e (moved D e [] zero φ)
is_next_set φ g D e d = (next_set_sound φ D e d, moved_node φ D e d g)

pub only_next_set :
    {B : Type 0} (φ : Formula B) → Guarded φ → (D : NodeSet) (e : ℕ) (D' : NodeSet) → IsNextSet φ D e D' →
    D' ≡ moved D e [] zero φ
only_next_set φ g D e D' f =
    same_members D' (moved D e [] zero φ) (λ d. Iff.trans (f d) (Iff.symm (is_next_set φ g D e d)))

module _ {B : Type 0} (In : B → Type 0) (meet : B → B → B) (top : B) (L : MeetSemilattice In meet top) (events : ℕ) where
  abbrev values : NodeSet → ℕ → ℕ → List (Node B) → B
  values D e i ns = meet_all meet top (outputs D e i ns)

  value_of_output :
      (t : Bool) (b : B) (bs : List B) → In (meet_all meet top bs) →
      meet_all meet top (cond t (b ∷ bs) bs) ≡ meet (cond t b top) (meet_all meet top bs)
  value_of_output true b bs h = refl
  value_of_output false b bs h = sym (top_meet In meet top L (meet_all meet top bs) h)

  -- The O values of a part's nodes, then those of more nodes.
  value_of_part :
      (D : NodeSet) (e i k : ℕ) (ψ : Formula B) (ns : List (Node B)) → i + size ψ ≡ k → Fits events In ψ →
      In (values D e k ns) → values D e i (nodes ψ ++ ns) ≡ meet (shown meet top D e i ψ) (values D e k ns)
  value_of_part D e i k truth ns p f h =
      let q : suc i ≡ k = omega arith in
      ap (λ j. values D e j ns) q ∙ sym (top_meet In meet top L (values D e k ns) h)
  value_of_part D e i k (variable n) ns p f h =
      let q : suc i ≡ k = omega arith in
      ap (λ j. values D e j ns) q ∙ sym (top_meet In meet top L (values D e k ns) h)
  value_of_part D e i k (transition a ψ) ns p f h = value_of_part D e (suc i) k ψ ns (omega arith) f.1 h
  value_of_part D e i k (output a b) ns p f h =
      let q : suc i ≡ k = omega arith in
      ap (λ j. meet_all meet top (cond (D i && eqb a e) (b ∷ outputs D e j ns) (outputs D e j ns))) q
      ∙ value_of_output (D i && eqb a e) b (outputs D e k ns) h
  value_of_part D e i k (conjunction ψ χ) ns p f h =
      let right : values D e (suc i + size ψ) (nodes χ ++ ns)
      ≡ meet (shown meet top D e (suc i + size ψ) χ) (values D e k ns)
      = value_of_part D e (suc i + size ψ) k χ ns (omega arith) f.1 h in
      let in_left : In (shown meet top D e (suc i) ψ) = shown_in meet top In L events D e (suc i) ψ f.0 in
      let in_right : In (shown meet top D e (suc i + size ψ) χ)
      = shown_in meet top In L events D e (suc i + size ψ) χ f.1 in
      ap (values D e (suc i)) (append_assoc (nodes ψ) (nodes χ) ns)
      ∙ value_of_part D e (suc i) (suc i + size ψ) ψ (nodes χ ++ ns) refl f.0
      (subst⁻¹ In right (L.meet_in _ _ in_right h))
      ∙ ap (meet (shown meet top D e (suc i) ψ)) right ∙ sym (L.associative _ _ _ in_left in_right h)
  value_of_part D e i k (greatest ψ) ns p f h = value_of_part D e (suc i) k ψ ns (omega arith) f h

  -- The computed value of a set is the meet of its O values.
  pub shown_is_value :
      (φ : Formula B) → Fits events In φ → (D : NodeSet) (e : ℕ) →
      shown meet top D e zero φ ≡ value_of_set meet top φ D e
  shown_is_value φ f D e =
      sym (L.neutral _ (shown_in meet top In L events D e zero φ f))
      ∙ sym (value_of_part D e zero (zero + size φ) φ [] refl f L.top_in)
      ∙ ap (values D e zero) (append-nil (nodes φ))
