-- The formula written for a state has the state's values on every event sequence.
use mathlib.Core.{Path.{◌≡◌, refl, ◌∙◌, ap, ap₂, subst, subst⁻¹}, Bool.{cond}, Logic.{◌⊎◌, inl, inr}, List.{List, [], ◌∷◌}}
use Prim.Native.Nat.{ℕ, zero, suc, ◌≤◌, ◌<◌, zero-le}
use native.Mathlib.{Nat.{eq-or-lt_of_le}, Omega.{arith}}
use lib.{Dec.{eqb}, ListN.{length}}
use borrow.Author.Tests.{eq-eqb, ne_eqb}
use Rattle.theory.specs.ValueSets.{MeetSemilattice}
use Rattle.theory.specs.Formula.{Formula, truth, transition, output, conjunction, greatest, unfolded}
use Rattle.theory.specs.FormulaClasses.{WellFormed}
use Rattle.theory.specs.MealyMachine.{Machine, Word, after, States, Runs}
use Rattle.theory.specs.CharacteristicFormula.{OpenAt, here, above, Writes}
use Rattle.theory.specs.Evaluation.{value, follower, formulas}
use Rattle.theory.proofs.{Order.{top_meet, top_top}, Substitution.{open_position_guarded, closed_position_guarded}}
use Rattle.theory.proofs.Instantiation.{instantiate, nth, instantiate_transition, instantiate_output, instantiate_conjunction, instantiate_greatest}
use Rattle.theory.proofs.Instantiation.{instantiate_variable, AllWellFormed, all_closed, well_formed_instantiate}
use Rattle.theory.proofs.Equations.{step_truth, step_transition, step_output, step_greatest, value_in, follower_well_formed, conjunction_values}
use Rattle.theory.proofs.Equations.{well_formed_conjunction}
use Rattle.theory.proofs.CharacteristicFormula.{Tree, bound, binding, Branches, last_branch, branch, open_below, writes_tree, tree_free, tree_position}
use Rattle.theory.proofs.CharacteristicFormula.{tree_fits, branches_free, branches_position, branches_fits}

module _ {B : Type 0} (m : Machine ℕ B) (events : ℕ) (In : B → Type 0) (n : ℕ) (runs : Runs events In (States n) m) where
  abbrev Good : Formula B → Type 0
  Good φ = WellFormed events In φ

  -- ---- written formulas with closed formulas for the binders of the path
  module _ (path : List ℕ) (σ : List (Formula B)) (good : AllWellFormed events In σ) (same : length σ ≡ length path) where
    good_tree : {s : ℕ} {φ : Formula B} → Tree m events path s φ → s < n → Good (instantiate zero σ φ)
    good_tree {s} {φ} w l =
        well_formed_instantiate events In σ φ good (rw same (tree_free m events w))
        (open_position_guarded φ (tree_position m events w)) (tree_fits m events In n runs w l)

    good_branches : {s e : ℕ} {φ : Formula B} → Branches m events path s e φ → s < n → Good (instantiate zero σ φ)
    good_branches {s} {e} {φ} r l =
        well_formed_instantiate events In σ φ good (rw same (branches_free m events r))
        (closed_position_guarded φ (branches_position m events r)) (branches_fits m events In n runs r l)

    good_transition :
        {s e : ℕ} {φ : Formula B} → e < events → s < n → Tree m events path (m.next s e) φ →
        Good (transition e (instantiate zero σ φ))
    good_transition {s} {e} u l w =
        let g = good_tree w (runs.next_in s l e u) in
        record { closed = g.closed; guarded = g.guarded; fits = (u, g.fits) }

  good_output : {s e : ℕ} {b : B} → e < events → s < n → b ≡ m.value s e → Good (output e b)
  good_output {s} {e} u l p = record { closed = tt; guarded = tt; fits = (u, subst⁻¹ In p (runs.value_in s l e u)) }

  -- The binders of the path, each with its rows.
  data Binders : List ℕ → List (Formula B) → Type 0 where
    no_binder : Binders [] []
    one_binder :
        {path : List ℕ} {σ : List (Formula B)} {s : ℕ} {φ : Formula B} →
        Binders path σ → Branches m events (s ∷ path) s zero φ → s < n →
        Binders (s ∷ path) (greatest (instantiate 1 σ φ) ∷ σ)

  binders_length : {path : List ℕ} {σ : List (Formula B)} → Binders path σ → length σ ≡ length path
  binders_length no_binder = refl
  binders_length (one_binder v r l) = ap suc (binders_length v)

  good_greatest :
      (path : List ℕ) (σ : List (Formula B)) → AllWellFormed events In σ → length σ ≡ length path →
      {s : ℕ} {φ : Formula B} → Branches m events (s ∷ path) s zero φ → s < n → Good (greatest (instantiate 1 σ φ))
  good_greatest path σ good same {s} {φ} r l =
      subst Good (instantiate_greatest zero σ φ)
      (well_formed_instantiate events In σ (greatest φ) good (rw same (branches_free m events r))
      (closed_position_guarded (greatest φ) (branches_position m events r)) (branches_fits m events In n runs r l))

  binders_good : {path : List ℕ} {σ : List (Formula B)} → Binders path σ → AllWellFormed events In σ
  binders_good no_binder = tt
  binders_good (one_binder {path = path} {σ = σ} v r l) =
      (good_greatest path σ (binders_good v) (binders_length v) r l, binders_good v)

  -- What is put for the variable of an open state: the V of that state.
  record BinderOf (s : ℕ) (χ : Formula B) : Type 0 where
    path : List ℕ
    σ : List (Formula B)
    φ : Formula B
    above_it : Binders path σ
    its_rows : Branches m events (s ∷ path) s zero φ
    its_state : s < n
    is_it : χ ≡ greatest (instantiate 1 σ φ)

  binder_of : {path : List ℕ} {σ : List (Formula B)} {s i : ℕ} → Binders path σ → OpenAt s path i → BinderOf s (nth σ i)
  binder_of no_binder o = elim o [ ]
  binder_of (one_binder {path = path} {σ = σ} {φ = φ} v r l) here =
      record { path = path; σ = σ; φ = φ; above_it = v; its_rows = r; its_state = l; is_it = refl }
  binder_of (one_binder v r l) (above d o) = binder_of v o

  module _ (meet : B → B → B) (top : B) (laws : MeetSemilattice In meet top) where
    -- ---- the rows, valued in any way in which a conjunction has the meet and the rows of other events than x have top
    module _ (val : Formula B → B) (val_in : (φ : Formula B) → Good φ → In (val φ))
        (of_conjunction : (φ χ : Formula B) → Good φ → Good χ → val (conjunction φ χ) ≡ meet (val φ) (val χ))
        (x : ℕ) (x_in : x < events)
        (other_transition : (a : ℕ) (φ : Formula B) → ¬ (a ≡ x) → val (transition a φ) ≡ top)
        (other_output : (a : ℕ) (b : B) → ¬ (a ≡ x) → val (output a b) ≡ top)
        (path : List ℕ) (σ : List (Formula B)) (good : AllWellFormed events In σ) (same : length σ ≡ length path) where
      abbrev closing : Formula B → Formula B
      closing φ = instantiate zero σ φ

      val_last :
          {s e : ℕ} {b : B} {φ : Formula B} → e < events → s < n → b ≡ m.value s e → Tree m events path (m.next s e) φ →
          val (closing (conjunction (transition e φ) (output e b))) ≡ meet (val (transition e (closing φ))) (val (output e b))
      val_last {s} {e} {b} {φ} u l p w =
          ap val
          (instantiate_conjunction zero σ (transition e φ) (output e b)
          ∙ ap₂ conjunction (instantiate_transition zero σ e φ) (instantiate_output zero σ e b))
          ∙ of_conjunction (transition e (closing φ)) (output e b)
          (good_transition path σ good same u l w) (good_output u l p)

      val_row :
          {s e : ℕ} {b : B} {φ χ : Formula B} →
          e < events → s < n → b ≡ m.value s e → Tree m events path (m.next s e) φ → Branches m events path s (suc e) χ →
          val (closing (conjunction (transition e φ) (conjunction (output e b) χ)))
          ≡ meet (val (transition e (closing φ))) (meet (val (output e b)) (val (closing χ)))
      val_row {s} {e} {b} {φ} {χ} u l p w r =
          let gt = good_transition path σ good same u l w in
          let go : Good (output e b) = good_output u l p in
          let gr = good_branches path σ good same r l in
          ap val
          (instantiate_conjunction zero σ (transition e φ) (conjunction (output e b) χ)
          ∙ ap₂ conjunction (instantiate_transition zero σ e φ)
          (instantiate_conjunction zero σ (output e b) χ
          ∙ ap (λ ψ. conjunction ψ (closing χ)) (instantiate_output zero σ e b)))
          ∙ of_conjunction (transition e (closing φ)) (conjunction (output e b) (closing χ)) gt
          (well_formed_conjunction events In (output e b) (closing χ) go gr)
          ∙ ap (meet (val (transition e (closing φ)))) (of_conjunction (output e b) (closing χ) go gr)

      val_other : {s a : ℕ} {χ : Formula B} → Branches m events path s a χ → s < n → x < a → val (closing χ) ≡ top
      val_other (last_branch {e = e} {b = b} {φ = φ} h p w) l k =
          val_last (omega arith) l p w
          ∙ ap₂ meet (other_transition e (closing φ) (omega arith)) (other_output e b (omega arith))
          ∙ top_top In meet top laws
      val_other (branch {e = e} {b = b} {φ = φ} h p w r) l k =
          val_row (omega arith) l p w r
          ∙ ap₂ meet (other_transition e (closing φ) (omega arith))
          (ap₂ meet (other_output e b (omega arith)) (val_other r l (omega arith)) ∙ top_top In meet top laws)
          ∙ top_top In meet top laws

      -- The row of x alone counts.
      module _ (s : ℕ) (l : s < n) (c : B) (c_in : In c)
          (at_x :
          (φ : Formula B) → Tree m events path (m.next s x) φ →
          meet (val (transition x (closing φ))) (val (output x (m.value s x))) ≡ c) where
        val_at_row :
            (e : ℕ) (b : B) (φ : Formula B) → e ≡ x → b ≡ m.value s e → Tree m events path (m.next s e) φ →
            meet (val (transition e (closing φ))) (val (output e b)) ≡ c
        val_at_row e b φ q p w =
            ap (λ y. meet (val (transition e (closing φ))) (val (output e y))) p
            ∙ ap (λ y. meet (val (transition y (closing φ))) (val (output y (m.value s y)))) q
            ∙ at_x φ (subst (λ y. Tree m events path (m.next s y) φ) q w)

        val_at : {a : ℕ} {χ : Formula B} → Branches m events path s a χ → a ≤ x → val (closing χ) ≡ c
        val_at (last_branch {e = e} {b = b} {φ = φ} h p w) k =
            val_last (omega arith) l p w ∙ val_at_row e b φ (omega arith) p w
        val_at (branch {e = e} {b = b} {φ = φ} {χ = χ} h p w r) k =
            val_row (omega arith) l p w r ∙ go (eq-or-lt_of_le k) (λ u. val_at r u)
          where
            out : Good (output e b)
            out = good_output (omega arith) l p

            go :
                (e ≡ x) ⊎ (e < x) → (e < x → val (closing χ) ≡ c) →
                meet (val (transition e (closing φ))) (meet (val (output e b)) (val (closing χ))) ≡ c
            go (inl q) f =
                ap (meet (val (transition e (closing φ))))
                (ap (meet (val (output e b))) (val_other r l (omega arith))
                ∙ laws.neutral (val (output e b)) (val_in (output e b) out))
                ∙ val_at_row e b φ q p w
            go (inr u) f =
                ap₂ meet (other_transition e (closing φ) (omega arith)) (ap₂ meet (other_output e b (omega arith)) (f u))
                ∙ ap (meet top) (top_meet In meet top laws c c_in) ∙ top_meet In meet top laws c c_in

    -- ---- event sequences
    abbrev on : List ℕ → ℕ → Formula B → B
    on w e φ = value meet top e (after (formulas meet top) φ w)

    on_in : (w : List ℕ) (e : ℕ) (φ : Formula B) → Good φ → In (on w e φ)
    on_in [] e φ g = value_in events In meet top laws e φ g
    on_in (a ∷ w) e φ g = on_in w e (follower meet top a φ) (follower_well_formed events In meet top a φ g)

    machine_in : (w : List ℕ) → Word events w → (e : ℕ) → e < events → (s : ℕ) → s < n → In (m.value (after m s w) e)
    machine_in [] v e u s l = runs.value_in s l e u
    machine_in (a ∷ w) v e u s l = machine_in w v.1 e u (m.next s a) (runs.next_in s l a v.0)

    on_truth : (w : List ℕ) (e : ℕ) → on w e truth ≡ top
    on_truth [] e = ap (λ x. x.0) (step_truth events In meet top e)
    on_truth (a ∷ w) e = ap (λ x. on w e x.1) (step_truth events In meet top a) ∙ on_truth w e

    on_transition : (e a : ℕ) (φ : Formula B) → on [] e (transition a φ) ≡ top
    on_transition e a φ = ap (λ x. x.0) (step_transition events In meet top e a φ)

    after_transition :
        (w : List ℕ) (e a x : ℕ) (φ : Formula B) → on (x ∷ w) e (transition a φ) ≡ on w e (cond (eqb a x) φ truth)
    after_transition w e a x φ = ap (λ y. on w e y.1) (step_transition events In meet top x a φ)

    on_output : (e a : ℕ) (b : B) → on [] e (output a b) ≡ cond (eqb a e) b top
    on_output e a b = ap (λ x. x.0) (step_output events In meet top e a b)

    after_output : (w : List ℕ) (e a x : ℕ) (b : B) → on (x ∷ w) e (output a b) ≡ top
    after_output w e a x b = ap (λ y. on w e y.1) (step_output events In meet top x a b) ∙ on_truth w e

    on_greatest : (w : List ℕ) (e : ℕ) (φ : Formula B) → Good (greatest φ) → on w e (greatest φ) ≡ on w e (unfolded φ)
    on_greatest [] e φ g = ap (λ x. x.0) (step_greatest events In meet top e φ g)
    on_greatest (a ∷ w) e φ g = ap (λ x. on w e x.1) (step_greatest events In meet top a φ g)

    -- A V has its state's value on the sequence w, then e; so has all that is written.
    abbrev GreatestOn : List ℕ → ℕ → Type 0
    GreatestOn w e =
        (path : List ℕ) (σ : List (Formula B)) (s : ℕ) (φ : Formula B) →
        Binders path σ → Branches m events (s ∷ path) s zero φ → s < n →
        on w e (greatest (instantiate 1 σ φ)) ≡ m.value (after m s w) e

    tree_on :
        (w : List ℕ) (e : ℕ) → GreatestOn w e → (path : List ℕ) (σ : List (Formula B)) → Binders path σ →
        {s : ℕ} {φ : Formula B} → Tree m events path s φ → s < n → on w e (instantiate zero σ φ) ≡ m.value (after m s w) e
    tree_on w e f path σ v {s} (bound {i = i} o) l =
        let b : BinderOf s (nth σ i) = binder_of v o in
        ap (on w e)
        (instantiate_variable σ i (all_closed events In σ (binders_good v)) (rw (binders_length v) (open_below o)) ∙ b.is_it)
        ∙ f b.path b.σ s b.φ b.above_it b.its_rows b.its_state
    tree_on w e f path σ v {s} (binding {φ = φ} c r) l =
        ap (on w e) (instantiate_greatest zero σ φ) ∙ f path σ s φ v r l

    greatest_on : (w : List ℕ) → Word events w → (e : ℕ) → e < events → GreatestOn w e
    greatest_on [] h e u path σ s φ v r l =
        let g : Good (greatest (instantiate 1 σ φ)) = good_greatest path σ (binders_good v) (binders_length v) r l in
        on_greatest [] e (instantiate 1 σ φ) g
        ∙ val_at (on [] e) (on_in [] e) (conjunction_values events In meet top [] e) e u
        (λ a χ d. on_transition e a χ)
        (λ a b d. on_output e a b ∙ ap (λ t. cond t b top) (ne_eqb a e d))
        (s ∷ path) (greatest (instantiate 1 σ φ) ∷ σ) (g, binders_good v) (ap suc (binders_length v))
        s l (m.value s e) (runs.value_in s l e u)
        (λ χ t. ap₂ meet (on_transition e e _)
        (on_output e e (m.value s e) ∙ ap (λ y. cond y (m.value s e) top) (eq-eqb e e refl))
        ∙ top_meet In meet top laws (m.value s e) (runs.value_in s l e u))
        r zero-le
    greatest_on (x ∷ w) h e u path σ s φ v r l =
        let g : Good (greatest (instantiate 1 σ φ)) = good_greatest path σ (binders_good v) (binders_length v) r l in
        let l' : m.next s x < n = runs.next_in s l x h.0 in
        let c_in : In (m.value (after m (m.next s x) w) e) = machine_in w h.1 e u (m.next s x) l' in
        on_greatest (x ∷ w) e (instantiate 1 σ φ) g
        ∙ val_at (on (x ∷ w) e) (on_in (x ∷ w) e) (conjunction_values events In meet top (x ∷ w) e) x h.0
        (λ a χ d. after_transition w e a x χ ∙ ap (λ t. on w e (cond t χ truth)) (ne_eqb a x d) ∙ on_truth w e)
        (λ a b d. after_output w e a x b)
        (s ∷ path) (greatest (instantiate 1 σ φ) ∷ σ) (g, binders_good v) (ap suc (binders_length v))
        s l (m.value (after m (m.next s x) w) e) c_in
        (λ χ t. ap₂ meet
        (after_transition w e x x (instantiate zero (greatest (instantiate 1 σ φ) ∷ σ) χ)
        ∙ ap (λ t. on w e (cond t (instantiate zero (greatest (instantiate 1 σ φ) ∷ σ) χ) truth)) (eq-eqb x x refl)
        ∙ tree_on w e (greatest_on w h.1 e u) (s ∷ path) (greatest (instantiate 1 σ φ) ∷ σ) (one_binder v r l) t l')
        (after_output w e x x (m.value s x))
        ∙ laws.neutral (m.value (after m (m.next s x) w) e) c_in)
        r zero-le

    -- On every event sequence a formula written for a state has the state's value.
    pub writes_values :
        {s : ℕ} {φ : Formula B} → Writes m events [] s φ → s < n → (w : List ℕ) → Word events w → (e : ℕ) → e < events →
        value meet top e (after (formulas meet top) φ w) ≡ m.value (after m s w) e
    writes_values t l w h e u = tree_on w e (greatest_on w h e u) [] [] no_binder (writes_tree m events t) l
