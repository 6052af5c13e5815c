-- The table of a written formula has one state for each V node: each V's demands are reached, along the G nodes on the way to
-- it, and nothing else is.
use mathlib.Core.{Path.{◌≡◌, refl, sym, ◌∙◌, ap, subst}, Bool.{false, ◌&&◌, cond}, Logic.{◌⊎◌, inl, inr, ⊎_elim}}
use mathlib.Core.List.Memᴰ
use mathlib.Core.List.{List, [], ◌∷◌, ◌++◌, map, Memᴰ}
use Prim.Native.Nat.{ℕ, zero, suc, ◌+◌, ◌≤◌, ◌<◌, zero-le}
use native.Mathlib.{Nat.{le_of_suc-le-suc, not-suc-le-zero, eq-or-lt_of_le}, Omega.{arith}}
use lib.{Dec.{eqb}, ListN.{length, get_or, length-map, get_or-map}}
use Rattle.theory.specs.Formula.{Formula, transition, output, conjunction, greatest, size}
use Rattle.theory.specs.FormulaClasses.{binders, ClosedPosition}
use Rattle.theory.specs.MealyMachine.{Machine, Word, after}
use Rattle.theory.specs.ReachableStates.{NodeSet, Numbering, IsTable}
use Rattle.theory.specs.{CharacteristicFormula.{Writes}, DemandSets.{empty, union, binder_set, demands, moved, set_machine, first_set}}
use Rattle.theory.proofs.{NodeSets.{union_empty, empty_union}, WordOrder.{word_append}, ReachableStates.{after_append}}
use Rattle.theory.proofs.DistinctLists.{distinct_length, member_at, number_of, distinct_by_number}
use Rattle.theory.proofs.CharacteristicFormula.{Tree, bound, binding, Branches, last_branch, branch, open_below, writes_tree, tree_position, branches_position}
use Rattle.theory.proofs.CharacteristicSets.{demands_below, demands_beyond, demands_alone, moved_clear, binder_sets, length_binder_sets, part_node}
use Rattle.theory.proofs.CharacteristicSets.{rest_node, Agrees, agrees_rest, moved_own, to_part, to_rest, tree_distinct}

-- ---- the parts of a formula, with the demands of the binders above each
module _ {B : Type 0} (Φ : Formula B) where
  data Place : ℕ → List NodeSet → Formula B → Type 0 where
    root : Place zero [] Φ
    in_transition : {i : ℕ} {ρ : List NodeSet} {e : ℕ} {φ : Formula B} → Place i ρ (transition e φ) → Place (suc i) ρ φ
    in_left : {i : ℕ} {ρ : List NodeSet} {φ χ : Formula B} → Place i ρ (conjunction φ χ) → Place (suc i) ρ φ
    in_right : {i : ℕ} {ρ : List NodeSet} {φ χ : Formula B} → Place i ρ (conjunction φ χ) → Place (suc i + size φ) ρ χ
    in_greatest :
        {i : ℕ} {ρ : List NodeSet} {φ : Formula B} → Place i ρ (greatest φ) → Place (suc i) (demands ρ i (greatest φ) ∷ ρ) φ

  abbrev all_sets : List NodeSet
  all_sets = binder_sets [] zero Φ

  place_sets :
      {i : ℕ} {ρ : List NodeSet} {φ : Formula B} → Place i ρ φ → {D : NodeSet} → Memᴰ D (binder_sets ρ i φ) →
      Memᴰ D all_sets
  place_sets root h = h
  place_sets (in_transition p) h = place_sets p h
  place_sets (in_left {i = i} {ρ = ρ} {φ = φ} {χ = χ} p) h =
      place_sets p (Memᴰ.append_left (binder_sets ρ (suc i + size φ) χ) h)
  place_sets (in_right {i = i} {ρ = ρ} {φ = φ} {χ = χ} p) h =
      place_sets p (Memᴰ.append_right (binder_sets ρ (suc i) φ) h)
  place_sets (in_greatest p) h = place_sets p (Memᴰ.tail h)

  -- A set of nodes of one part moves within that part.
  record Within (D : NodeSet) (i : ℕ) (φ : Formula B) : Type 0 where
    below : (d : ℕ) → d < i → D d ≡ false
    beyond : (d : ℕ) → i + size φ ≤ d → D d ≡ false

  within_more :
      (D : NodeSet) {i j : ℕ} {φ : Formula B} (χ : Formula B) → Within D i φ → j ≤ i → i + size φ ≤ j + size χ → Within D j χ
  within_more D χ h p q =
      record { below = λ d l. h.below d (omega arith); beyond = λ d l. h.beyond d (omega arith) }

  moved_place :
      (D : NodeSet) (e : ℕ) {i : ℕ} {ρ : List NodeSet} {φ : Formula B} → Place i ρ φ → Within D i φ →
      moved D e [] zero Φ ≡ moved D e ρ i φ
  moved_place D e root h = refl
  moved_place D e (in_transition {i = i} {ρ = ρ} {e = a} {φ = φ} p) h =
      moved_place D e p (within_more D (transition a φ) h (omega arith) (omega arith))
      ∙ ap (λ t. union (cond (t && eqb a e) (demands ρ (suc i) φ) empty) (moved D e ρ (suc i) φ)) (h.below i (omega arith))
      ∙ empty_union (moved D e ρ (suc i) φ)
  moved_place D e (in_left {i = i} {ρ = ρ} {φ = φ} {χ = χ} p) h =
      moved_place D e p (within_more D (conjunction φ χ) h (omega arith) (omega arith))
      ∙ ap (union (moved D e ρ (suc i) φ))
      (moved_clear D e ρ (suc i + size φ) χ (λ d l u. h.beyond d (omega arith)))
      ∙ union_empty (moved D e ρ (suc i) φ)
  moved_place D e (in_right {i = i} {ρ = ρ} {φ = φ} {χ = χ} p) h =
      moved_place D e p (within_more D (conjunction φ χ) h (omega arith) (omega arith))
      ∙ ap (λ X. union X (moved D e ρ (suc i + size φ) χ))
      (moved_clear D e ρ (suc i) φ (λ d l u. h.below d (omega arith)))
      ∙ empty_union (moved D e ρ (suc i + size φ) χ)
  moved_place D e (in_greatest {φ = φ} p) h =
      moved_place D e p (within_more D (greatest φ) h (omega arith) (omega arith))

  -- ---- the sets that event sequences reach
  module _ (m : Machine ℕ B) (events : ℕ) (meet : B → B → B) (top : B) where
    abbrev next_set : NodeSet → ℕ → NodeSet
    next_set D e = moved D e [] zero Φ

    abbrev reaches : List ℕ → NodeSet
    reaches w = after (set_machine meet top Φ) (first_set Φ) w

    abbrev Reached : NodeSet → Type 0
    Reached D = (w : List ℕ) × Word events w × (reaches w ≡ D)

    -- From each set of a V each event leads to such a set.
    abbrev NextInSets : NodeSet → Type 0
    NextInSets D = (e : ℕ) → e < events → Memᴰ (next_set D e) all_sets

    reached_next : {D : NodeSet} (e : ℕ) → e < events → Reached D → Reached (next_set D e)
    reached_next e u r = (
      r.0 ++ (e ∷ []),
      word_append events r.0 (e ∷ []) r.1 (u, tt),
      after_append (set_machine meet top Φ) (first_set Φ) r.0 (e ∷ []) ∙ ap (λ X. next_set X e) r.2,
    )

    -- The sets put for the variables of the path are sets of V nodes.
    abbrev Inherits : List ℕ → List NodeSet → Type 0
    Inherits path ρ = (k : ℕ) → k < length path → Memᴰ (binder_set ρ k) all_sets

    inherits_more :
        (s : ℕ) (path : List ℕ) (ρ : List NodeSet) (D : NodeSet) →
        Memᴰ D all_sets → Inherits path ρ → Inherits (s ∷ path) (D ∷ ρ)
    inherits_more s path ρ D h f zero l = h
    inherits_more s path ρ D h f (suc k) l = f k (le_of_suc-le-suc l)

    tree_set :
        {path : List ℕ} {s i : ℕ} {ρ : List NodeSet} {φ : Formula B} →
        Tree m events path s φ → Place i ρ φ → Inherits path ρ → Memᴰ (demands ρ i φ) all_sets
    tree_set (bound {i = k} o) p f = f k (open_below o)
    tree_set (binding c r) p f = place_sets p (Memᴰ.head refl)

    rows_next :
        (D : NodeSet) {path : List ℕ} {s a i : ℕ} {ρ : List NodeSet} {χ : Formula B} →
        Branches m events path s a χ → Place i ρ χ → Inherits path ρ → Agrees D ρ i χ →
        (x : ℕ) → a ≤ x → x < events → Memᴰ (moved D x ρ i χ) all_sets
    rows_next D {i = i} {ρ = ρ} (last_branch {e = e} {b = b} {φ = φ} h p w) q f g x l u =
        subst (λ y. Memᴰ (moved D y ρ i (conjunction (transition e φ) (output e b))) all_sets) (omega arith)
        (Memᴰ.cast (moved_own D ρ i e φ (output e b) tt g refl) (tree_set w (in_transition (in_left q)) f))
    rows_next D {i = i} {ρ = ρ} (branch {s = s} {e = e} {b = b} {φ = φ} {χ = χ} h p w r) q f g x l u =
        go (eq-or-lt_of_le l)
        (λ v. rows_next D r (in_right (in_right q)) f (agrees_rest D ρ i e φ b χ (tree_position m events w) g) x v u)
      where
        go :
            (e ≡ x) ⊎ (e < x) → (e < x → Memᴰ (moved D x ρ (rest_node i φ) χ) all_sets) →
            Memᴰ (moved D x ρ i (conjunction (transition e φ) (conjunction (output e b) χ))) all_sets
        go (inl v) k =
            subst (λ y. Memᴰ (moved D y ρ i (conjunction (transition e φ) (conjunction (output e b) χ))) all_sets) v
            (Memᴰ.cast (to_part m events D i ρ h p w r g) (tree_set w (in_transition (in_left q)) f))
        go (inr v) k = Memᴰ.cast (to_rest m events D x b φ i ρ v r g) (k v)

    -- The set of a V at i, below binders with the sets ρ, among the nodes of its part and beside them.
    module _ {i : ℕ} {ρ : List NodeSet} {φ : Formula B} (place : Place i ρ (greatest φ)) (closed : ClosedPosition φ) where
      abbrev own : NodeSet
      own = demands ρ i (greatest φ)

      own_agrees : Agrees own (own ∷ ρ) (suc i) φ
      own_agrees d l u = ap (λ X. X d) (demands_alone (empty ∷ ρ) (own ∷ ρ) (suc i) φ closed)

      own_next : (x : ℕ) → next_set own x ≡ moved own x (own ∷ ρ) (suc i) φ
      own_next x =
          moved_place own x (in_greatest place)
          (record {
            below = demands_below (empty ∷ ρ) (suc i) φ closed;
            beyond = demands_beyond (empty ∷ ρ) (suc i) φ closed;
          })

    -- Each V's set is reached, and each event leads from it to a V's set.
    mutual
      visit_tree :
          {path : List ℕ} {s i : ℕ} {ρ : List NodeSet} {φ : Formula B} →
          Tree m events path s φ → Place i ρ φ → Inherits path ρ → Reached (demands ρ i φ) →
          {D : NodeSet} → Memᴰ D (binder_sets ρ i φ) → Reached D × NextInSets D
      visit_tree (bound o) q f v h = absurd (Memᴰ.not-nil h)
      visit_tree {path} {s} {i} {ρ} (binding {φ = φ} c r) q f v h =
          let k : ClosedPosition φ = branches_position m events r in
          let g : Inherits (s ∷ path) (own q k ∷ ρ) =
          inherits_more s path ρ (own q k) (place_sets q (Memᴰ.head refl)) f in
          ⊎_elim
          (λ e. (
            (v.0, v.1, v.2 ∙ sym e),
            (λ x u. Memᴰ.cast (ap (λ X. next_set X x) e ∙ own_next q k x)
                (rows_next (own q k) r (in_greatest q) g (own_agrees q k) x zero-le u)),
          ))
          (λ j. visit_rows (own q k) r (in_greatest q) g (own_agrees q k) v (λ x l u. own_next q k x) j)
          (Memᴰ.cases_cons h)

      visit_rows :
          (E : NodeSet) {path : List ℕ} {s a i : ℕ} {ρ : List NodeSet} {χ : Formula B} →
          Branches m events path s a χ → Place i ρ χ → Inherits path ρ → Agrees E ρ i χ → Reached E →
          ((x : ℕ) → a ≤ x → x < events → next_set E x ≡ moved E x ρ i χ) →
          {D : NodeSet} → Memᴰ D (binder_sets ρ i χ) → Reached D × NextInSets D
      visit_rows E {i = i} {ρ = ρ} (last_branch {e = e} {b = b} {φ = φ} h p w) q f g v t j =
          let u : e < events = omega arith in
          visit_tree w (in_transition (in_left q)) f
          (subst Reached (t e (omega arith) u ∙ moved_own E ρ i e φ (output e b) tt g refl) (reached_next e u v))
          (⊎_elim (λ k. k) (λ k. absurd (Memᴰ.not-nil k)) (Memᴰ.append_cases (binder_sets ρ (part_node i) φ) j))
      visit_rows E {i = i} {ρ = ρ} (branch {e = e} {b = b} {φ = φ} {χ = χ} h p w r) q f g v t j =
          let u : e < events = omega arith in
          ⊎_elim
          (λ k. visit_tree w (in_transition (in_left q)) f
          (subst Reached (t e (omega arith) u ∙ to_part m events E i ρ h p w r g) (reached_next e u v)) k)
          (λ k. visit_rows E r (in_right (in_right q)) f (agrees_rest E ρ i e φ b χ (tree_position m events w) g) v
          (λ x l k. t x (omega arith) k ∙ to_rest m events E x b φ i ρ l r g) k)
          (Memᴰ.append_cases (binder_sets ρ (part_node i) φ) j)

    -- ---- the sets that are reached are those of the V nodes, for a formula that is written at the root
    module _ {s : ℕ} (tree : Tree m events [] s Φ) where
      none_inherited : Inherits [] []
      none_inherited k l = absurd (not-suc-le-zero l)

      set_reached : {D : NodeSet} → Memᴰ D all_sets → Reached D
      set_reached h = (visit_tree tree root none_inherited ([], tt, refl) h).0

      after_in :
          (w : List ℕ) → Word events w → (D : NodeSet) → Memᴰ D all_sets →
          Memᴰ (after (set_machine meet top Φ) D w) all_sets
      after_in [] v D h = h
      after_in (e ∷ w) v D h =
          after_in w v.1 (next_set D e) ((visit_tree tree root none_inherited ([], tt, refl) h).1 e v.0)

      reached_in : (w : List ℕ) → Word events w → Memᴰ (reaches w) all_sets
      reached_in w v = after_in w v (first_set Φ) (tree_set tree root none_inherited)

      -- The states that a list of sequences reaches.
      abbrev states_of : List (List ℕ) → List NodeSet
      states_of W = map reaches W

      state_of : (W : List (List ℕ)) (l : ℕ) → get_or (states_of W) l (first_set Φ) ≡ reaches (get_or W l [])
      state_of W l = get_or-map reaches W l []

      -- Sequences to different states are at most as many as the V nodes.
      pub states_at_most :
          (W : List (List ℕ)) → ((l : ℕ) → l < length W → Word events (get_or W l [])) →
          ((j l : ℕ) → j < l → l < length W → ¬ (reaches (get_or W j []) ≡ reaches (get_or W l []))) → length W ≤ binders Φ
      states_at_most W words different =
          omega (
            arith,
            length-map W reaches,
            length_binder_sets [] zero Φ,
            distinct_length (states_of W) all_sets
                (distinct_by_number (states_of W) (first_set Φ)
                (λ j l u v e. different j l u (omega (arith, length-map W reaches)) (sym (state_of W j) ∙ e ∙ state_of W l)))
                (λ D h. within D (number_of (states_of W) (first_set Φ) h)),
          )
        where
          within :
              (D : NodeSet) → (l : ℕ) × (l < length (states_of W)) × (D ≡ get_or (states_of W) l (first_set Φ)) →
              Memᴰ D all_sets
          within D r =
              Memᴰ.cast (r.2 ∙ state_of W r.0)
              (reached_in (get_or W r.0 []) (words r.0 (omega (arith, length-map W reaches, r.1))))

      -- The states of the formula's table are as many as its V nodes.
      pub states_count :
          (W : List (List ℕ)) → Numbering events (set_machine meet top Φ) (first_set Φ) W → length W ≡ binders Φ
      states_count W v =
          omega (
            arith,
            length-map W reaches,
            length_binder_sets [] zero Φ,
            states_at_most W v.words v.different,
            distinct_length all_sets (states_of W) (tree_distinct m events tree [] zero) (λ D h. numbered D (set_reached h)),
          )
        where
          numbered : (D : NodeSet) → Reached D → Memᴰ D (states_of W)
          numbered D r =
              let c = v.complete r.0 r.1 in
              Memᴰ.cast (sym r.2 ∙ sym c.2 ∙ sym (state_of W c.0))
              (member_at (states_of W) (first_set Φ) c.0 (omega (arith, length-map W reaches, c.1)))

-- The table of a formula that is written for a state has one state for each V node.
module _ {B : Type 0} (m : Machine ℕ B) (events : ℕ) (meet : B → B → B) (top : B) where
  pub table_count :
      {s : ℕ} {φ : Formula B} → Writes m events [] s φ → (k : ℕ) (t : Machine ℕ B) →
      IsTable events (set_machine meet top φ) (first_set φ) k t → k ≡ binders φ
  table_count {φ = φ} w k t h =
      sym h.count ∙ states_count φ m events meet top (writes_tree m events w) h.sequences h.numbering
