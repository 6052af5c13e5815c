-- The demands of the V nodes of a written formula: each has the G and O nodes of its own rows, so that no two are equal, and
-- each event leads from it to the demands of the part of its row for that event.
use mathlib.Core.{Path.{◌≡◌, refl, ◌∙◌, ap, ap₂, subst⁻¹}, Bool.{Bool, true, false, ◌||◌, ◌&&◌, cond}, Logic.{⊎_elim}}
use mathlib.Core.List.Memᴰ
use mathlib.Core.List.{List, [], ◌∷◌, ◌++◌, Memᴰ}
use Prim.Native.Nat.{ℕ, suc, ◌+◌, ◌≤◌, ◌<◌}
use native.Mathlib.{Omega.{arith}, Decide.{dec_lt}}
use lib.{Dec.{eqb}, ListN.{length, length-append}}
use borrow.Author.Tests.{eq-eqb, ne_eqb}
use Rattle.theory.specs.Formula.{Formula, truth, variable, transition, output, conjunction, greatest, size}
use Rattle.theory.specs.FormulaClasses.{binders, OpenPosition, ClosedPosition}
use Rattle.theory.specs.MealyMachine.{Machine}
use Rattle.theory.specs.ReachableStates.{NodeSet}
use Rattle.theory.specs.DemandSets.{empty, union, demands, moved}
use Rattle.theory.proofs.{NodeSets.{union_empty, empty_union, only_self, only_other}, DistinctLists.{Distinct, distinct_append}}
use Rattle.theory.proofs.CharacteristicFormula.{Tree, bound, binding, Branches, last_branch, branch, tree_position, branches_position}

-- ---- sets of nodes
module _ {B : Type 0} where
  -- ---- the demands of a formula at a closed position are nodes of its own, whatever the binders above it demand
  pub demands_below :
      (ρ : List NodeSet) (i : ℕ) (φ : Formula B) → ClosedPosition φ → (d : ℕ) → d < i → demands ρ i φ d ≡ false
  unfolding empty union
  demands_below ρ i truth h d l = refl
  demands_below ρ i (variable n) h d l = absurd h
  demands_below ρ i (transition e φ) h d l = only_other i d (omega arith)
  demands_below ρ i (output e b) h d l = only_other i d (omega arith)
  demands_below ρ i (conjunction φ χ) h d l =
      ap₂ ◌||◌ (demands_below ρ (suc i) φ h.0 d (omega arith))
      (demands_below ρ (suc i + size φ) χ h.1 d (omega arith))
  demands_below ρ i (greatest φ) h d l = demands_below (empty ∷ ρ) (suc i) φ h d (omega arith)

  pub demands_beyond :
      (ρ : List NodeSet) (i : ℕ) (φ : Formula B) → ClosedPosition φ → (d : ℕ) → i + size φ ≤ d → demands ρ i φ d ≡ false
  unfolding empty union
  demands_beyond ρ i truth h d l = refl
  demands_beyond ρ i (variable n) h d l = absurd h
  demands_beyond ρ i (transition e φ) h d l = only_other i d (omega arith)
  demands_beyond ρ i (output e b) h d l = only_other i d (omega arith)
  demands_beyond ρ i (conjunction φ χ) h d l =
      ap₂ ◌||◌ (demands_beyond ρ (suc i) φ h.0 d (omega arith))
      (demands_beyond ρ (suc i + size φ) χ h.1 d (omega arith))
  demands_beyond ρ i (greatest φ) h d l = demands_beyond (empty ∷ ρ) (suc i) φ h d (omega arith)

  pub demands_alone : (ρ σ : List NodeSet) (i : ℕ) (φ : Formula B) → ClosedPosition φ → demands ρ i φ ≡ demands σ i φ
  demands_alone ρ σ i truth h = refl
  demands_alone ρ σ i (variable n) h = absurd h
  demands_alone ρ σ i (transition e φ) h = refl
  demands_alone ρ σ i (output e b) h = refl
  demands_alone ρ σ i (conjunction φ χ) h =
      ap₂ union (demands_alone ρ σ (suc i) φ h.0) (demands_alone ρ σ (suc i + size φ) χ h.1)
  demands_alone ρ σ i (greatest φ) h = demands_alone (empty ∷ ρ) (empty ∷ σ) (suc i) φ h

  conjunction_below :
      (ρ : List NodeSet) (i : ℕ) (φ χ : Formula B) → ClosedPosition φ → ClosedPosition χ →
      (d : ℕ) → d < suc i → demands ρ i (conjunction φ χ) d ≡ false
  unfolding union
  conjunction_below ρ i φ χ c c' d l =
      ap₂ ◌||◌ (demands_below ρ (suc i) φ c d l) (demands_below ρ (suc i + size φ) χ c' d (omega arith))

  -- ---- what has no node of D moves nowhere
  abbrev pub Clear : NodeSet → ℕ → Formula B → Type 0
  Clear D i φ = (d : ℕ) → i ≤ d → d < i + size φ → D d ≡ false

  pub moved_clear : (D : NodeSet) (e : ℕ) (ρ : List NodeSet) (i : ℕ) (φ : Formula B) → Clear D i φ → moved D e ρ i φ ≡ empty
  moved_clear D e ρ i truth h = refl
  moved_clear D e ρ i (variable n) h = refl
  moved_clear D e ρ i (transition a φ) h =
      ap₂ (λ t X. union (cond (t && eqb a e) (demands ρ (suc i) φ) empty) X) (h i (omega arith) (omega arith))
      (moved_clear D e ρ (suc i) φ (λ d l u. h d (omega arith) (omega arith)))
      ∙ empty_union empty
  moved_clear D e ρ i (output a b) h = refl
  moved_clear D e ρ i (conjunction φ χ) h =
      ap₂ union (moved_clear D e ρ (suc i) φ (λ d l u. h d (omega arith) (omega arith)))
      (moved_clear D e ρ (suc i + size φ) χ (λ d l u. h d (omega arith) (omega arith)))
      ∙ empty_union empty
  moved_clear D e ρ i (greatest φ) h =
      moved_clear D e (demands ρ i (greatest φ) ∷ ρ) (suc i) φ (λ d l u. h d (omega arith) (omega arith))

  -- ---- the demands of the V nodes, in prefix order
  abbrev pub binder_sets : List NodeSet → ℕ → Formula B → List NodeSet
  binder_sets ρ i truth = []
  binder_sets ρ i (variable n) = []
  binder_sets ρ i (transition e φ) = binder_sets ρ (suc i) φ
  binder_sets ρ i (output e b) = []
  binder_sets ρ i (conjunction φ χ) = binder_sets ρ (suc i) φ ++ binder_sets ρ (suc i + size φ) χ
  binder_sets ρ i (greatest φ) = demands ρ i (greatest φ) ∷ binder_sets (demands ρ i (greatest φ) ∷ ρ) (suc i) φ

  pub length_binder_sets : (ρ : List NodeSet) (i : ℕ) (φ : Formula B) → length (binder_sets ρ i φ) ≡ binders φ
  length_binder_sets ρ i truth = refl
  length_binder_sets ρ i (variable n) = refl
  length_binder_sets ρ i (transition e φ) = length_binder_sets ρ (suc i) φ
  length_binder_sets ρ i (output e b) = refl
  length_binder_sets ρ i (conjunction φ χ) =
      length-append (binder_sets ρ (suc i) φ) (binder_sets ρ (suc i + size φ) χ)
      ∙ ap₂ ◌+◌ (length_binder_sets ρ (suc i) φ) (length_binder_sets ρ (suc i + size φ) χ)
  length_binder_sets ρ i (greatest φ) = ap suc (length_binder_sets (demands ρ i (greatest φ) ∷ ρ) (suc i) φ)

-- ---- the rows of a V. The row at node i has its part φ at `part_node i`. At `tail_node i φ` stands its O alone, or A of its O
-- and the later rows, which then stand at `rest_node i φ`.
abbrev pub part_node : ℕ → ℕ
part_node i = suc (suc i)

module _ {B : Type 0} where
  abbrev pub tail_node : ℕ → Formula B → ℕ
  tail_node i φ = suc i + suc (size φ)

  abbrev pub rest_node : ℕ → Formula B → ℕ
  rest_node i φ = suc (tail_node i φ) + 1

  -- Among the nodes of φ, D has the demands of φ.
  abbrev pub Agrees : NodeSet → List NodeSet → ℕ → Formula B → Type 0
  Agrees D ρ i φ = (d : ℕ) → i ≤ d → d < i + size φ → D d ≡ demands ρ i φ d

  agrees_right :
      (D : NodeSet) (ρ : List NodeSet) (i : ℕ) (φ χ : Formula B) → ClosedPosition φ →
      Agrees D ρ i (conjunction φ χ) → Agrees D ρ (suc i + size φ) χ
  unfolding union
  agrees_right D ρ i φ χ c h d l u =
      h d (omega arith) (omega arith)
      ∙ ap (λ t. t || demands ρ (suc i + size φ) χ d) (demands_beyond ρ (suc i) φ c d (omega arith))

  pub agrees_rest :
      (D : NodeSet) (ρ : List NodeSet) (i e : ℕ) (φ : Formula B) (b : B) (χ : Formula B) → OpenPosition φ →
      Agrees D ρ i (conjunction (transition e φ) (conjunction (output e b) χ)) → Agrees D ρ (rest_node i φ) χ
  agrees_rest D ρ i e φ b χ o h =
      agrees_right D ρ (tail_node i φ) (output e b) χ tt
      (agrees_right D ρ i (transition e φ) (conjunction (output e b) χ) o h)

  -- The first node that a row demands is its G.
  row_demands : (ρ : List NodeSet) (i e : ℕ) (φ χ : Formula B) → demands ρ i (conjunction (transition e φ) χ) (suc i) ≡ true
  unfolding union
  row_demands ρ i e φ χ = ap (λ t. t || demands ρ (tail_node i φ) χ (suc i)) (only_self (suc i))

  -- D has a row's G and no node of its part: the row's event leads to the part's demands, others lead where the tail leads.
  module _ (D : NodeSet) (ρ : List NodeSet) (i e : ℕ) (φ χ : Formula B) (closed : ClosedPosition χ)
      (agrees : Agrees D ρ i (conjunction (transition e φ) χ)) where
    part_clear : Clear D (part_node i) φ
    unfolding union
    part_clear d l u =
        agrees d (omega arith) (omega arith)
        ∙ ap₂ ◌||◌ (only_other (suc i) d (omega arith)) (demands_below ρ (tail_node i φ) χ closed d (omega arith))

    moved_row :
        (x : ℕ) →
        moved D x ρ i (conjunction (transition e φ) χ)
        ≡ union (cond (eqb e x) (demands ρ (part_node i) φ) empty) (moved D x ρ (tail_node i φ) χ)
    moved_row x =
        ap₂ (λ t X. union (union (cond (t && eqb e x) (demands ρ (part_node i) φ) empty) X) (moved D x ρ (tail_node i φ) χ))
        (agrees (suc i) (omega arith) (omega arith) ∙ row_demands ρ i e φ χ)
        (moved_clear D x ρ (part_node i) φ part_clear)
        ∙ ap (λ X. union X (moved D x ρ (tail_node i φ) χ)) (union_empty (cond (eqb e x) (demands ρ (part_node i) φ) empty))

    pub moved_own :
        moved D e ρ (tail_node i φ) χ ≡ empty →
        moved D e ρ i (conjunction (transition e φ) χ) ≡ demands ρ (part_node i) φ
    moved_own h =
        moved_row e
        ∙ ap₂ (λ t X. union (cond t (demands ρ (part_node i) φ) empty) X) (eq-eqb e e refl) h
        ∙ union_empty (demands ρ (part_node i) φ)

    pub moved_other :
        (x : ℕ) → ¬ (e ≡ x) → moved D x ρ i (conjunction (transition e φ) χ) ≡ moved D x ρ (tail_node i φ) χ
    moved_other x d =
        moved_row x
        ∙ ap (λ t. union (cond t (demands ρ (part_node i) φ) empty) (moved D x ρ (tail_node i φ) χ)) (ne_eqb e x d)
        ∙ empty_union (moved D x ρ (tail_node i φ) χ)

module _ {B : Type 0} (m : Machine ℕ B) (events : ℕ) where
  -- The rows of later events lead nowhere.
  moved_later :
      (D : NodeSet) (x : ℕ) (ρ : List NodeSet) (i : ℕ) {path : List ℕ} {s a : ℕ} {χ : Formula B} →
      Branches m events path s a χ → Agrees D ρ i χ → x < a → moved D x ρ i χ ≡ empty
  moved_later D x ρ i (last_branch {e = e} {b = b} {φ = φ} h p w) g l =
      moved_other D ρ i e φ (output e b) tt g x (omega arith)
  moved_later D x ρ i (branch {e = e} {b = b} {φ = φ} {χ = χ} h p w r) g l =
      moved_other D ρ i e φ (conjunction (output e b) χ) (tt, branches_position m events r) g x (omega arith)
      ∙ ap (union empty)
      (moved_later D x ρ (rest_node i φ) r (agrees_rest D ρ i e φ b χ (tree_position m events w) g) (omega arith))
      ∙ empty_union empty

  -- The event of a row leads to the demands of its part; that of a later row where the later rows lead.
  pub to_part :
      (D : NodeSet) {path : List ℕ} {s e : ℕ} {b : B} {φ χ : Formula B} (i : ℕ) (ρ : List NodeSet) →
      suc e < events → b ≡ m.value s e → Tree m events path (m.next s e) φ → Branches m events path s (suc e) χ →
      Agrees D ρ i (conjunction (transition e φ) (conjunction (output e b) χ)) →
      moved D e ρ i (conjunction (transition e φ) (conjunction (output e b) χ)) ≡ demands ρ (part_node i) φ
  to_part D {e = e} {b = b} {φ = φ} {χ = χ} i ρ h p w r g =
      moved_own D ρ i e φ (conjunction (output e b) χ) (tt, branches_position m events r) g
      (ap (union empty)
      (moved_later D e ρ (rest_node i φ) r (agrees_rest D ρ i e φ b χ (tree_position m events w) g) (omega arith))
      ∙ empty_union empty)

  pub to_rest :
      (D : NodeSet) (x : ℕ) {path : List ℕ} {s e : ℕ} (b : B) (φ : Formula B) {χ : Formula B} (i : ℕ) (ρ : List NodeSet) →
      e < x → Branches m events path s (suc e) χ →
      Agrees D ρ i (conjunction (transition e φ) (conjunction (output e b) χ)) →
      moved D x ρ i (conjunction (transition e φ) (conjunction (output e b) χ)) ≡ moved D x ρ (rest_node i φ) χ
  to_rest D x {e = e} b φ {χ = χ} i ρ h r g =
      moved_other D ρ i e φ (conjunction (output e b) χ) (tt, branches_position m events r) g x (omega arith)
      ∙ empty_union (moved D x ρ (rest_node i φ) χ)

  -- ---- the sets of two V nodes differ: the first node of a V's set is its first G, two after the V
  rows_first :
      (ρ : List NodeSet) (i : ℕ) {path : List ℕ} {s a : ℕ} {χ : Formula B} → Branches m events path s a χ →
      demands ρ i χ (suc i) ≡ true
  rows_first ρ i (last_branch {e = e} {b = b} {φ = φ} h p w) = row_demands ρ i e φ (output e b)
  rows_first ρ i (branch {e = e} {b = b} {φ = φ} {χ = χ} h p w r) = row_demands ρ i e φ (conjunction (output e b) χ)

  rows_below :
      (ρ : List NodeSet) (i : ℕ) {path : List ℕ} {s a : ℕ} {χ : Formula B} → Branches m events path s a χ →
      (d : ℕ) → d < suc i → demands ρ i χ d ≡ false
  rows_below ρ i (last_branch {e = e} {b = b} {φ = φ} h p w) =
      conjunction_below ρ i (transition e φ) (output e b) (tree_position m events w) tt
  rows_below ρ i (branch {e = e} {b = b} {φ = φ} {χ = χ} h p w r) =
      conjunction_below ρ i (transition e φ) (conjunction (output e b) χ) (tree_position m events w)
      (tt, branches_position m events r)

  -- D has a node, and none but those from i + 2 to i + k.
  record Among (i k : ℕ) (D : NodeSet) : Type 0 where
    low : (d : ℕ) → d < suc (suc i) → D d ≡ false
    high : (d : ℕ) → i + k ≤ d → D d ≡ false
    node : ℕ
    has : D node ≡ true

  among_more : {i k : ℕ} {D : NodeSet} (j l : ℕ) → j ≤ i → i + k ≤ j + l → Among i k D → Among j l D
  among_more j l p q a =
      record {
        low = λ d u. a.low d (omega arith);
        high = λ d u. a.high d (omega arith);
        node = a.node;
        has = a.has;
      }

  true_not_false : {b : Bool} → b ≡ true → b ≡ false → ⊥
  true_not_false p q = let z : ◌≡◌ {A = ℕ} 0 1 = cc in omega arith

  mutual
    tree_among :
        {path : List ℕ} {s : ℕ} {φ : Formula B} → Tree m events path s φ → (ρ : List NodeSet) (i : ℕ) →
        {D : NodeSet} → Memᴰ D (binder_sets ρ i φ) → Among i (size φ) D
    tree_among (bound o) ρ i h = absurd (Memᴰ.not-nil h)
    tree_among (binding {φ = φ} c r) ρ i h =
        ⊎_elim
        (λ e. subst⁻¹ (Among i (suc (size φ))) e
        (record {
          low = rows_below (empty ∷ ρ) (suc i) r;
          high = λ d u. demands_beyond (empty ∷ ρ) (suc i) φ (branches_position m events r) d (omega arith);
          node = suc (suc i);
          has = rows_first (empty ∷ ρ) (suc i) r;
        }))
        (λ j. among_more i (suc (size φ)) (omega arith) (omega arith) (rows_among r (demands ρ i (greatest φ) ∷ ρ) (suc i) j))
        (Memᴰ.cases_cons h)

    rows_among :
        {path : List ℕ} {s a : ℕ} {χ : Formula B} → Branches m events path s a χ → (ρ : List NodeSet) (i : ℕ) →
        {D : NodeSet} → Memᴰ D (binder_sets ρ i χ) → Among i (size χ) D
    rows_among (last_branch {e = e} {b = b} {φ = φ} h p w) ρ i j =
        ⊎_elim
        (λ k. among_more i (size (conjunction (transition e φ) (output e b))) (omega arith) (omega arith)
        (tree_among w ρ (part_node i) k))
        (λ k. absurd (Memᴰ.not-nil k)) (Memᴰ.append_cases (binder_sets ρ (part_node i) φ) j)
    rows_among (branch {e = e} {b = b} {φ = φ} {χ = χ} h p w r) ρ i j =
        ⊎_elim
        (λ k. among_more i (size (conjunction (transition e φ) (conjunction (output e b) χ))) (omega arith) (omega arith)
        (tree_among w ρ (part_node i) k))
        (λ k. among_more i (size (conjunction (transition e φ) (conjunction (output e b) χ))) (omega arith) (omega arith)
        (rows_among r ρ (rest_node i φ) k))
        (Memᴰ.append_cases (binder_sets ρ (part_node i) φ) j)

  -- No set is both of a row's part and of the later rows.
  apart : {k : ℕ} {D : NodeSet} (i : ℕ) (φ : Formula B) → Among (part_node i) (size φ) D → Among (rest_node i φ) k D → ⊥
  apart {k} {D} i φ a b = true_not_false a.has (go (dec_lt a.node (part_node i + size φ)))
    where
      go : Dec (a.node < part_node i + size φ) → D a.node ≡ false
      go (yes l) = b.low a.node (omega arith)
      go (no l) = a.high a.node (omega arith)

  mutual
    pub tree_distinct :
        {path : List ℕ} {s : ℕ} {φ : Formula B} → Tree m events path s φ → (ρ : List NodeSet) (i : ℕ) →
        Distinct (binder_sets ρ i φ)
    tree_distinct (bound o) ρ i = tt
    tree_distinct (binding {φ = φ} c r) ρ i = (
      (λ j. true_not_false (rows_first (empty ∷ ρ) (suc i) r)
          ((rows_among r (demands ρ i (greatest φ) ∷ ρ) (suc i) j).low (suc (suc i)) (omega arith))),
      rows_distinct r (demands ρ i (greatest φ) ∷ ρ) (suc i),
    )

    rows_distinct :
        {path : List ℕ} {s a : ℕ} {χ : Formula B} → Branches m events path s a χ → (ρ : List NodeSet) (i : ℕ) →
        Distinct (binder_sets ρ i χ)
    rows_distinct (last_branch {φ = φ} h p w) ρ i =
        distinct_append (binder_sets ρ (part_node i) φ) [] (tree_distinct w ρ (part_node i)) tt (λ z j k. Memᴰ.not-nil k)
    rows_distinct (branch {φ = φ} {χ = χ} h p w r) ρ i =
        distinct_append (binder_sets ρ (part_node i) φ) (binder_sets ρ (rest_node i φ) χ)
        (tree_distinct w ρ (part_node i)) (rows_distinct r ρ (rest_node i φ))
        (λ z j k. apart i φ (tree_among w ρ (part_node i) j) (rows_among r ρ (rest_node i φ) k))
