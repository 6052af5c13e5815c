-- The formula of a table: one and only one is written for each start; its size is known from its V nodes; and it is closed, of
-- the grammar and within the set-up. All is shown by induction on how a formula is written.
use mathlib.Core.{Path.{◌≡◌, refl, sym, ◌∙◌, ap, ap₂, subst, subst⁻¹}, Bool.{Bool, true, false, cond}, Logic.{◌⊎◌, inl, inr}}
use mathlib.Core.List.Memᴰ
use mathlib.Core.{List.{List, [], ◌∷◌, Memᴰ}, Option.{none, some}}
use Prim.Native.Nat.{ℕ, zero, suc, ◌+◌, ◌*◌, ◌≤◌, ◌<◌, zero-le, suc-le-suc}
use native.Mathlib.{Nat.{mul-suc, mul-add, mul_assoc, suc-mul}, Omega.{arith}}
use lib.{Dec.{eqb}, ListN.{length}}
use borrow.Author.Tests.{eqb-true, eqb-false}
use Rattle.theory.specs.Formula.{Formula, truth, variable, transition, output, conjunction, greatest, size}
use Rattle.theory.specs.FormulaClasses.{binders, FreeBelow, OpenPosition, ClosedPosition, Fits, WellFormed, Accepted}
use Rattle.theory.specs.BinderDepth.{binder_depth}
use Rattle.theory.specs.MealyMachine.{Machine, States, Runs}
use Rattle.theory.specs.CharacteristicFormula.{OpenAt, here, above, Writes, already_open, opened, Rows, last_row, row}
use Rattle.theory.specs.FormulaWriting.{one_more, open_at, variable_or, rows, write, written}
use Rattle.theory.proofs.{Substitution.{closed_position_guarded}, DistinctLists.{Distinct, distinct_below}}

-- ---- where a state is open on a path
first_or : ℕ → List ℕ → ℕ
first_or d [] = d
first_or d (t ∷ path) = t

rest_of : List ℕ → List ℕ
rest_of [] = []
rest_of (t ∷ path) = path

-- It is stated for two equal paths, so that each place is read by itself.
open_same : {s : ℕ} {path path' : List ℕ} {i j : ℕ} → path ≡ path' → OpenAt s path i → OpenAt s path' j → i ≡ j
unfolding first_or rest_of
open_same e here here = refl
open_same {s} e here (above d o) = absurd (d (ap (first_or s) e))
open_same {s} e (above d o) here = absurd (d (sym (ap (first_or s) e)))
open_same e (above d o) (above c p) = ap suc (open_same (ap rest_of e) o p)

pub open_one : {s : ℕ} {path : List ℕ} {i j : ℕ} → OpenAt s path i → OpenAt s path j → i ≡ j
open_one o p = open_same refl o p

pub open_below : {s : ℕ} {path : List ℕ} {i : ℕ} → OpenAt s path i → i < length path
open_below here = suc-le-suc zero-le
open_below (above d o) = suc-le-suc (open_below o)

open_head : {s t : ℕ} (path : List ℕ) → s ≡ t → OpenAt s (t ∷ path) zero
open_head {s} path e = subst (λ x. OpenAt s (x ∷ path) zero) e here

-- A state that is not open is not on the path.
not_on_path : (s : ℕ) (path : List ℕ) → ((i : ℕ) → ¬ OpenAt s path i) → Memᴰ s path → ⊥
not_on_path s [] c h = elim h [ ]
not_on_path s (t ∷ path) c (Memᴰ.head e) = c zero (open_head path e)
not_on_path s (t ∷ path) c (Memᴰ.tail h) =
    not_on_path s path (λ i o. c (suc i) (above (λ e. c zero (open_head path e)) o)) h

open_not_first :
    {s t : ℕ} {path : List ℕ} → ¬ (s ≡ t) → ((i : ℕ) → ¬ OpenAt s path i) → (i : ℕ) → ¬ OpenAt s (t ∷ path) i
open_not_first d c zero here = d refl
open_not_first d c (suc i) (above d' o) = c i o

-- The computed number is the one, and none is computed only where there is none.
abbrev Found : ℕ → List ℕ → Type 0
Found s path =
    ((i : ℕ) × OpenAt s path i × (open_at s path ≡ some i)) ⊎ (((i : ℕ) → ¬ OpenAt s path i) × (open_at s path ≡ none))

found : (s : ℕ) (path : List ℕ) → Found s path
found s [] = inr ((λ i o. elim o [ ]), refl)
found s (t ∷ path) = go (eqb s t) refl (found s path)
  where
    first : {b : Bool} → eqb s t ≡ b → open_at s (t ∷ path) ≡ cond b (some zero) (one_more (open_at s path))
    first e = ap (λ b. cond b (some zero) (one_more (open_at s path))) e

    go : (b : Bool) → eqb s t ≡ b → Found s path → Found s (t ∷ path)
    go true e f = inl (zero, open_head path (eqb-true s t e), first e)
    go false e (inl f) = inl (suc f.0, above (eqb-false s t e) f.1, first e ∙ ap one_more f.2)
    go false e (inr f) = inr (open_not_first (eqb-false s t e) f.0, first e ∙ ap one_more f.1)

module _ {B : Type 0} (m : Machine ℕ B) (events : ℕ) where
  -- ---- `Writes` and `Rows` again, with the O value by an equation, for induction on both together
  mutual
    pub data Tree : List ℕ → ℕ → Formula B → Type 0 where
      bound : {path : List ℕ} {s i : ℕ} → OpenAt s path i → Tree path s (variable i)
      binding :
          {path : List ℕ} {s : ℕ} {φ : Formula B} →
          ((i : ℕ) → ¬ OpenAt s path i) → Branches (s ∷ path) s zero φ → Tree path s (greatest φ)

    pub data Branches : List ℕ → ℕ → ℕ → Formula B → Type 0 where
      last_branch :
          {path : List ℕ} {s e : ℕ} {b : B} {φ : Formula B} →
          suc e ≡ events → b ≡ m.value s e → Tree path (m.next s e) φ →
          Branches path s e (conjunction (transition e φ) (output e b))
      branch :
          {path : List ℕ} {s e : ℕ} {b : B} {φ χ : Formula B} →
          suc e < events → b ≡ m.value s e → Tree path (m.next s e) φ → Branches path s (suc e) χ →
          Branches path s e (conjunction (transition e φ) (conjunction (output e b) χ))

  -- Up to size k the one gives the other.
  record TreesTo (k : ℕ) : Type 0 where
    tree : {path : List ℕ} {s : ℕ} {φ : Formula B} → Writes m events path s φ → size φ ≤ k → Tree path s φ
    branches : {path : List ℕ} {s e : ℕ} {φ : Formula B} → Rows m events path s e φ → size φ ≤ k → Branches path s e φ

  tree_step :
      (k : ℕ) → TreesTo k → {path : List ℕ} {s : ℕ} {φ : Formula B} → Writes m events path s φ → size φ ≤ suc k →
      Tree path s φ
  tree_step k f (already_open o) h = bound o
  tree_step k f (opened c r) h = binding c (f.branches r (omega arith))

  branches_step :
      (k : ℕ) → TreesTo k → {path : List ℕ} {s e : ℕ} {φ : Formula B} → Rows m events path s e φ → size φ ≤ suc k →
      Branches path s e φ
  branches_step k f (last_row l w) h = last_branch l refl (f.tree w (omega arith))
  branches_step k f (row l w r) h = branch l refl (f.tree w (omega arith)) (f.branches r (omega arith))

  size_positive : (φ : Formula B) → 0 < size φ
  size_positive truth = omega arith
  size_positive (variable n) = omega arith
  size_positive (transition e φ) = omega arith
  size_positive (output e b) = omega arith
  size_positive (conjunction φ χ) = omega arith
  size_positive (greatest φ) = omega arith

  trees_to : (k : ℕ) → TreesTo k
  trees_to zero =
      record {
        tree = λ {path} {s} {φ} w h. absurd (omega (arith, size_positive φ));
        branches = λ {path} {s} {e} {φ} r h. absurd (omega (arith, size_positive φ));
      }
  trees_to (suc k) = record { tree = tree_step k (trees_to k); branches = branches_step k (trees_to k) }

  pub writes_tree : {path : List ℕ} {s : ℕ} {φ : Formula B} → Writes m events path s φ → Tree path s φ
  writes_tree {φ = φ} w = (trees_to (size φ)).tree w (omega arith)

  -- ---- at most one formula is written
  mutual
    tree_one : {path : List ℕ} {s : ℕ} {φ χ : Formula B} → Tree path s φ → Tree path s χ → φ ≡ χ
    tree_one (bound o) (bound p) = ap variable (open_one o p)
    tree_one (bound {i = i} o) (binding c r) = absurd (c i o)
    tree_one (binding c r) (bound {i = i} o) = absurd (c i o)
    tree_one (binding c r) (binding c' r') = ap greatest (branches_one r r')

    branches_one : {path : List ℕ} {s e : ℕ} {φ χ : Formula B} → Branches path s e φ → Branches path s e χ → φ ≡ χ
    branches_one (last_branch {e = e} h p w) (last_branch h' p' w') =
        ap₂ (λ b φ. conjunction (transition e φ) (output e b)) (p ∙ sym p') (tree_one w w')
    branches_one (last_branch h p w) (branch h' p' w' r') = absurd (omega arith)
    branches_one (branch h p w r) (last_branch h' p' w') = absurd (omega arith)
    branches_one (branch {e = e} h p w r) (branch h' p' w' r') =
        ap₂ (λ b φ. conjunction (transition e φ) b)
        (ap₂ (λ b χ. conjunction (output e b) χ) (p ∙ sym p') (branches_one r r')) (tree_one w w')

  pub writes_one :
      {path : List ℕ} {s : ℕ} {φ χ : Formula B} → Writes m events path s φ → Writes m events path s χ → φ ≡ χ
  writes_one w w' = tree_one (writes_tree w) (writes_tree w')

  -- ---- its variables and positions
  mutual
    pub tree_free : {path : List ℕ} {s : ℕ} {φ : Formula B} → Tree path s φ → FreeBelow (length path) φ
    tree_free (bound o) = open_below o
    tree_free (binding c r) = branches_free r

    pub branches_free : {path : List ℕ} {s e : ℕ} {φ : Formula B} → Branches path s e φ → FreeBelow (length path) φ
    branches_free (last_branch h p w) = (tree_free w, tt)
    branches_free (branch h p w r) = (tree_free w, (tt, branches_free r))

  mutual
    pub tree_position : {path : List ℕ} {s : ℕ} {φ : Formula B} → Tree path s φ → OpenPosition φ
    tree_position (bound o) = tt
    tree_position (binding c r) = branches_position r

    pub branches_position : {path : List ℕ} {s e : ℕ} {φ : Formula B} → Branches path s e φ → ClosedPosition φ
    branches_position (last_branch h p w) = (tree_position w, tt)
    branches_position (branch h p w r) = (tree_position w, (tt, branches_position r))

  -- ---- its size: with r rows to come, each row adds its part, 4 nodes and the part's binders
  mutual
    pub tree_size :
        {path : List ℕ} {s : ℕ} {φ : Formula B} → Tree path s φ → size φ + binders φ ≡ suc (5 * events * binders φ)
    tree_size (bound o) = omega arith
    tree_size (binding {φ = φ} c r) =
        omega (arith, branches_size r events (omega arith), mul-suc (5 * events) (binders φ))

    branches_size :
        {path : List ℕ} {s e : ℕ} {φ : Formula B} → Branches path s e φ → (r : ℕ) → e + r ≡ events →
        suc (size φ + binders φ) ≡ 5 * r + 5 * events * binders φ
    branches_size (last_branch {φ = φ} h p w) r q =
        omega (arith, tree_size w)
    branches_size (branch {φ = φ} {χ = χ} h p w b) zero q = absurd (omega arith)
    branches_size (branch {φ = φ} {χ = χ} h p w b) (suc r) q =
        omega (arith, tree_size w, branches_size b r (omega arith), mul-add (5 * events) (binders φ) (binders χ))

  module _ (In : B → Type 0) (n : ℕ) (runs : Runs events In (States n) m) where
    -- ---- its events and values
    mutual
      pub tree_fits : {path : List ℕ} {s : ℕ} {φ : Formula B} → Tree path s φ → s < n → Fits events In φ
      tree_fits (bound o) l = tt
      tree_fits (binding c r) l = branches_fits r l

      pub branches_fits : {path : List ℕ} {s e : ℕ} {φ : Formula B} → Branches path s e φ → s < n → Fits events In φ
      branches_fits (last_branch {s = s} {e = e} h p w) l =
          let u : e < events = omega arith in
          ((u, tree_fits w (runs.next_in s l e u)), (u, subst⁻¹ In p (runs.value_in s l e u)))
      branches_fits (branch {s = s} {e = e} h p w r) l =
          let u : e < events = omega arith in
          ((u, tree_fits w (runs.next_in s l e u)), ((u, subst⁻¹ In p (runs.value_in s l e u)), branches_fits r l))

    -- ---- a formula is written: the states of the path are different and below n, and so at most n
    abbrev AllBelow : List ℕ → Type 0
    AllBelow path = (t : ℕ) → Memᴰ t path → t < n

    all_below : {s : ℕ} {path : List ℕ} → s < n → AllBelow path → AllBelow (s ∷ path)
    all_below l a t (Memᴰ.head e) = subst⁻¹ (λ x. x < n) e l
    all_below l a t (Memᴰ.tail i) = a t i

    rows_written :
        (path : List ℕ) (f : ℕ → Formula B) → ((t : ℕ) → t < n → Writes m events path t (f t)) →
        (s : ℕ) → s < n → (c e : ℕ) → e + suc c ≡ events → Rows m events path s e (rows m f s e c)
    rows_written path f h s l zero e q = last_row {e = e} (omega arith) (h (m.next s e) (runs.next_in s l e (omega arith)))
    rows_written path f h s l (suc c) e q =
        row {e = e} (omega arith) (h (m.next s e) (runs.next_in s l e (omega arith)))
        (rows_written path f h s l c (suc e) (omega arith))

    module _ (last : ℕ) (ev : events ≡ suc last) where
      written_as :
          (left : ℕ) (path : List ℕ) (s i : ℕ) → open_at s path ≡ some i → variable i ≡ write m last left path s
      written_as zero path s i e = ap (λ o. variable_or o truth) (sym e)
      written_as (suc left) path s i e =
          ap (λ o. variable_or o (greatest (rows m (write m last left (s ∷ path)) s zero last))) (sym e)

      write_writes :
          (left : ℕ) (path : List ℕ) → Distinct path → AllBelow path → n ≤ left + length path →
          (s : ℕ) → s < n → Writes m events path s (write m last left path s)
      write_writes zero path d a k s l = go (found s path)
        where
          go : Found s path → Writes m events path s (write m last zero path s)
          go (inl f) = subst (Writes m events path s) (written_as zero path s f.0 f.2) (already_open f.1)
          go (inr f) = absurd (omega (arith, distinct_below n (s ∷ path) (not_on_path s path f.0, d) (all_below l a)))
      write_writes (suc left) path d a k s l =
          go (found s path) (λ c. write_writes left (s ∷ path) c (all_below l a) (omega arith))
        where
          go :
              Found s path →
              (Distinct (s ∷ path) → (t : ℕ) → t < n → Writes m events (s ∷ path) t (write m last left (s ∷ path) t)) →
              Writes m events path s (write m last (suc left) path s)
          go (inl f) ih = subst (Writes m events path s) (written_as (suc left) path s f.0 f.2) (already_open f.1)
          go (inr f) ih =
              subst⁻¹
              (λ o. Writes m events path s (variable_or o (greatest (rows m (write m last left (s ∷ path)) s zero last))))
              f.1
              (opened f.0
              (rows_written (s ∷ path) (write m last left (s ∷ path)) (ih (not_on_path s path f.0, d))
              s l last zero (omega arith)))

      -- The written formula is written.
      pub written_writes : (s : ℕ) → s < n → Writes m events [] s (written m n last s)
      written_writes s l = write_writes n [] tt (λ t i. absurd (Memᴰ.not-nil i)) (omega arith) s l

  -- A formula that is written at the root is a V, of the grammar.
  pub root_position : {s : ℕ} {φ : Formula B} → Tree [] s φ → ClosedPosition φ
  root_position (bound o) = elim o [ ]
  root_position (binding c r) = branches_position r

  -- ---- how many V nodes fit
  pub writes_size :
      {path : List ℕ} {s : ℕ} {φ : Formula B} → Writes m events path s φ →
      size φ + binders φ ≡ suc (5 * (events * binders φ))
  writes_size {φ = φ} w = omega (arith, tree_size (writes_tree w), mul_assoc 5 events (binders φ))

  pub binders_size :
      (last : ℕ) → events ≡ suc last → {path : List ℕ} {s : ℕ} {φ : Formula B} → Writes m events path s φ →
      4 * (events * binders φ) < size φ
  binders_size last ev {φ = φ} w =
      omega (arith, writes_size w, ap (λ x. x * binders φ) ev, suc-mul last (binders φ))

  -- A written formula of at most 256 nodes has at most 63 V nodes.
  pub few_binders :
      (last : ℕ) → events ≡ suc last → {path : List ℕ} {s : ℕ} {φ : Formula B} → Writes m events path s φ →
      size φ ≤ 256 → binders φ ≤ 63
  few_binders last ev {φ = φ} w h =
      omega (arith, binders_size last ev w, ap (λ x. x * binders φ) ev, suc-mul last (binders φ))

-- Each formula written for a state of a table is well-formed, and accepted where it is not over the limit of nodes.
module _ {B : Type 0} (m : Machine ℕ B) (events : ℕ) (In : B → Type 0) (n : ℕ) (runs : Runs events In (States n) m) where
  pub writes_well_formed : {s : ℕ} {φ : Formula B} → Writes m events [] s φ → s < n → WellFormed events In φ
  writes_well_formed {φ = φ} w l =
      let t = writes_tree m events w in
      record {
        closed = tree_free m events t;
        guarded = closed_position_guarded φ (root_position m events t);
        fits = tree_fits m events In n runs t l;
      }

  pub writes_accepted :
      (nodes depth : ℕ) {s : ℕ} {φ : Formula B} → Writes m events [] s φ → s < n → size φ ≤ nodes → binder_depth φ ≤ depth
      → Accepted nodes depth events In φ
  writes_accepted nodes depth w l h d = record { within = h; shallow = d; well_formed = writes_well_formed w l }
