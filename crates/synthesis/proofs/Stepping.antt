-- The next set, node by node from the rows, is the next set of the formula's machine.
use mathlib.Core.{Path.{◌≡◌, refl, sym, ◌∙◌, ap, ap₂, fun_ext}, Bool.{Bool, true, false, ◌||◌, ◌&&◌, cond, or_assoc, and-false}}
use mathlib.Core.List.{List, [], ◌∷◌}
use Prim.Native.Nat.{ℕ, zero, suc, ◌+◌, ◌<◌}
use native.Mathlib.Omega.{arith}
use borrow.Author.Tests.{eq-eqb, ne_eqb}
use lib.Dec.{eqb}
use Rattle.theory.specs.Formula.{Formula, truth, variable, transition, output, conjunction, greatest, size}
use Rattle.theory.specs.ReachableStates.{NodeSet}
use Rattle.theory.specs.DemandSets.{empty, union, demands, moved}
use Rattle.formulas.specs.{NodeReading.{Reads}, NodeWalks.{field}}
use Rattle.formulas.proofs.Walking.{size_positive}
use Rattle.synthesis.specs.{NodeWords.{row}, Exploring.{some_in, for_event, brings, stepped}, KeptDemands.{RowsKept}}
use Rattle.synthesis.proofs.KeptSets.{kept_of, kept_first, kept_left, kept_right}

some_split : (p : ℕ → Bool) (i n m : ℕ) → some_in p i (n + m) ≡ some_in p i n || some_in p (i + n) m
some_split p i zero m =
    let a : zero + m ≡ m = omega arith in
    let c : i ≡ i + zero = omega arith in
    ap (some_in p i) a ∙ ap (λ x. some_in p x m) c
some_split p i (suc n) m =
    let a : suc n + m ≡ suc (n + m) = omega arith in
    ap (some_in p i) a
    ∙ ap (λ x. p i || x) (some_split p (suc i) n m ∙ ap (λ x. some_in p (suc i) n || some_in p x m) (omega arith))
    ∙ sym (or_assoc (p i) (some_in p (suc i) n) (some_in p (i + suc n) m))

-- A node of another kind, and a node of the kind.
module _ (kinds firsts : List ℕ) (k e i : ℕ) where
  pub other_kind : ¬ (field kinds i ≡ k) → for_event kinds firsts k e i ≡ false
  unfolding for_event
  other_kind h = ap (λ t. t && eqb (field firsts i) e) (ne_eqb (field kinds i) k h)

  pub same_kind : field kinds i ≡ k → for_event kinds firsts k e i ≡ eqb (field firsts i) e
  unfolding for_event
  same_kind h = ap (λ t. t && eqb (field firsts i) e) (eq-eqb (field kinds i) k h)

-- The rows from i on are the sets kept for the formula at i.
abbrev pub KeptFrom : List (List ℕ) → List NodeSet → ℕ → Formula ℕ → Type 0
KeptFrom rows ρ i φ = (n : ℕ) → n < size φ → row rows (i + n) ≡ kept_of ρ i φ n

module _ (kinds firsts : List ℕ) (rows : List (List ℕ)) (value : ℕ → ℕ) (D : NodeSet) (e : ℕ) where
  brings_not : (i k : ℕ) → ¬ (field kinds i ≡ 2) → brings kinds firsts rows D e k i ≡ false
  brings_not i k h =
      ap (λ t. t && row rows (suc i) k) (ap (λ t. D i && t) (other_kind kinds firsts 2 e i h) ∙ and-false (D i))

  cond_at : (t : Bool) (C : NodeSet) (k : ℕ) → cond t C empty k ≡ t && C k
  unfolding empty
  cond_at true C k = refl
  cond_at false C k = refl

  moved_rows :
      (φ : Formula ℕ) (ρ : List NodeSet) (i : ℕ) → Reads (field kinds) (field firsts) value i φ → KeptFrom rows ρ i φ → (k : ℕ) →
      moved D e ρ i φ k ≡ some_in (brings kinds firsts rows D e k) i (size φ)
  unfolding empty union
  moved_rows truth ρ i d v k = sym (ap (λ t. t || false) (brings_not i k (λ q. omega (arith, q, d))))
  moved_rows (variable m) ρ i d v k = sym (ap (λ t. t || false) (brings_not i k (λ q. omega (arith, q, d.0))))
  moved_rows (transition a φ) ρ i d v k =
      let part : KeptFrom rows ρ (suc i) φ = λ n h. ap (row rows) (omega arith) ∙ v (suc n) (omega (arith, h)) in
      let its : row rows (suc i) ≡ demands ρ (suc i) φ
      = ap (row rows) (omega arith) ∙ part 0 (size_positive φ) ∙ kept_first ρ (suc i) φ in
      ap₂ (λ x y. x || y)
      (cond_at (D i && eqb a e) (demands ρ (suc i) φ) k
      ∙ ap₂ (λ x y. x && y)
      (ap (λ t. D i && t) (sym (same_kind kinds firsts 2 e i d.0 ∙ ap (λ x. eqb x e) d.1)))
      (ap (λ C. C k) (sym its)))
      (moved_rows φ ρ (suc i) d.2 part k)
  moved_rows (output a c) ρ i d v k = sym (ap (λ t. t || false) (brings_not i k (λ q. omega (arith, q, d.0))))
  moved_rows (conjunction φ χ) ρ i d v k =
      ap₂ (λ x y. x || y)
      (moved_rows φ ρ (suc i) d.1 (λ n h. ap (row rows) (omega arith) ∙ v (suc n) (omega (arith, h)) ∙ kept_left ρ i φ χ n h) k)
      (moved_rows χ ρ (suc i + size φ) d.2
      (λ n h. ap (row rows) (omega arith) ∙ v (suc (size φ + n)) (omega (arith, h)) ∙ kept_right ρ i φ χ n) k)
      ∙ sym (some_split (brings kinds firsts rows D e k) (suc i) (size φ) (size χ))
      ∙ sym (ap (λ t. t || some_in (brings kinds firsts rows D e k) (suc i) (size φ + size χ))
      (brings_not i k (λ z. omega (arith, z, d.0))))
  moved_rows (greatest φ) ρ i d v k =
      moved_rows φ (demands ρ i (greatest φ) ∷ ρ) (suc i) d.1 (λ n h. ap (row rows) (omega arith) ∙ v (suc n) (omega (arith, h))) k
      ∙ sym (ap (λ t. t || some_in (brings kinds firsts rows D e k) (suc i) (size φ))
      (brings_not i k (λ q. omega (arith, q, d.0))))

-- For a whole formula.
pub stepped_moved :
    (kinds firsts : List ℕ) (rows : List (List ℕ)) (value : ℕ → ℕ) (φ : Formula ℕ) → Reads (field kinds) (field firsts) value 0 φ → RowsKept rows φ →
    (D : NodeSet) (e : ℕ) → stepped kinds firsts rows (size φ) D e ≡ moved D e [] 0 φ
unfolding stepped
stepped_moved kinds firsts rows value φ d kept D e =
    fun_ext λ k. sym (moved_rows kinds firsts rows value D e φ [] 0 d (λ n h. ap (row rows) (omega arith) ∙ kept n h) k)
