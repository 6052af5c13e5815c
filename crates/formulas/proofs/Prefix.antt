-- Formulas in prefix order: the nodes of a formula are those of no other, and nodes begin a formula or are begun by one.
use mathlib.Core.{Path.{◌≡◌, refl, sym, ◌∙◌, ap, ap₂, subst}, Option.{Option, none, some}, List.{List, [], ◌∷◌, ◌++◌, append_assoc, append-nil}}
use Prim.Native.Nat.{ℕ, zero, suc, ◌+◌}
use native.Mathlib.Omega.{arith}
use lib.{ListN.{length, drop, replicate, length-append, length-replicate}, Seq.{drop_at}}
use Rattle.theory.specs.Formula.{Formula, truth, variable, transition, output, conjunction, greatest, size}
use Rattle.theory.specs.Formula.{Node, truth_node, variable_node, transition_node, output_node, conjunction_node, greatest_node, nodes}
use Rattle.formulas.specs.NodeCode.{kind_number}
use Rattle.std.specs.Prelude.{Option as StdOption, Some, None}
use Rattle.formulas.specs.declared.NodeKind.{NodeKind, TheVariants.{Truth, Variable, Transition, Output, Conjunction, Greatest}}
use Rattle.formulas.specs.RuleReading.{kind_of, awaited, end_fault, node_of, nodes_from, with_parts, formulas, first_formula, formula_read}

module _ {B : Type 0} where
  pub length_nodes : (φ : Formula B) → length (nodes φ) ≡ size φ
  length_nodes truth = refl
  length_nodes (variable n) = refl
  length_nodes (transition e φ) = ap suc (length_nodes φ)
  length_nodes (output e b) = refl
  length_nodes (conjunction φ χ) = ap suc (length-append (nodes φ) (nodes χ) ∙ ap₂ ◌+◌ (length_nodes φ) (length_nodes χ))
  length_nodes (greatest φ) = ap suc (length_nodes φ)

  -- What is read from nodes that begin with a formula's is that formula, then what is read from the others.
  pub formulas_nodes : (φ : Formula B) (ns : List (Node B)) → formulas (nodes φ ++ ns) ≡ φ ∷ formulas ns
  unfolding formulas with_parts
  formulas_nodes truth ns = refl
  formulas_nodes (variable n) ns = refl
  formulas_nodes (transition e φ) ns = ap (with_parts (transition_node e)) (formulas_nodes φ ns)
  formulas_nodes (output e b) ns = refl
  formulas_nodes (conjunction φ χ) ns =
      ap (λ l. with_parts conjunction_node (formulas l)) (append_assoc (nodes φ) (nodes χ) ns)
      ∙ ap (with_parts conjunction_node) (formulas_nodes φ (nodes χ ++ ns) ∙ ap (λ l. φ ∷ l) (formulas_nodes χ ns))
  formulas_nodes (greatest φ) ns = ap (with_parts greatest_node) (formulas_nodes φ ns)

  pub first_is : (φ : Formula B) (ns : List (Node B)) → first_formula (formulas (nodes φ ++ ns)) ≡ φ
  unfolding first_formula
  first_is φ ns = ap first_formula (formulas_nodes φ ns)

  -- The prefix code is uniquely decodable.
  pub nodes_unique : (φ χ : Formula B) (ms ns : List (Node B)) → nodes φ ++ ms ≡ nodes χ ++ ns → (φ ≡ χ) × (ms ≡ ns)
  nodes_unique φ χ ms ns e = (same, rest)
    where
      same : φ ≡ χ
      same = sym (first_is φ ms) ∙ ap (λ l. first_formula (formulas l)) e ∙ first_is χ ns

      rest : ms ≡ ns
      rest =
          sym (drop_at (nodes φ) ms (size φ) (length_nodes φ))
          ∙ ap (drop (size φ)) e
          ∙ drop_at (nodes χ) ns (size φ) (length_nodes χ ∙ ap size (sym same))

  -- The nodes of several formulas.
  abbrev pub all_nodes : List (Formula B) → List (Node B)
  all_nodes [] = []
  all_nodes (φ ∷ φs) = nodes φ ++ all_nodes φs

  -- How many parts a node awaits is how many formulas it takes.
  abbrev parts_after : Node B → ℕ → ℕ
  parts_after n k = awaited (kind_of (kind_number n)) k

  join_count : (n : Node B) (φs : List (Formula B)) (k : ℕ) → length φs ≡ parts_after n k → length (with_parts n φs) ≡ suc k
  unfolding with_parts awaited kind_of
  join_count truth_node φs k e = ap suc e
  join_count (variable_node n) φs k e = ap suc e
  join_count (transition_node a) [] k e = absurd (omega (arith, e))
  join_count (transition_node a) (φ ∷ φs) k e = e
  join_count (output_node a b) φs k e = ap suc e
  join_count conjunction_node [] k e = absurd (omega (arith, e))
  join_count conjunction_node (φ ∷ []) k e = absurd (omega (arith, e))
  join_count conjunction_node (φ ∷ χ ∷ φs) k e = omega (arith, e)
  join_count greatest_node [] k e = absurd (omega (arith, e))
  join_count greatest_node (φ ∷ φs) k e = e

  join_nodes : (n : Node B) (φs : List (Formula B)) (k : ℕ) → length φs ≡ parts_after n k → all_nodes (with_parts n φs) ≡ n ∷ all_nodes φs
  unfolding with_parts awaited kind_of
  join_nodes truth_node φs k e = refl
  join_nodes (variable_node n) φs k e = refl
  join_nodes (transition_node a) [] k e = absurd (omega (arith, e))
  join_nodes (transition_node a) (φ ∷ φs) k e = refl
  join_nodes (output_node a b) φs k e = refl
  join_nodes conjunction_node [] k e = absurd (omega (arith, e))
  join_nodes conjunction_node (φ ∷ []) k e = absurd (omega (arith, e))
  join_nodes conjunction_node (φ ∷ χ ∷ φs) k e = ap (λ l. conjunction_node ∷ l) (append_assoc (nodes φ) (nodes χ) (all_nodes φs))
  join_nodes greatest_node [] k e = absurd (omega (arith, e))
  join_nodes greatest_node (φ ∷ φs) k e = refl

  -- What the nodes of a list are, against k awaited formulas: these whole, with nodes left over, or cut short.
  pub data Outcome (ns : List (Node B)) (k i : ℕ) : Option ℕ → Type 0 where
    whole : (φs : List (Formula B)) → length φs ≡ k → ns ≡ all_nodes φs → Outcome ns k i none
    over :
        (φs : List (Formula B)) (m : Node B) (ms : List (Node B)) (p : ℕ) → length φs ≡ k → ns ≡ all_nodes φs ++ (m ∷ ms)
        → p ≡ i + length (all_nodes φs) → Outcome ns k i (some p)
    short :
        (φs : List (Formula B)) (m : Node B) (ms : List (Node B)) (p : ℕ) → length φs ≡ k → ns ++ (m ∷ ms) ≡ all_nodes φs
        → p ≡ i + length ns → Outcome ns k i (some p)

  -- One node more in front.
  outcome_cons :
      (n : Node B) (ns : List (Node B)) (k i : ℕ) (o : Option ℕ) → Outcome ns (parts_after n k) (suc i) o → Outcome (n ∷ ns) (suc k) i o
  outcome_cons n ns k i _ (whole φs e d) =
      whole (with_parts n φs) (join_count n φs k e) (ap (λ l. n ∷ l) d ∙ sym (join_nodes n φs k e))
  outcome_cons n ns k i _ (over φs m ms p e d z) =
      let j : all_nodes (with_parts n φs) ≡ n ∷ all_nodes φs = join_nodes n φs k e in
      over (with_parts n φs) m ms p (join_count n φs k e)
      (ap (λ l. n ∷ l) d ∙ sym (ap (λ l. l ++ (m ∷ ms)) j))
      (omega (arith, z, ap length j))
  outcome_cons n ns k i _ (short φs m ms p e d z) =
      short (with_parts n φs) m ms p (join_count n φs k e) (ap (λ l. n ∷ l) d ∙ sym (join_nodes n φs k e)) (omega (arith, z))

  module _ (kind first : ℕ → ℕ) (value : ℕ → B) where
    -- An unknown kind counts as T here and there.
    parts_same : (c : StdOption NodeKind) (a : ℕ) (b : B) (k : ℕ) → parts_after (node_of c a b) k ≡ awaited c k
    unfolding node_of awaited kind_of
    parts_same (Some Truth) a b k = refl
    parts_same (Some Variable) a b k = refl
    parts_same (Some Transition) a b k = refl
    parts_same (Some Output) a b k = refl
    parts_same (Some Conjunction) a b k = refl
    parts_same (Some Greatest) a b k = refl
    parts_same None a b k = refl

    -- 7's walk finds which it is, with its place.
    pub outcome : (left k i : ℕ) → Outcome (nodes_from kind first value left i) k i (end_fault kind k left i)
    unfolding nodes_from end_fault
    outcome zero zero i = whole [] refl refl
    outcome zero (suc k) i =
        short (replicate (suc k) truth) truth_node (all_nodes (replicate k truth)) i (length-replicate (suc k) truth) refl (omega arith)
    outcome (suc left) zero i =
        over [] (node_of (kind_of (kind i)) (first i) (value i)) (nodes_from kind first value left (suc i)) i refl refl (omega arith)
    outcome (suc left) (suc k) i =
        let n : Node B = node_of (kind_of (kind i)) (first i) (value i) in
        outcome_cons n (nodes_from kind first value left (suc i)) k i (end_fault kind (awaited (kind_of (kind i)) k) left (suc i))
        (subst (λ x. Outcome (nodes_from kind first value left (suc i)) x (suc i) (end_fault kind (awaited (kind_of (kind i)) k) left (suc i)))
        (sym (parts_same (kind_of (kind i)) (first i) (value i) k))
        (outcome left (awaited (kind_of (kind i)) k) (suc i)))

    pub length_from : (left i : ℕ) → length (nodes_from kind first value left i) ≡ left
    unfolding nodes_from
    length_from zero i = refl
    length_from (suc left) i = ap suc (length_from left (suc i))

    -- No fault: the nodes are those of one formula, the one that is read.
    pub no_fault :
        (count : ℕ) → end_fault kind 1 count 0 ≡ none → nodes_from kind first value count 0 ≡ nodes (formula_read kind first value count)
    unfolding formula_read
    no_fault count e = go (end_fault kind 1 count 0) e (outcome count 1 0)
      where
        one :
            (φs : List (Formula B)) → length φs ≡ 1 → nodes_from kind first value count 0 ≡ all_nodes φs
            → nodes_from kind first value count 0 ≡ nodes (first_formula (formulas (nodes_from kind first value count 0)))
        one [] l d = absurd (omega (arith, l))
        one (φ ∷ []) l d =
            d ∙ append-nil (nodes φ) ∙ ap nodes (sym (ap (λ ns. first_formula (formulas ns)) d ∙ first_is φ []))
        one (φ ∷ χ ∷ φs) l d = absurd (omega (arith, l))

        go :
            (o : Option ℕ) → o ≡ none → Outcome (nodes_from kind first value count 0) 1 0 o
            → nodes_from kind first value count 0 ≡ nodes (first_formula (formulas (nodes_from kind first value count 0)))
        go none e (whole φs l d) = one φs l d
        go (some p) e w = let z : ◌≡◌ {A = ℕ} 0 1 = cc in absurd (omega arith)
