-- Nodes reached through accessors are the nodes of a formula exactly if the formula reads there.
use mathlib.Core.{Path.{◌≡◌, refl, sym, ◌∙◌, ap, ap₂}, List.{List, [], ◌∷◌, ◌++◌, append_assoc, append-nil}}
use Prim.Native.Nat.{ℕ, zero, suc, ◌+◌, ◌≤◌, ◌<◌}
use native.Mathlib.Omega.{arith}
use lib.ListN.{length}
use Rattle.theory.specs.Formula.{Formula, truth, variable, transition, output, conjunction, greatest, size}
use Rattle.theory.specs.Formula.{Node, truth_node, variable_node, transition_node, output_node, conjunction_node, greatest_node, nodes}
use Rattle.formulas.specs.NodeCode.{kind_number}
use Rattle.formulas.specs.NodeReading.{Reads}
use Rattle.formulas.specs.RuleReading.{kind_of, node_of, nodes_from}
use Rattle.formulas.proofs.Prefix.{length_nodes, nodes_unique, length_from}

module _ {B : Type 0} where
  -- A known kind is the kind of the node.
  pub kind_kept : (k a : ℕ) (b : B) → k < 6 → kind_number (node_of (kind_of k) a b) ≡ k
  unfolding node_of kind_of
  kind_kept zero a b h = refl
  kind_kept (suc zero) a b h = refl
  kind_kept (suc (suc zero)) a b h = refl
  kind_kept (suc (suc (suc zero))) a b h = refl
  kind_kept (suc (suc (suc (suc zero)))) a b h = refl
  kind_kept (suc (suc (suc (suc (suc zero))))) a b h = refl
  kind_kept (suc (suc (suc (suc (suc (suc k)))))) a b h = absurd (omega arith)

  -- The fields of a node with a known kind.
  module _ (k a : ℕ) (b : B) (h : k < 6) where
    kind_is : (n : Node B) → node_of (kind_of k) a b ≡ n → k ≡ kind_number n
    kind_is n e = sym (kind_kept k a b h) ∙ ap kind_number e

    variable_is : (n : ℕ) → node_of (kind_of k) a b ≡ variable_node n → (k ≡ 1) × (a ≡ n)
    unfolding node_of kind_of
    variable_is n e =
        let i : k ≡ 1 = kind_is (variable_node n) e in
        let f : variable_node a ≡ variable_node n = sym (ap (λ x. node_of (kind_of x) a b) i) ∙ e in
        (i, cc)

    transition_is : (n : ℕ) → node_of (kind_of k) a b ≡ transition_node n → (k ≡ 2) × (a ≡ n)
    unfolding node_of kind_of
    transition_is n e =
        let i : k ≡ 2 = kind_is (transition_node n) e in
        let f : transition_node a ≡ transition_node n = sym (ap (λ x. node_of (kind_of x) a b) i) ∙ e in
        (i, cc)

    output_is : (n : ℕ) (v : B) → node_of (kind_of k) a b ≡ output_node n v → (k ≡ 3) × (a ≡ n) × (b ≡ v)
    unfolding node_of kind_of
    output_is n v e =
        let i : k ≡ 3 = kind_is (output_node n v) e in
        let f : output_node a b ≡ output_node n v = sym (ap (λ x. node_of (kind_of x) a b) i) ∙ e in
        (i, cc, cc)

  module _ (kind first : ℕ → ℕ) (value : ℕ → B) where
    abbrev from : ℕ → ℕ → List (Node B)
    from = nodes_from kind first value

    abbrev Read : ℕ → Formula B → Type 0
    Read = Reads kind first value

    -- The nodes from i on begin with the formula's, and the others follow.
    pub reads_nodes :
        (φ : Formula B) (left i : ℕ) → Read i φ → size φ ≤ left
        → (rest : ℕ) × (left ≡ size φ + rest) × (from left i ≡ nodes φ ++ from rest (i + size φ))
    unfolding nodes_from node_of kind_of
    reads_nodes truth zero i d h = absurd (omega arith)
    reads_nodes (variable n) zero i d h = absurd (omega arith)
    reads_nodes (transition e φ) zero i d h = absurd (omega arith)
    reads_nodes (output e b) zero i d h = absurd (omega arith)
    reads_nodes (conjunction φ χ) zero i d h = absurd (omega arith)
    reads_nodes (greatest φ) zero i d h = absurd (omega arith)
    reads_nodes truth (suc left) i d h =
        let z : suc i ≡ i + 1 = omega arith in
        (left, omega arith, ap₂ (λ x j. node_of (kind_of x) (first i) (value i) ∷ from left j) d z)
    reads_nodes (variable n) (suc left) i d h =
        let z : suc i ≡ i + 1 = omega arith in
        (left, omega arith, ap₂ (λ x j. node_of (kind_of x) (first i) (value i) ∷ from left j) d.0 z ∙ ap (λ x. variable_node x ∷ from left (i + 1)) d.1)
    reads_nodes (transition e φ) (suc left) i d h =
        let w = reads_nodes φ left (suc i) d.2 (omega arith) in
        let z : suc i + size φ ≡ i + suc (size φ) = omega arith in (
          w.0,
          omega (arith, w.1),
          ap₂ (λ x l. node_of (kind_of x) (first i) (value i) ∷ l) d.0 w.2
              ∙ ap₂ (λ x j. transition_node x ∷ (nodes φ ++ from w.0 j)) d.1 z,
        )
    reads_nodes (output e b) (suc left) i d h =
        let z : suc i ≡ i + 1 = omega arith in (
          left,
          omega arith,
          ap₂ (λ x j. node_of (kind_of x) (first i) (value i) ∷ from left j) d.0 z
              ∙ ap₂ (λ x y. output_node x y ∷ from left (i + 1)) d.1 d.2,
        )
    reads_nodes (conjunction φ χ) (suc left) i d h =
        let w = reads_nodes φ left (suc i) d.1 (omega arith) in
        let v = reads_nodes χ w.0 (suc i + size φ) d.2 (omega (arith, w.1)) in
        let z : suc i + size φ + size χ ≡ i + suc (size φ + size χ) = omega arith in (
          v.0,
          omega (arith, w.1, v.1),
          ap₂ (λ x l. node_of (kind_of x) (first i) (value i) ∷ l) d.0 (w.2 ∙ ap (λ l. nodes φ ++ l) v.2)
              ∙ ap (λ l. conjunction_node ∷ l) (sym (append_assoc (nodes φ) (nodes χ) (from v.0 (suc i + size φ + size χ))))
              ∙ ap (λ j. conjunction_node ∷ ((nodes φ ++ nodes χ) ++ from v.0 j)) z,
        )
    reads_nodes (greatest φ) (suc left) i d h =
        let w = reads_nodes φ left (suc i) d.1 (omega arith) in
        let z : suc i + size φ ≡ i + suc (size φ) = omega arith in (
          w.0,
          omega (arith, w.1),
          ap₂ (λ x l. node_of (kind_of x) (first i) (value i) ∷ l) d.0 w.2
              ∙ ap (λ j. greatest_node ∷ (nodes φ ++ from w.0 j)) z,
        )

    -- At most one formula reads at a node.
    pub reads_unique : (φ χ : Formula B) (i : ℕ) → Read i φ → Read i χ → φ ≡ χ
    reads_unique φ χ i d e =
        let w = reads_nodes φ (size φ + size χ) i d (omega arith) in
        let v = reads_nodes χ (size φ + size χ) i e (omega arith) in
        (nodes_unique φ χ (from w.0 (i + size φ)) (from v.0 (i + size χ)) (sym w.2 ∙ v.2)).0

    -- Where every kind is known, nodes that begin with a formula's read as that formula.
    pub nodes_read :
        (φ : Formula B) (left i : ℕ) (ns : List (Node B)) → ((j : ℕ) → i ≤ j → j < i + left → kind j < 6) → from left i ≡ nodes φ ++ ns
        → Read i φ × ((rest : ℕ) × (left ≡ size φ + rest) × (from rest (i + size φ) ≡ ns))
    unfolding nodes_from
    nodes_read truth zero i ns h e = let z : ◌≡◌ {A = ℕ} 0 1 = cc in absurd (omega arith)
    nodes_read (variable n) zero i ns h e = let z : ◌≡◌ {A = ℕ} 0 1 = cc in absurd (omega arith)
    nodes_read (transition a φ) zero i ns h e = let z : ◌≡◌ {A = ℕ} 0 1 = cc in absurd (omega arith)
    nodes_read (output a b) zero i ns h e = let z : ◌≡◌ {A = ℕ} 0 1 = cc in absurd (omega arith)
    nodes_read (conjunction φ χ) zero i ns h e = let z : ◌≡◌ {A = ℕ} 0 1 = cc in absurd (omega arith)
    nodes_read (greatest φ) zero i ns h e = let z : ◌≡◌ {A = ℕ} 0 1 = cc in absurd (omega arith)
    nodes_read truth (suc left) i ns h e =
        let n : node_of (kind_of (kind i)) (first i) (value i) ≡ truth_node = cc in
        let r : from left (suc i) ≡ ns = cc in
        let z : i + 1 ≡ suc i = omega arith in
        (kind_is (kind i) (first i) (value i) (h i (omega arith) (omega arith)) truth_node n, (left, omega arith, ap (from left) z ∙ r))
    nodes_read (variable m) (suc left) i ns h e =
        let n : node_of (kind_of (kind i)) (first i) (value i) ≡ variable_node m = cc in
        let r : from left (suc i) ≡ ns = cc in
        let z : i + 1 ≡ suc i = omega arith in
        (variable_is (kind i) (first i) (value i) (h i (omega arith) (omega arith)) m n, (left, omega arith, ap (from left) z ∙ r))
    nodes_read (transition a φ) (suc left) i ns h e =
        let n : node_of (kind_of (kind i)) (first i) (value i) ≡ transition_node a = cc in
        let r : from left (suc i) ≡ nodes φ ++ ns = cc in
        let k = transition_is (kind i) (first i) (value i) (h i (omega arith) (omega arith)) a n in
        let w = nodes_read φ left (suc i) ns (λ j l u. h j (omega arith) (omega arith)) r in
        let z : i + suc (size φ) ≡ suc i + size φ = omega arith in
        ((k.0, k.1, w.0), (w.1.0, omega (arith, w.1.1), ap (from w.1.0) z ∙ w.1.2))
    nodes_read (output a b) (suc left) i ns h e =
        let n : node_of (kind_of (kind i)) (first i) (value i) ≡ output_node a b = cc in
        let r : from left (suc i) ≡ ns = cc in
        let z : i + 1 ≡ suc i = omega arith in
        (output_is (kind i) (first i) (value i) (h i (omega arith) (omega arith)) a b n, (left, omega arith, ap (from left) z ∙ r))
    nodes_read (conjunction φ χ) (suc left) i ns h e =
        let n : node_of (kind_of (kind i)) (first i) (value i) ≡ conjunction_node = cc in
        let q : from left (suc i) ≡ (nodes φ ++ nodes χ) ++ ns = cc in
        let w = nodes_read φ left (suc i) (nodes χ ++ ns) (λ j l u. h j (omega arith) (omega arith)) (q ∙ append_assoc (nodes φ) (nodes χ) ns) in
        let v = nodes_read χ w.1.0 (suc i + size φ) ns (λ j l u. h j (omega arith) (omega (arith, w.1.1))) w.1.2 in
        let z : i + suc (size φ + size χ) ≡ suc i + size φ + size χ = omega arith in (
          (kind_is (kind i) (first i) (value i) (h i (omega arith) (omega arith)) conjunction_node n, w.0, v.0),
          (v.1.0, omega (arith, w.1.1, v.1.1), ap (from v.1.0) z ∙ v.1.2),
        )
    nodes_read (greatest φ) (suc left) i ns h e =
        let n : node_of (kind_of (kind i)) (first i) (value i) ≡ greatest_node = cc in
        let r : from left (suc i) ≡ nodes φ ++ ns = cc in
        let w = nodes_read φ left (suc i) ns (λ j l u. h j (omega arith) (omega arith)) r in
        let z : i + suc (size φ) ≡ suc i + size φ = omega arith in (
          (kind_is (kind i) (first i) (value i) (h i (omega arith) (omega arith)) greatest_node n, w.0),
          (w.1.0, omega (arith, w.1.1), ap (from w.1.0) z ∙ w.1.2),
        )

    -- Nodes that are exactly a formula's.
    pub whole_read :
        (φ : Formula B) (count : ℕ) → ((j : ℕ) → j < count → kind j < 6) → from count 0 ≡ nodes φ → Read 0 φ × (size φ ≡ count)
    whole_read φ count h e = (
      (nodes_read φ count 0 [] (λ j l u. h j (omega arith)) (e ∙ sym (append-nil (nodes φ)))).0,
      sym (length_nodes φ) ∙ sym (ap length e) ∙ length_from kind first value count 0,
    )
