-- The prefix order determines the formula, and each node of a formula one part and its binders.
use mathlib.Core.{Path.{◌≡◌, refl, sym, ◌∙◌, ap, ap₂}, Bool.{cond}, List.{List, [], ◌∷◌, ◌++◌, append-nil, append_assoc}}
use Prim.Native.Nat.{ℕ, zero, suc, ◌+◌, ◌≤◌, ◌<◌}
use native.Mathlib.Omega.{arith}
use lib.{Dec.{eqb, ltb}, ListN.{length, drop, length-append}, Seq.{drop_at, drop-drop}}
use borrow.Author.Tests.{eq-eqb, ne_eqb, lt-ltb, le-ltb}
use Rattle.theory.specs.Formula.{Formula, truth, variable, transition, output, conjunction, greatest, size}
use Rattle.theory.specs.Formula.{Node, truth_node, variable_node, transition_node, output_node, conjunction_node, greatest_node, nodes, Stands, root}
use Rattle.theory.specs.Formula.{part_of_transition, left_part, right_part, part_of_greatest}

module _ {B : Type 0} where
  pub size_positive : (φ : Formula B) → 0 < size φ
  size_positive truth = omega arith
  size_positive (variable n) = omega arith
  size_positive (transition e φ) = omega arith
  size_positive (output e b) = omega arith
  size_positive (conjunction φ χ) = omega arith
  size_positive (greatest φ) = omega arith

  -- A formula has as many nodes as its size says.
  pub nodes_length : (φ : Formula B) → length (nodes φ) ≡ size φ
  nodes_length truth = refl
  nodes_length (variable n) = refl
  nodes_length (transition e φ) = ap suc (nodes_length φ)
  nodes_length (output e b) = refl
  nodes_length (conjunction φ χ) =
      ap suc (length-append (nodes φ) (nodes χ) ∙ ap₂ ◌+◌ (nodes_length φ) (nodes_length χ))
  nodes_length (greatest φ) = ap suc (nodes_length φ)

  -- The part at node j, and its binders, of a formula at node i below the binders bs. Past the formula's nodes it is no matter.
  abbrev part_at : ℕ → List ℕ → Formula B → ℕ → List ℕ × Formula B
  part_at i bs truth j = (bs, truth)
  part_at i bs (variable n) j = (bs, variable n)
  part_at i bs (transition e ψ) j = cond (eqb j i) (bs, transition e ψ) (part_at (suc i) bs ψ j)
  part_at i bs (output e b) j = (bs, output e b)
  part_at i bs (conjunction ψ χ) j =
      cond (eqb j i) (bs, conjunction ψ χ)
      (cond (ltb j (suc i + size ψ)) (part_at (suc i) bs ψ j) (part_at (suc i + size ψ) bs χ j))
  part_at i bs (greatest ψ) j = cond (eqb j i) (bs, greatest ψ) (part_at (suc i) (i ∷ bs) ψ j)

  part_at_own : (i : ℕ) (bs : List ℕ) (ψ : Formula B) → part_at i bs ψ i ≡ (bs, ψ)
  part_at_own i bs truth = refl
  part_at_own i bs (variable n) = refl
  part_at_own i bs (transition e ψ) =
      ap (λ t. cond t (bs, transition e ψ) (part_at (suc i) bs ψ i)) (eq-eqb i i refl)
  part_at_own i bs (output e b) = refl
  part_at_own i bs (conjunction ψ χ) =
      ap (λ t. cond t (bs, conjunction ψ χ)
      (cond (ltb i (suc i + size ψ)) (part_at (suc i) bs ψ i) (part_at (suc i + size ψ) bs χ i))) (eq-eqb i i refl)
  part_at_own i bs (greatest ψ) =
      ap (λ t. cond t (bs, greatest ψ) (part_at (suc i) (i ∷ bs) ψ i)) (eq-eqb i i refl)

  -- Decoding with at most so many nodes. What does not begin with a formula's nodes is no matter.
  abbrev decode : ℕ → List (Node B) → Formula B × List (Node B)
  decode zero ns = (truth, ns)
  decode (suc k) [] = (truth, [])
  decode (suc k) (truth_node ∷ ns) = (truth, ns)
  decode (suc k) (variable_node n ∷ ns) = (variable n, ns)
  decode (suc k) (transition_node e ∷ ns) = (transition e (decode k ns).0, (decode k ns).1)
  decode (suc k) (output_node e b ∷ ns) = (output e b, ns)
  decode (suc k) (conjunction_node ∷ ns) =
      (conjunction (decode k ns).0 (decode k (decode k ns).1).0, (decode k (decode k ns).1).1)
  decode (suc k) (greatest_node ∷ ns) = (greatest (decode k ns).0, (decode k ns).1)

  decode_nodes :
      (φ : Formula B) (k : ℕ) (ns : List (Node B)) → size φ ≤ k → decode k (nodes φ ++ ns) ≡ (φ, ns)
  decode_nodes φ zero ns h = absurd (omega (arith, size_positive φ, h))
  decode_nodes truth (suc k) ns h = refl
  decode_nodes (variable n) (suc k) ns h = refl
  decode_nodes (transition e φ) (suc k) ns h =
      ap (λ x. (transition e x.0, x.1)) (decode_nodes φ k ns (omega arith))
  decode_nodes (output e b) (suc k) ns h = refl
  decode_nodes (conjunction φ χ) (suc k) ns h =
      ap (λ l. (conjunction (decode k l).0 (decode k (decode k l).1).0, (decode k (decode k l).1).1))
      (append_assoc (nodes φ) (nodes χ) ns)
      ∙ ap (λ x. (conjunction x.0 (decode k x.1).0, (decode k x.1).1))
      (decode_nodes φ k (nodes χ ++ ns) (omega arith))
      ∙ ap (λ x. (conjunction φ x.0, x.1)) (decode_nodes χ k ns (omega arith))
  decode_nodes (greatest φ) (suc k) ns h = ap (λ x. (greatest x.0, x.1)) (decode_nodes φ k ns (omega arith))

drop_first : {A : Type 0} (i : ℕ) (l : List A) {ns : List A} {x : A} → drop i l ≡ x ∷ ns → drop (suc i) l ≡ ns
drop_first i l p =
    let q : suc i ≡ i + 1 = omega arith in
    ap (λ k. drop k l) q ∙ sym (drop-drop 1 i l) ∙ ap (drop 1) p

module _ {B : Type 0} (φ : Formula B) where
  -- A part's nodes lie within the formula's.
  pub stands_within : {i : ℕ} {bs : List ℕ} {ψ : Formula B} → Stands φ i bs ψ → i + size ψ ≤ size φ
  stands_within root = omega arith
  stands_within (part_of_transition s) = omega (arith, stands_within s)
  stands_within (left_part s) = omega (arith, stands_within s)
  stands_within (right_part s) = omega (arith, stands_within s)
  stands_within (part_of_greatest s) = omega (arith, stands_within s)

  -- The nodes from a part's number on begin with the part's nodes.
  pub nodes_at :
      {i : ℕ} {bs : List ℕ} {ψ : Formula B} → Stands φ i bs ψ →
      (ns : List (Node B)) × (drop i (nodes φ) ≡ nodes ψ ++ ns)
  nodes_at root = ([], sym (append-nil (nodes φ)))
  nodes_at (part_of_transition {i = i} s) = ((nodes_at s).0, drop_first i (nodes φ) (nodes_at s).1)
  nodes_at (left_part {i = i} {ψ = ψ} {χ = χ} s) =
      (nodes χ ++ (nodes_at s).0, drop_first i (nodes φ) (nodes_at s).1 ∙ append_assoc (nodes ψ) (nodes χ) (nodes_at s).0)
  nodes_at (right_part {i = i} {ψ = ψ} {χ = χ} s) = (
    (nodes_at s).0,
    sym (drop-drop (size ψ) (suc i) (nodes φ))
        ∙ ap (drop (size ψ)) (drop_first i (nodes φ) (nodes_at s).1 ∙ append_assoc (nodes ψ) (nodes χ) (nodes_at s).0)
        ∙ drop_at (nodes ψ) (nodes χ ++ (nodes_at s).0) (size ψ) (nodes_length ψ),
  )
  nodes_at (part_of_greatest {i = i} s) = ((nodes_at s).0, drop_first i (nodes φ) (nodes_at s).1)

  part_within :
      {i : ℕ} {bs : List ℕ} {ψ : Formula B} → Stands φ i bs ψ →
      (j : ℕ) → i ≤ j → j < i + size ψ → part_at zero [] φ j ≡ part_at i bs ψ j
  part_within root j h l = refl
  part_within (part_of_transition {i = i} {bs = bs} {e = e} {ψ = ψ} s) j h l =
      part_within s j (omega arith) (omega arith)
      ∙ ap (λ t. cond t (bs, transition e ψ) (part_at (suc i) bs ψ j)) (ne_eqb j i (omega arith))
  part_within (left_part {i = i} {bs = bs} {ψ = ψ} {χ = χ} s) j h l =
      part_within s j (omega arith) (omega arith)
      ∙ ap₂ (λ t u. cond t (bs, conjunction ψ χ) (cond u (part_at (suc i) bs ψ j) (part_at (suc i + size ψ) bs χ j)))
      (ne_eqb j i (omega arith)) (lt-ltb j (suc i + size ψ) l)
  part_within (right_part {i = i} {bs = bs} {ψ = ψ} {χ = χ} s) j h l =
      part_within s j (omega arith) (omega arith)
      ∙ ap₂ (λ t u. cond t (bs, conjunction ψ χ) (cond u (part_at (suc i) bs ψ j) (part_at (suc i + size ψ) bs χ j)))
      (ne_eqb j i (omega arith)) (le-ltb j (suc i + size ψ) h)
  part_within (part_of_greatest {i = i} {bs = bs} {ψ = ψ} s) j h l =
      part_within s j (omega arith) (omega arith)
      ∙ ap (λ t. cond t (bs, greatest ψ) (part_at (suc i) (i ∷ bs) ψ j)) (ne_eqb j i (omega arith))

  part_of_node : {i : ℕ} {bs : List ℕ} {ψ : Formula B} → Stands φ i bs ψ → part_at zero [] φ i ≡ (bs, ψ)
  part_of_node {i} {bs} {ψ} s =
      part_within s i (omega arith) (omega (arith, size_positive ψ)) ∙ part_at_own i bs ψ

  -- One part stands at a node, below one list of binders.
  pub stands_once :
      {i : ℕ} {bs cs : List ℕ} {ψ χ : Formula B} → Stands φ i bs ψ → Stands φ i cs χ → (bs ≡ cs) × (ψ ≡ χ)
  stands_once s t = let p = sym (part_of_node s) ∙ part_of_node t in (ap (λ x. x.0) p, ap (λ x. x.1) p)

module _ {B : Type 0} where
  -- Two formulas whose nodes begin one list are one formula, and what follows is the same.
  pub nodes_prefix :
      (φ χ : Formula B) (ms ns : List (Node B)) → nodes φ ++ ms ≡ nodes χ ++ ns → (φ ≡ χ) × (ms ≡ ns)
  nodes_prefix φ χ ms ns p =
      let q =
      sym (decode_nodes φ (size φ + size χ) ms (omega arith)) ∙ ap (decode (size φ + size χ)) p
      ∙ decode_nodes χ (size φ + size χ) ns (omega arith)
      in
      (ap (λ x. x.0) q, ap (λ x. x.1) q)
