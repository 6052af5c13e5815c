-- Nodes one after the other in bytes, for any way in which a node lies in bytes.
use mathlib.Core.{Path.{◌≡◌, refl, sym, ◌∙◌, ap, ap₂, subst}, List.{List, [], ◌∷◌, ◌++◌, append_assoc}}
use Prim.Native.Nat.{ℕ, zero, suc, ◌+◌, ◌*◌, ◌≤◌, ◌<◌}
use native.Mathlib.{Nat.{suc-mul, zero-mul, add-zero}, Omega.{arith}}
use lib.ListN.{length, get_or, take, drop, length-append, get_or-append, take-append-drop}
use lib.Seq.{take_at, drop_at, drop-drop, drop-length, get_or-drop}
use Rattle.theory.specs.Formula.{Formula, size, Node, truth_node, variable_node, transition_node, output_node, conjunction_node, greatest_node, nodes}
use Rattle.formulas.specs.NodeCode.{kind_number, first_field, NodeCode}
use Rattle.formulas.specs.RuleConditions.{encode_all, encode_formula}
use Rattle.formulas.specs.RuleReading.{kind_of, node_of, nodes_from}
use Rattle.formulas.proofs.Prefix.{length_nodes, nodes_unique}

-- Something holds of every element.
abbrev pub All : {A : Type 0} → (A → Type 0) → List A → Type 0
All P [] = Unit {0}
All P (x ∷ xs) = P x × All P xs

pub all_append : {A : Type 0} (P : A → Type 0) (xs ys : List A) → All P xs → All P ys → All P (xs ++ ys)
all_append P [] ys a b = b
all_append P (x ∷ xs) ys a b = (a.0, all_append P xs ys a.1 b)

pub all_left : {A : Type 0} (P : A → Type 0) (xs ys : List A) → All P (xs ++ ys) → All P xs
all_left P [] ys a = tt
all_left P (x ∷ xs) ys a = (a.0, all_left P xs ys a.1)

pub all_right : {A : Type 0} (P : A → Type 0) (xs ys : List A) → All P (xs ++ ys) → All P ys
all_right P [] ys a = a
all_right P (x ∷ xs) ys a = all_right P xs ys a.1

module _ {B : Type 0} where
  -- A node is the one with its own fields.
  pub node_back :
      (n : Node B) (k a : ℕ) (v : B) → k ≡ kind_number n → a ≡ first_field n → ((e : ℕ) (b : B) → n ≡ output_node e b → v ≡ b)
      → node_of (kind_of k) a v ≡ n
  unfolding node_of kind_of
  node_back truth_node k a v e d w = ap (λ x. node_of (kind_of x) a v) e
  node_back (variable_node n) k a v e d w = ap (λ x. node_of (kind_of x) a v) e ∙ ap variable_node d
  node_back (transition_node n) k a v e d w = ap (λ x. node_of (kind_of x) a v) e ∙ ap transition_node d
  node_back (output_node n b) k a v e d w = ap (λ x. node_of (kind_of x) a v) e ∙ ap₂ output_node d (w n b refl)
  node_back conjunction_node k a v e d w = ap (λ x. node_of (kind_of x) a v) e
  node_back greatest_node k a v e d w = ap (λ x. node_of (kind_of x) a v) e

  pub kind_below : (n : Node B) → kind_number n < 6
  kind_below truth_node = omega arith
  kind_below (variable_node n) = omega arith
  kind_below (transition_node n) = omega arith
  kind_below (output_node n b) = omega arith
  kind_below conjunction_node = omega arith
  kind_below greatest_node = omega arith

  module _ (width : ℕ) (encode : Node B → List ℕ) (code : NodeCode width encode) where
    pub encode_append : (ms ns : List (Node B)) → encode_all encode (ms ++ ns) ≡ encode_all encode ms ++ encode_all encode ns
    encode_append [] ns = refl
    encode_append (m ∷ ms) ns =
        ap (λ l. encode m ++ l) (encode_append ms ns) ∙ sym (append_assoc (encode m) (encode_all encode ms) (encode_all encode ns))

    pub encode_length : (ns : List (Node B)) → length (encode_all encode ns) ≡ length ns * width
    encode_length [] = sym (zero-mul width)
    encode_length (n ∷ ns) =
        length-append (encode n) (encode_all encode ns)
        ∙ ap₂ ◌+◌ (code.length_is n) (encode_length ns)
        ∙ plus width (length ns * width)
        ∙ sym (suc-mul (length ns) width)
      where
        plus : (a b : ℕ) → a + b ≡ b + a
        plus a b = omega arith

    front : (n : Node B) (l : List ℕ) → take width (encode n ++ l) ≡ encode n
    front n l = take_at (encode n) l width (code.length_is n)

    back : (n : Node B) (l : List ℕ) → drop width (encode n ++ l) ≡ l
    back n l = drop_at (encode n) l width (code.length_is n)

    pub encode_unique : (ms ns : List (Node B)) → encode_all encode ms ≡ encode_all encode ns → ms ≡ ns
    encode_unique [] [] e = refl
    encode_unique [] (n ∷ ns) e =
        absurd (omega (arith, ap length e, length-append (encode n) (encode_all encode ns), code.length_is n, code.two))
    encode_unique (m ∷ ms) [] e =
        absurd (omega (arith, ap length e, length-append (encode m) (encode_all encode ms), code.length_is m, code.two))
    encode_unique (m ∷ ms) (n ∷ ns) e =
        ap₂ (λ x l. x ∷ l)
        (code.one_node m n (sym (front m (encode_all encode ms)) ∙ ap (take width) e ∙ front n (encode_all encode ns)))
        (encode_unique ms ns (sym (back m (encode_all encode ms)) ∙ ap (drop width) e ∙ back n (encode_all encode ns)))

    -- The bytes of a formula are those of no other, and none begins another.
    pub formula_unique :
        (φ χ : Formula B) (ms ns : List (Node B))
        → encode_formula encode φ ++ encode_all encode ms ≡ encode_formula encode χ ++ encode_all encode ns → (φ ≡ χ) × (ms ≡ ns)
    formula_unique φ χ ms ns e =
        nodes_unique φ χ ms ns
        (encode_unique (nodes φ ++ ms) (nodes χ ++ ns) (encode_append (nodes φ) ms ∙ e ∙ sym (encode_append (nodes χ) ns)))

    pub formula_length : (φ : Formula B) → length (encode_formula encode φ) ≡ size φ * width
    formula_length φ = encode_length (nodes φ) ∙ ap (λ x. x * width) (length_nodes φ)

    module _ (bytes : List ℕ) where
      next_node : (i : ℕ) → drop width (drop (i * width) bytes) ≡ drop (suc i * width) bytes
      next_node i = drop-drop width (i * width) bytes ∙ ap (λ x. drop x bytes) (sym (suc-mul i width))

      -- Every node of these bytes, from i on, is one for which something holds.
      pub every_node :
          (P : Node B → Type 0) (ns : List (Node B)) (i : ℕ) → All P ns → drop (i * width) bytes ≡ encode_all encode ns → (j : ℕ) → j < length ns
          → (n : Node B) × (take width (drop ((i + j) * width) bytes) ≡ encode n) × P n
      every_node P [] i a e j h = absurd (omega arith)
      every_node P (n ∷ ns) i a e zero h =
          (n, ap (λ x. take width (drop (x * width) bytes)) (add-zero i) ∙ ap (take width) e ∙ front n (encode_all encode ns), a.0)
      every_node P (n ∷ ns) i a e (suc j) h =
          let w = every_node P ns (suc i) a.1 (sym (next_node i) ∙ ap (drop width) e ∙ back n (encode_all encode ns)) j (omega arith) in
          let z : i + suc j ≡ suc i + j = omega arith in
          (w.0, ap (λ x. take width (drop (x * width) bytes)) z ∙ w.1, w.2)

      -- Nodes read through accessors are those whose bytes these are.
      module _
          (kind first : ℕ → ℕ) (value : ℕ → B) (kinds : (i : ℕ) → kind i ≡ get_or bytes (i * width) 0)
          (firsts : (i : ℕ) → first i ≡ get_or bytes (i * width + 1) 0)
          (values : (i e : ℕ) (b : B) → take width (drop (i * width) bytes) ≡ encode (output_node e b) → value i ≡ b) where
        byte_of : (i k : ℕ) (n : Node B) (ns : List (Node B)) → drop (i * width) bytes ≡ encode_all encode (n ∷ ns) → k < width → get_or bytes
            (i * width + k) 0 ≡ get_or (encode n) k 0
        byte_of i k n ns e h =
            sym (get_or-drop (i * width) bytes k 0)
            ∙ ap (λ l. get_or l k 0) e
            ∙ get_or-append (encode n) (encode_all encode ns) 0 k (subst (λ x. k < x) (sym (code.length_is n)) h)

        kind_there : (i : ℕ) (n : Node B) (ns : List (Node B)) → drop (i * width) bytes ≡ encode_all encode (n ∷ ns) → kind i ≡ kind_number n
        kind_there i n ns e =
            kinds i
            ∙ ap (λ x. get_or bytes x 0) (sym (add-zero (i * width)))
            ∙ byte_of i 0 n ns e (omega (arith, code.two))
            ∙ code.kind_byte n

        pub read_back :
            (ns : List (Node B)) (i : ℕ) → drop (i * width) bytes ≡ encode_all encode ns → nodes_from kind first value (length ns) i ≡ ns
        unfolding nodes_from
        read_back [] i e = refl
        read_back (n ∷ ns) i e =
            ap₂ (λ x l. x ∷ l)
            (node_back n (kind i) (first i) (value i)
            (kind_there i n ns e)
            (firsts i ∙ byte_of i 1 n ns e code.two ∙ code.first_byte n)
            (λ a b d. values i a b (ap (take width) e ∙ front n (encode_all encode ns) ∙ ap encode d)))
            (read_back ns (suc i) (sym (next_node i) ∙ ap (drop width) e ∙ back n (encode_all encode ns)))

        pub known_back :
            (ns : List (Node B)) (i : ℕ) → drop (i * width) bytes ≡ encode_all encode ns → (j : ℕ) → j < length ns → kind (i + j) < 6
        known_back [] i e j h = absurd (omega arith)
        known_back (n ∷ ns) i e zero h =
            let k : kind i < 6 = subst (λ x. x < 6) (sym (kind_there i n ns e)) (kind_below n) in
            subst (λ x. kind x < 6) (sym (add-zero i)) k
        known_back (n ∷ ns) i e (suc j) h =
            let z : suc i + j ≡ i + suc j = omega arith in
            subst (λ x. kind x < 6) z
            (known_back ns (suc i) (sym (next_node i) ∙ ap (drop width) e ∙ back n (encode_all encode ns)) j (omega arith))

      -- Bytes whose every node is the one that is read are those of the nodes read.
      pub bytes_from :
          (kind first : ℕ → ℕ) (value : ℕ → B) (left i : ℕ)
          → ((j : ℕ) → i ≤ j → j < i + left → take width (drop (j * width) bytes) ≡ encode (node_of (kind_of (kind j)) (first j) (value j)))
          → length bytes ≡ (i + left) * width → drop (i * width) bytes ≡ encode_all encode (nodes_from kind first value left i)
      unfolding nodes_from
      bytes_from kind first value zero i h e =
          ap (λ x. drop x bytes) (ap (λ x. x * width) (sym (add-zero i)) ∙ sym e) ∙ drop-length bytes
      bytes_from kind first value (suc left) i h e =
          let z : i + suc left ≡ suc i + left = omega arith in
          sym (take-append-drop width (drop (i * width) bytes))
          ∙ ap₂ ◌++◌
          (h i (omega arith) (omega arith))
          (next_node i
          ∙ bytes_from kind first value left (suc i) (λ j l u. h j (omega arith) (omega arith)) (e ∙ ap (λ x. x * width) z))
