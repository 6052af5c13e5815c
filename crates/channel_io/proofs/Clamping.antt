-- A number above 255 held as 255: refusals 1 to 3 and 5 to 9 are the same, and of what is accepted nothing is clamped.
use Prim.Native.Nat.{ℕ, zero, suc, max, ◌+◌, ◌*◌, ◌/◌, ◌≤◌, ◌<◌}
use mathlib.Core.{Path.{◌≡◌, refl, sym, ap, ap₂, ◌∙◌}, List.{List, [], ◌∷◌, ◌++◌, map}, Bool.{Bool, true, false, cond, not, ◌&&◌}}
use mathlib.Core.Option.{Option, none, some}
use native.Mathlib.Omega.{arith}
use lib.{Dec.{eqb, ltb, leb}, ListN.{length, get_or, length-map, get_or-map}}
use borrow.Author.Tests.{ltb-true, ltb-false, lt-ltb, le-ltb, eqb-true, eqb-false, eq-eqb, ne_eqb}
use Rattle.limits.specs.Limits.{event_limit, value_limit, node_limit, binder_limit}
use Rattle.theory.specs.Formula.{Formula, truth, variable, transition, output, conjunction, greatest, size}
use Rattle.theory.specs.FormulaClasses.{FreeBelow, Fits}
use Rattle.theory.specs.BinderDepth.{binder_depth}
use Rattle.theory.specs.Formula.{Node, truth_node, variable_node, transition_node, output_node, conjunction_node, greatest_node}
use Rattle.theory.specs.ValueSets.{Below}
use Rattle.theory.specs.ValueSetTests.{every, lawful}
use Rattle.theory.proofs.ValueSets.{every_at, and_left, and_right, and_false_right}
use Rattle.refusal.specs.{declared.Refusal.{Refusal}, declared.Refusal.TheVariants.{UnboundVariable, UnprotectedVariable}}
use Rattle.refusal.specs.RefusalAnswers.{or_else, plain_unless, at_found}
use Rattle.refusal.proofs.Refusals.{or_else_none, plain_none}
use Rattle.values.specs.declared.ValueKind.{ValueKind}
use Rattle.values.specs.declared.ValueKind.TheVariants.{Numbered}
use Rattle.values.specs.Setup.{setup}
use Rattle.values.specs.SetupInOrder.{AcceptedSetup}
use Rattle.values.specs.SetupTests.{events_test, values_test, entries_test, meet_test, kind_refusal, setup_refusal}
use Rattle.values.proofs.Setups.{values_small, setup_accepted}
use Rattle.formulas.specs.RuleConditions.{node_bytes, encode_formula}
use Rattle.formulas.specs.declared.NodeKind.{NodeKind, TheVariants.{Truth, Variable, Transition, Output, Conjunction, Greatest}}
use Rattle.std.specs.Prelude.{Option as StdOption, Some, None}
use Rattle.formulas.specs.RuleReading.{kind_of, fields_fit}
use Rattle.formulas.specs.RuleReading.{end_fault, awaited, first_of, node_of, nodes_from, with_parts, formulas, first_formula, formula_read}
use Rattle.formulas.specs.RuleReading.{Search, lowest_fault, unbound_below, bound_near, unbound_search, unprotected_search, lowest_unbound, lowest_unprotected}
use Rattle.formulas.specs.RuleRefusal.{count_fits, depth_refusal, variables_refusal, structure_refusal, misfit_place, nodes_refusal, kind_at, first_at}
use Rattle.formulas.specs.RuleRefusal.{value_at, rule_refusal, formula_of}
use Rattle.formulas.proofs.{Search.{lowest_same}, Prefix.{length_from}, Decoding.{CountFits, count_facts}, RuleClaims.{accepted_formula_of}}
use Rattle.channel_file.specs.ChannelFile.{Token, token_T, token_A, token_V, token_X, token_G, token_O, Contents, encoded, node_numbers, rule_numbers}
use Rattle.channel_file.specs.Bytes.{clamp, node, entry, meet_bytes, rule_bytes}
use Rattle.channel_io.specs.FileConditions.{file_setup}
use Rattle.channel_io.specs.FileRefusals.{pair_refusal, contents_refusal}
use Rattle.channel_io.specs.Claims.{ClampedClaim}
use Rattle.refusal.specs.declared.Refusal.TheVariants.{BinderDepth, NodeCount, NodeFields, NodeTree, SetupEvents, SetupMeet, SetupValues}

-- ---- one number

pub clamp_below : (v n : ℕ) → n ≤ 255 → ltb (clamp v) n ≡ ltb v n
clamp_below v n h = go (ltb v n) refl
  where
    go : (b : Bool) → ltb v n ≡ b → ltb (clamp v) n ≡ b
    go true e = lt-ltb (clamp v) n (omega (arith, ltb-true v n e))
    go false e = le-ltb (clamp v) n (omega (arith, ltb-false v n e))

pub clamp_zero : (v : ℕ) → eqb (clamp v) 0 ≡ eqb v 0
clamp_zero v = go (eqb v 0) refl
  where
    go : (b : Bool) → eqb v 0 ≡ b → eqb (clamp v) 0 ≡ b
    go true e = eq-eqb (clamp v) 0 (omega (arith, eqb-true v 0 e))
    go false e = let n : ¬ (v ≡ 0) = eqb-false v 0 e in ne_eqb (clamp v) 0 (λ z. n (omega (arith, z)))

clamp_small : (v : ℕ) → v ≤ 255 → clamp v ≡ v
clamp_small v h = omega arith

pub unknown : (k : ℕ) → 6 ≤ k → kind_of k ≡ None
unfolding kind_of
unknown zero h = absurd (omega arith)
unknown (suc zero) h = absurd (omega arith)
unknown (suc (suc zero)) h = absurd (omega arith)
unknown (suc (suc (suc zero))) h = absurd (omega arith)
unknown (suc (suc (suc (suc zero)))) h = absurd (omega arith)
unknown (suc (suc (suc (suc (suc zero))))) h = absurd (omega arith)
unknown (suc (suc (suc (suc (suc (suc k)))))) h = refl

clamp_kind : (k : ℕ) → kind_of (clamp k) ≡ kind_of k
clamp_kind k = go (ltb k 6) refl
  where
    go : (b : Bool) → ltb k 6 ≡ b → kind_of (clamp k) ≡ kind_of k
    go true e = let h = ltb-true k 6 e in ap kind_of (clamp_small k (omega arith))
    go false e = let h = ltb-false k 6 e in unknown (clamp k) (omega arith) ∙ sym (unknown k h)

-- ---- a meet table

all_small : (l : List ℕ) → ((i : ℕ) → i < length l → get_or l i 0 ≤ 255) → map clamp l ≡ l
all_small [] h = refl
all_small (v ∷ l) h =
    ap₂ (λ (x : ℕ) (y : List ℕ). x ∷ y) (clamp_small v (h 0 (omega arith))) (all_small l (λ i b. h (suc i) (omega arith)))

every_same : (n : ℕ) (f g : ℕ → Bool) → ((i : ℕ) → f i ≡ g i) → every n f ≡ every n g
unfolding every
every_same zero f g h = refl
every_same (suc n) f g h = ap₂ (λ (x y : Bool). x && y) (h n) (every_same n f g h)

module _ (values top : ℕ) (meet : List ℕ) (small : values ≤ 255) where
  entries_same : entries_test values (map clamp meet) ≡ entries_test values meet
  unfolding entries_test
  entries_same =
      every_same (length (map clamp meet)) _ (λ i. ltb (get_or meet i 0) values)
      (λ i. ap (λ (x : ℕ). ltb x values) (get_or-map clamp meet i 0) ∙ clamp_below (get_or meet i 0) values small)
      ∙ ap (λ (n : ℕ). every n (λ i. ltb (get_or meet i 0) values)) (length-map meet clamp)

  entries_kept : entries_test values meet ≡ true → map clamp meet ≡ meet
  unfolding entries_test
  entries_kept e =
      all_small meet (λ i h. let b = ltb-true (get_or meet i 0) values (every_at (length meet) _ e i h) in omega arith)

  meet_same : meet_test values top (map clamp meet) ≡ meet_test values top meet
  unfolding meet_test
  meet_same = go (entries_test values meet) refl
    where
      go : (b : Bool) → entries_test values meet ≡ b → meet_test values top (map clamp meet) ≡ meet_test values top meet
      go true e = ap (meet_test values top) (entries_kept e)
      go false e =
          and_false_right (eqb (length (map clamp meet)) (values * values))
          (ap (λ (b : Bool). b && lawful values (map clamp meet) top) (entries_same ∙ e))
          ∙ sym (and_false_right (eqb (length meet) (values * values)) (ap (λ (b : Bool). b && lawful values meet top) e))

pub setup_same :
    (events values top : ℕ) (meet : List ℕ) → setup_refusal (setup events values top (map clamp meet)) ≡ setup_refusal (setup events values top meet)
unfolding setup_refusal kind_refusal or_else plain_unless
setup_same events values top meet = ap (or_else (plain_unless (events_test events) SetupEvents)) (go (values_test values top) refl)
  where
    go : (b : Bool) → values_test values top ≡ b → kind_refusal (Numbered values) top (map clamp meet) ≡ kind_refusal (Numbered values) top meet
    go true e =
        ap (λ (b : Bool). or_else (plain_unless (values_test values top) SetupValues) (plain_unless b SetupMeet))
        (let h = values_small values top e in meet_same values top meet (omega arith))
    go false e = rw (e)

-- ---- a rule: its nodes and its formula

fit_same :
    (events values : ℕ) → events ≤ 255 → values ≤ 255 → (k : StdOption NodeKind) (a v : ℕ)
    → fields_fit events k (clamp a) (clamp v) (ltb (clamp v) values) ≡ fields_fit events k a v (ltb v values)
unfolding fields_fit
fit_same events values h g (Some Truth) a v = ap₂ (λ (x y : Bool). x && y) (clamp_zero a) (clamp_zero v)
fit_same events values h g (Some Variable) a v = clamp_zero v
fit_same events values h g (Some Transition) a v = ap₂ (λ (x y : Bool). x && y) (clamp_below a events h) (clamp_zero v)
fit_same events values h g (Some Output) a v = ap₂ (λ (x y : Bool). x && y) (clamp_below a events h) (clamp_below v values g)
fit_same events values h g (Some Conjunction) a v = ap₂ (λ (x y : Bool). x && y) (clamp_zero a) (clamp_zero v)
fit_same events values h g (Some Greatest) a v = ap₂ (λ (x y : Bool). x && y) (clamp_zero a) (clamp_zero v)
fit_same events values h g None a v = refl

-- clamped but for its value, of which g is held
abbrev clamp_node : (ℕ → ℕ) → Node ℕ → Node ℕ
clamp_node g truth_node = truth_node
clamp_node g (variable_node n) = variable_node (clamp n)
clamp_node g (transition_node e) = transition_node (clamp e)
clamp_node g (output_node e v) = output_node (clamp e) (g v)
clamp_node g conjunction_node = conjunction_node
clamp_node g greatest_node = greatest_node

abbrev pub clamp_formula : (ℕ → ℕ) → Formula ℕ → Formula ℕ
clamp_formula g truth = truth
clamp_formula g (variable n) = variable (clamp n)
clamp_formula g (transition e φ) = transition (clamp e) (clamp_formula g φ)
clamp_formula g (output e v) = output (clamp e) (g v)
clamp_formula g (conjunction φ χ) = conjunction (clamp_formula g φ) (clamp_formula g χ)
clamp_formula g (greatest φ) = greatest (clamp_formula g φ)

module _ (g : ℕ → ℕ) where
  node_same : (k : StdOption NodeKind) (a v : ℕ) → node_of k (clamp a) (g v) ≡ clamp_node g (node_of k a v)
  unfolding node_of
  node_same (Some Truth) a v = refl
  node_same (Some Variable) a v = refl
  node_same (Some Transition) a v = refl
  node_same (Some Output) a v = refl
  node_same (Some Conjunction) a v = refl
  node_same (Some Greatest) a v = refl
  node_same None a v = refl

  parts_same : (n : Node ℕ) (φs : List (Formula ℕ)) → with_parts (clamp_node g n) (map (clamp_formula g) φs) ≡ map (clamp_formula g) (with_parts n φs)
  unfolding with_parts
  parts_same truth_node φs = refl
  parts_same (variable_node n) φs = refl
  parts_same (transition_node e) [] = refl
  parts_same (transition_node e) (φ ∷ φs) = refl
  parts_same (output_node e v) φs = refl
  parts_same conjunction_node [] = refl
  parts_same conjunction_node (φ ∷ []) = refl
  parts_same conjunction_node (φ ∷ χ ∷ φs) = refl
  parts_same greatest_node [] = refl
  parts_same greatest_node (φ ∷ φs) = refl

  formulas_same : (ns : List (Node ℕ)) → formulas (map (clamp_node g) ns) ≡ map (clamp_formula g) (formulas ns)
  unfolding formulas
  formulas_same [] = refl
  formulas_same (n ∷ ns) = ap (with_parts (clamp_node g n)) (formulas_same ns) ∙ parts_same n (formulas ns)

  first_same : (φs : List (Formula ℕ)) → first_formula (map (clamp_formula g) φs) ≡ clamp_formula g (first_formula φs)
  unfolding first_formula
  first_same [] = refl
  first_same (φ ∷ φs) = refl

-- how large the formula is that nodes begin with
abbrev sizes : List (Formula ℕ) → ℕ
sizes [] = 0
sizes (φ ∷ φs) = size φ + sizes φs

parts_size : (n : Node ℕ) (φs : List (Formula ℕ)) → sizes (with_parts n φs) ≤ suc (sizes φs)
unfolding with_parts
parts_size truth_node φs = omega arith
parts_size (variable_node n) φs = omega arith
parts_size (transition_node e) [] = omega arith
parts_size (transition_node e) (φ ∷ φs) = omega arith
parts_size (output_node e v) φs = omega arith
parts_size conjunction_node [] = omega arith
parts_size conjunction_node (φ ∷ []) = omega arith
parts_size conjunction_node (φ ∷ χ ∷ φs) = omega arith
parts_size greatest_node [] = omega arith
parts_size greatest_node (φ ∷ φs) = omega arith

formulas_size : (ns : List (Node ℕ)) → sizes (formulas ns) ≤ length ns
unfolding formulas
formulas_size [] = omega arith
formulas_size (n ∷ ns) = omega (arith, parts_size n (formulas ns), formulas_size ns)

first_size : (φs : List (Formula ℕ)) (n : ℕ) → sizes φs ≤ n → 1 ≤ n → size (first_formula φs) ≤ n
unfolding first_formula
first_size [] n h g = g
first_size (φ ∷ φs) n h g = omega arith

module _ (g : ℕ → ℕ) where
  size_same : (φ : Formula ℕ) → size (clamp_formula g φ) ≡ size φ
  size_same truth = refl
  size_same (variable n) = refl
  size_same (transition e φ) = ap suc (size_same φ)
  size_same (output e v) = refl
  size_same (conjunction φ χ) = ap₂ (λ (x y : ℕ). suc (x + y)) (size_same φ) (size_same χ)
  size_same (greatest φ) = ap suc (size_same φ)

  -- 8 and 9: within 256 nodes fewer than 256 binders stand above a variable
  module _ (f : Search ℕ) (falls : (d : ℕ) → f.below_transition d ≤ d) (rises : (d : ℕ) → f.below_greatest d ≡ suc d)
      (alike : (d n : ℕ) → d ≤ 255 → f.at_variable d (clamp n) ≡ f.at_variable d n) where
    fault_same : (d i : ℕ) (φ : Formula ℕ) → d + size φ ≤ node_limit → lowest_fault f d i (clamp_formula g φ) ≡ lowest_fault f d i φ
    unfolding lowest_fault
    fault_same d i truth h = refl
    fault_same d i (variable n) h = ap (λ (b : Bool). cond b (some i) none) (alike d n (omega arith))
    fault_same d i (transition e φ) h = fault_same (f.below_transition d) (suc i) φ (omega (arith, falls d))
    fault_same d i (output e v) h = refl
    fault_same d i (conjunction φ χ) h =
        ap₂ (λ (x y : Option ℕ). first_of x y) (fault_same d (suc i) φ (omega arith))
        (ap (λ (n : ℕ). lowest_fault f d (suc i + n) (clamp_formula g χ)) (size_same φ) ∙ fault_same d (suc i + size φ) χ (omega arith))
    fault_same d i (greatest φ) h =
        ap (λ (x : Option ℕ). first_of (cond (f.at_greatest d) (some i) none) x) (fault_same (f.below_greatest d) (suc i) φ (omega (arith, rises d)))

  unbound_same : (φ : Formula ℕ) → size φ ≤ node_limit → lowest_unbound 0 0 (clamp_formula g φ) ≡ lowest_unbound 0 0 φ
  unfolding unbound_below
  unbound_same φ h = fault_same unbound_search (λ d. omega arith) (λ d. refl) (λ d n l. ap not (clamp_below n d l)) 0 0 φ (omega (arith, h))

  unprotected_same : (φ : Formula ℕ) → size φ ≤ node_limit → lowest_unprotected 0 0 (clamp_formula g φ) ≡ lowest_unprotected 0 0 φ
  unfolding bound_near
  unprotected_same φ h = fault_same unprotected_search (λ d. omega arith) (λ d. refl) (λ d n l. clamp_below n d l) 0 0 φ (omega (arith, h))

  -- 23: the V nodes stay
  depth_same : (φ : Formula ℕ) → binder_depth (clamp_formula g φ) ≡ binder_depth φ
  depth_same truth = refl
  depth_same (variable n) = refl
  depth_same (transition e φ) = depth_same φ
  depth_same (output e v) = refl
  depth_same (conjunction φ χ) = ap₂ (λ (x y : ℕ). max x y) (depth_same φ) (depth_same χ)
  depth_same (greatest φ) = ap suc (depth_same φ)

  variables_same : (φ : Formula ℕ) → size φ ≤ node_limit → variables_refusal (clamp_formula g φ) ≡ variables_refusal φ
  unfolding variables_refusal depth_refusal
  variables_same φ h =
      ap₂ (λ (x : Option ℕ) (l : Option Refusal). or_else (at_found x UnboundVariable) l) (unbound_same φ h)
      (ap₂ (λ (d : ℕ) (y : Option ℕ). or_else (plain_unless (leb d binder_limit) BinderDepth) (at_found y UnprotectedVariable))
      (depth_same φ) (unprotected_same φ h))

-- ---- nodes reached through accessors

-- within 256 nodes the formula has at most 256
pub read_size : (kind first value : ℕ → ℕ) (count : ℕ) → count ≤ node_limit → size (formula_read kind first value count) ≤ node_limit
unfolding formula_read
read_size kind first value count h =
    let ns = nodes_from kind first value count 0 in
    first_size (formulas ns) node_limit (omega (arith, formulas_size ns, length_from kind first value count 0)) (omega arith)

-- Nodes of the same kinds, clamped but for their values: 7 to 9 are the same.
module _ (g : ℕ → ℕ) (kind first value kind' first' value' : ℕ → ℕ) (hk : (i : ℕ) → kind_of (kind' i) ≡ kind_of (kind i))
    (hf : (i : ℕ) → first' i ≡ clamp (first i)) (hv : (i : ℕ) → value' i ≡ g (value i)) where
  from_same : (left i : ℕ) → nodes_from kind' first' value' left i ≡ map (clamp_node g) (nodes_from kind first value left i)
  unfolding nodes_from
  from_same zero i = refl
  from_same (suc left) i =
      ap₂ (λ (n : Node ℕ) (ns : List (Node ℕ)). n ∷ ns)
      (ap (λ (x : StdOption NodeKind). node_of x (first' i) (value' i)) (hk i)
      ∙ ap₂ (λ (x y : ℕ). node_of (kind_of (kind i)) x y) (hf i) (hv i)
      ∙ node_same g (kind_of (kind i)) (first i) (value i))
      (from_same left (suc i))

  pub read_same : (count : ℕ) → formula_read kind' first' value' count ≡ clamp_formula g (formula_read kind first value count)
  unfolding formula_read
  read_same count =
      ap (λ (ns : List (Node ℕ)). first_formula (formulas ns)) (from_same count 0)
      ∙ ap first_formula (formulas_same g (nodes_from kind first value count 0))
      ∙ first_same g (formulas (nodes_from kind first value count 0))

  end_same : (left k i : ℕ) → end_fault kind' k left i ≡ end_fault kind k left i
  unfolding end_fault
  end_same zero zero i = refl
  end_same zero (suc k) i = refl
  end_same (suc left) zero i = refl
  end_same (suc left) (suc k) i =
      ap (λ (x : StdOption NodeKind). end_fault kind' (awaited x k) left (suc i)) (hk i) ∙ end_same left (awaited (kind_of (kind i)) k) (suc i)

  pub structure_same : (count : ℕ) → count ≤ node_limit → structure_refusal kind' first' value' count ≡ structure_refusal kind first value count
  unfolding structure_refusal
  structure_same count h =
      ap₂ (λ (o : Option ℕ) (φ : Formula ℕ). or_else (at_found o NodeTree) (variables_refusal φ)) (end_same count 1 0) (read_same count)
      ∙ ap (λ (l : Option Refusal). or_else (at_found (end_fault kind 1 count 0) NodeTree) l) (variables_same g (formula_read kind first value count)
      (read_size kind first value count h))

-- Numbers in the place of values: 6 to 9 are the same.
module _ (kind first value kind' first' value' : ℕ → ℕ) (hk : (i : ℕ) → kind_of (kind' i) ≡ kind_of (kind i))
    (hf : (i : ℕ) → first' i ≡ clamp (first i)) (hv : (i : ℕ) → value' i ≡ clamp (value i)) where
  nodes_same :
      (count events values : ℕ) → count ≤ node_limit → events ≤ 255 → values ≤ 255
      → nodes_refusal kind' first' value' count (λ v. ltb v values) events ≡ nodes_refusal kind first value count (λ v. ltb v values) events
  unfolding nodes_refusal misfit_place
  nodes_same count events values h he hv' =
      ap₂ (λ (o : Option ℕ) (l : Option Refusal). or_else (at_found o NodeFields) l)
      (lowest_same
      (λ j. not (fields_fit events (kind_of (kind' j)) (first' j) (value' j) (ltb (value' j) values)))
      (λ j. not (fields_fit events (kind_of (kind j)) (first j) (value j) (ltb (value j) values)))
      count
      0
      (λ j l u.
      ap not
      (ap (λ (x : StdOption NodeKind). fields_fit events x (first' j) (value' j) (ltb (value' j) values)) (hk j)
      ∙ ap₂ (λ (x y : ℕ). fields_fit events (kind_of (kind j)) x y (ltb y values)) (hf j) (hv j)
      ∙ fit_same events values he hv' (kind_of (kind j)) (first j) (value j))))
      (structure_same clamp kind first value kind' first' value' hk hf hv count h)

-- ---- a rule in numbers
module _ (values : ℕ) (rule : List ℕ) where
  abbrev K : ValueKind
  K = Numbered values

  abbrev clamped : List ℕ
  clamped = map clamp rule

  at_same : (i : ℕ) → get_or clamped i 0 ≡ clamp (get_or rule i 0)
  at_same i = get_or-map clamp rule i 0

  kind_same : (i : ℕ) → kind_of (kind_at K clamped i) ≡ kind_of (kind_at K rule i)
  kind_same i = ap kind_of (at_same (i * 3)) ∙ clamp_kind (kind_at K rule i)

  formula_same : formula_of K clamped ≡ clamp_formula clamp (formula_of K rule)
  unfolding formula_of
  formula_same =
      ap (λ (n : ℕ). formula_read (kind_at K clamped) (first_at K clamped) (value_at K clamped) (n / 3)) (length-map rule clamp)
      ∙ read_same clamp (kind_at K rule) (first_at K rule) (value_at K rule) (kind_at K clamped) (first_at K clamped) (value_at K clamped)
      kind_same (λ i. at_same (i * 3 + 1)) (λ i. at_same (i * 3 + 2)) (length rule / 3)

  -- 5, then what the nodes of a rule meet
  abbrev judged : List ℕ → ℕ → ℕ → Bool → Option Refusal
  judged bytes events n b =
      or_else (plain_unless b NodeCount) (nodes_refusal (kind_at K bytes) (first_at K bytes) (value_at K bytes) (n / 3) (λ v. ltb v values) events)

  pub rule_same : (events : ℕ) → events ≤ 255 → values ≤ 255 → rule_refusal events K clamped ≡ rule_refusal events K rule
  unfolding rule_refusal or_else plain_unless
  rule_same events he hv =
      ap (λ (n : ℕ). judged clamped events n (count_fits 3 node_limit n)) (length-map rule clamp) ∙ go (count_fits 3 node_limit (length rule)) refl
    where
      go : (b : Bool) → count_fits 3 node_limit (length rule) ≡ b
          → judged clamped events (length rule) (count_fits 3 node_limit (length rule))
          ≡ judged rule events (length rule) (count_fits 3 node_limit (length rule))
      go true e =
          ap (or_else (plain_unless (count_fits 3 node_limit (length rule)) NodeCount))
          (nodes_same (kind_at K rule) (first_at K rule) (value_at K rule) (kind_at K clamped) (first_at K clamped) (value_at K clamped)
          kind_same (λ i. at_same (i * 3 + 1)) (λ i. at_same (i * 3 + 2)) (length rule / 3) events values
          (let w : CountFits 3 node_limit (length rule) = count_facts 3 node_limit (length rule) e in w.within) he hv)
      go false e = ap (judged clamped events (length rule)) e ∙ sym (ap (judged rule events (length rule)) e)

-- a closed formula within 256 nodes whose events fit has no number above 255 but for its values, and is kept where those are
pub formula_kept :
    (g : ℕ → ℕ) (In : ℕ → Type 0) → ((v : ℕ) → In v → g v ≡ v) → (events d : ℕ) → events ≤ 255 → (φ : Formula ℕ) → d + size φ ≤ node_limit → FreeBelow d φ
    → Fits events In φ → clamp_formula g φ ≡ φ
formula_kept g In same events d he truth h f w = refl
formula_kept g In same events d he (variable n) h f w = ap variable (clamp_small n (omega arith))
formula_kept g In same events d he (transition e φ) h f w =
    let l : e < events = w.0 in
    ap₂ (λ (x : ℕ) (y : Formula ℕ). transition x y) (clamp_small e (omega arith)) (formula_kept g In same events d he φ (omega arith) f w.1)
formula_kept g In same events d he (output e v) h f w =
    let l : e < events = w.0 in
    ap₂ (λ (x y : ℕ). output x y) (clamp_small e (omega arith)) (same v w.1)
formula_kept g In same events d he (conjunction φ χ) h f w =
    ap₂ (λ (x y : Formula ℕ). conjunction x y) (formula_kept g In same events d he φ (omega arith) f.0 w.0)
    (formula_kept g In same events d he χ (omega arith) f.1 w.1)
formula_kept g In same events d he (greatest φ) h f w = ap greatest (formula_kept g In same events (suc d) he φ (omega arith) f w)

pub rule_kept : (events values : ℕ) (rule : List ℕ) → events ≤ 255 → values ≤ 255 → rule_refusal events (Numbered values) rule ≡ none → map clamp rule ≡ rule
rule_kept events values rule he hv e =
    let w = accepted_formula_of events (Numbered values) rule e in
    let v = accepted_formula_of events (Numbered values) (map clamp rule) (rule_same values rule events he hv ∙ e) in
    let f = w.accepted.well_formed in
    let s : size (formula_of (Numbered values) rule) ≤ node_limit = w.accepted.within in
    v.written
    ∙ ap (encode_formula (node_bytes (Numbered values)))
    (formula_same values rule
    ∙ formula_kept clamp (Below values) (λ v b. let l : v < values = b in clamp_small v (omega arith)) events 0 he (formula_of (Numbered values) rule)
    (omega arith)
    f.closed f.fits)
    ∙ sym w.written

-- ---- a file

pub meet_clamped : (l : List ℕ) → encoded entry l ≡ map clamp l
meet_clamped [] = refl
meet_clamped (v ∷ l) = ap (λ (y : List ℕ). clamp v ∷ y) (meet_clamped l)

token_clamped : (x : Token) → node x ≡ map clamp (node_numbers x)
token_clamped token_T = refl
token_clamped token_A = refl
token_clamped token_V = refl
token_clamped (token_X n) = refl
token_clamped (token_G e) = refl
token_clamped (token_O e v) = refl

pub rule_clamped : (xs : List Token) → encoded node xs ≡ map clamp (encoded node_numbers xs)
rule_clamped [] = refl
rule_clamped (x ∷ xs) = ap₂ (λ (u v : List ℕ). u ++ v) (token_clamped x) (rule_clamped xs)

-- what an accepted set-up is within
pub limits : (events values top : ℕ) (meet : List ℕ) → setup_refusal (setup events values top meet) ≡ none → (events ≤ event_limit) × (values ≤ value_limit)
limits events values top meet e =
    let w : AcceptedSetup (setup events values top meet) = (setup_accepted (setup events values top meet)).0 e in (w.few_events, w.of_kind.few_values)

pub pair_same :
    (events values top : ℕ) (meet rule : List ℕ)
    → pair_refusal (setup events values top (map clamp meet)) (map clamp rule) ≡ pair_refusal (setup events values top meet) rule
unfolding pair_refusal or_else
pair_same events values top meet rule =
    ap (λ (o : Option Refusal). or_else o (rule_refusal events (Numbered values) (map clamp rule))) (setup_same events values top meet)
    ∙ go (setup_refusal (setup events values top meet)) refl
  where
    go : (o : Option Refusal) → setup_refusal (setup events values top meet) ≡ o
        → or_else (setup_refusal (setup events values top meet)) (rule_refusal events (Numbered values) (map clamp rule))
        ≡ or_else (setup_refusal (setup events values top meet)) (rule_refusal events (Numbered values) rule)
    go none e =
        let h = limits events values top meet e in
        ap (or_else (setup_refusal (setup events values top meet))) (rule_same values rule events (omega (arith, h.0)) (omega (arith, h.1)))
    go (some r) e = rw e

pub file_same : (c : Contents) → pair_refusal (setup c.events c.values c.top (meet_bytes c)) (rule_bytes c) ≡ contents_refusal c
file_same c =
    ap₂ (λ (m r : List ℕ). pair_refusal (setup c.events c.values c.top m) r) (meet_clamped c.meet) (rule_clamped c.rule)
    ∙ pair_same c.events c.values c.top c.meet (rule_numbers c)

pub meet_kept : (events values top : ℕ) (meet : List ℕ) → setup_refusal (setup events values top meet) ≡ none → map clamp meet ≡ meet
unfolding setup_refusal kind_refusal meet_test
meet_kept events values top meet e =
    let h = limits events values top meet e in
    let later = (or_else_none (plain_unless (events_test events) SetupEvents) _ e).1 in
    let last = (or_else_none (plain_unless (values_test values top) SetupValues) _ later).1 in
    let passed = plain_none (meet_test values top meet) SetupMeet last in
    entries_kept values top meet (omega (arith, h.1))
    (and_left (entries_test values meet) _ (and_right (eqb (length meet) (values * values)) _ passed))

pub nothing_clamped : (c : Contents) → contents_refusal c ≡ none → (meet_bytes c ≡ c.meet) × (rule_bytes c ≡ rule_numbers c)
unfolding pair_refusal
nothing_clamped c e =
    let w = or_else_none (setup_refusal (file_setup c)) (rule_refusal c.events (Numbered c.values) (rule_numbers c)) e in
    let h = limits c.events c.values c.top c.meet w.0 in (
      meet_clamped c.meet ∙ meet_kept c.events c.values c.top c.meet w.0,
      rule_clamped c.rule ∙ rule_kept c.events c.values (rule_numbers c) (omega (arith, h.0)) (omega (arith, h.1)) w.1,
    )

pub clamped_claim : ClampedClaim
clamped_claim =
    record {
      setup_same = setup_same;
      rule_same = λ events values rule he hv. rule_same values rule events he hv;
      file_same = file_same;
      nothing_clamped = nothing_clamped;
    }
