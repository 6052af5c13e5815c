-- Refusals 5 to 9 and 23 for any way in which nodes lie in bytes: the answer computed from a test of each node and from accessors is the
-- first refusal that is met.
use mathlib.Core.{Path.{◌≡◌, refl, sym, ◌∙◌, ap, ap₂, subst}, Logic.{◌↔◌, ◌⊎◌, inl, inr}, Bool.{Bool, true, false, not, ◌&&◌}}
use mathlib.Core.{Option.{Option, none, some, some-ne-none}, List.{List, [], ◌∷◌, ◌++◌, append_assoc, append-nil}}
use Prim.Native.Nat.{ℕ, zero, suc, ◌+◌, ◌*◌, ◌/◌, ◌%◌, ◌≤◌, ◌<◌}
use native.Mathlib.{Nat.{div-add-mod', add-zero, zero-mul, mul-div_cancel, mul-mod_left}, Omega.{arith}}
use lib.{Dec.{leb}, ListN.{length, take, drop}}
use borrow.Author.Tests.{eq-eqb, lt-ltb, le-leb, leb-true, leb-false, not-true, not-false}
use Rattle.limits.specs.Limits.{binder_limit}
use Rattle.theory.specs.Formula.{Formula, truth, variable, transition, output, conjunction, greatest, size, Node, nodes}
use Rattle.theory.specs.FormulaClasses.{Fits, WellFormed, Accepted}
use Rattle.theory.specs.BinderDepth.{binder_depth}
use Rattle.refusal.specs.Refusal.{Condition, plain, at_lowest, PlacedRefusal, at_place}
use Rattle.refusal.specs.Refusal.{fields_place, tree_place, unbound_place, unprotected_place, Gives, First}
use Rattle.refusal.specs.RefusalAnswers.{or_else, plain_unless, at_found}
use Rattle.refusal.specs.declared.Refusal.{Refusal}
use Rattle.refusal.proofs.Refusals.{only_place, first_unique, plain_first, first_then, first_one, first_cons, or_else_none, plain_none, plain_some}
use Rattle.formulas.specs.NodeCode.{NodeCode}
use Rattle.formulas.specs.RuleConditions.{encode_all, encode_formula}
use Rattle.formulas.specs.RuleConditions.{Unbound, TooDeep, Unprotected, NodeFits, node_count, node_at, CountAtFault, NodeAtFault, RunOut}
use Rattle.formulas.specs.RuleConditions.{LeftOver, OfFormula, rule_conditions}
use Rattle.formulas.specs.RuleReading.{lowest_from, kind_of, end_fault, node_of, nodes_from, formula_read, lowest_unbound, lowest_unprotected}
use Rattle.formulas.specs.RuleRefusal.{count_fits, depth_refusal, variables_refusal}
use Rattle.formulas.proofs.{Search.{FoundFrom, lowest_clear, lowest_found}, Walking.{size_positive}}
use Rattle.formulas.proofs.{Prefix.{length_nodes, Outcome, whole, over, short, outcome, length_from, no_fault}, Answers.{place_unmet}}
use Rattle.formulas.proofs.Decoding.{CountFits, count_facts}
use Rattle.formulas.proofs.Encoding.{All, all_append, all_left, all_right, encode_append, formula_unique, formula_length, every_node, bytes_from}
use Rattle.formulas.proofs.{LowestFault.{Answered, answered_as, false_not_true}, Depth.{too_deep}}
use Rattle.formulas.proofs.Variables.{unbound_answered, unprotected_answered, unbound_fault, fault_unbound}
use Rattle.formulas.proofs.Variables.{unprotected_fault, fault_unprotected, free_below, below_free, near_guarded, guarded_near}
use Rattle.refusal.specs.declared.Refusal.TheVariants.{BinderDepth, NodeCount, NodeFields, NodeTree, UnboundVariable, UnprotectedVariable}

-- The answer of a condition with a place.
answered_met : (P : ℕ → Type 0) (given : PlacedRefusal) (o : Option ℕ) → Answered P o → (r : Refusal) → at_found o (at_place given) ≡ some r
    → Gives (at_lowest given P) r
unfolding at_found
answered_met P given none w r e = absurd (some-ne-none r (sym e))
answered_met P given (some p) w r e = let d : at_place given p ≡ r = cc in (p, w, sym d)

answered_unmet : (P : ℕ → Type 0) (given : PlacedRefusal) (o : Option ℕ) → Answered P o → at_found o (at_place given) ≡ none → (r : Refusal)
    → ¬ Gives (at_lowest given P) r
unfolding at_found
answered_unmet P given none w e r (p, l, d) = w p l.holds
answered_unmet P given (some p) w e r l = some-ne-none (at_place given p) e

-- 5's test.
pub count_true : (width limit n : ℕ) → CountFits width limit n → count_fits width limit n ≡ true
unfolding count_fits
count_true width limit n f =
    ap₂ (λ a b. a && (b && leb (n / width) limit)) (eq-eqb (n % width) 0 f.whole) (lt-ltb 0 (n / width) f.some_node)
    ∙ le-leb (n / width) limit f.within

module _ {B : Type 0} (events : ℕ) (In : B → Type 0) where
  -- The nodes of a formula fit exactly if the formula does.
  pub nodes_fit : (φ : Formula B) → Fits events In φ → All (NodeFits events In) (nodes φ)
  nodes_fit truth f = (tt, tt)
  nodes_fit (variable n) f = (tt, tt)
  nodes_fit (transition e φ) f = (f.0, nodes_fit φ f.1)
  nodes_fit (output e b) f = (f, tt)
  nodes_fit (conjunction φ χ) f = (tt, all_append (NodeFits events In) (nodes φ) (nodes χ) (nodes_fit φ f.0) (nodes_fit χ f.1))
  nodes_fit (greatest φ) f = (tt, nodes_fit φ f)

  pub fit_nodes : (φ : Formula B) → All (NodeFits events In) (nodes φ) → Fits events In φ
  fit_nodes truth a = tt
  fit_nodes (variable n) a = tt
  fit_nodes (transition e φ) a = (a.0, fit_nodes φ a.1)
  fit_nodes (output e b) a = a.0
  fit_nodes (conjunction φ χ) a =
      (fit_nodes φ (all_left (NodeFits events In) (nodes φ) (nodes χ) a.1), fit_nodes χ (all_right (NodeFits events In) (nodes φ) (nodes χ) a.1))
  fit_nodes (greatest φ) a = fit_nodes φ a.1

module _ {B : Type 0} (width : ℕ) (encode : Node B → List ℕ) (code : NodeCode width encode) (limit events : ℕ) (In : B → Type 0) (bytes : List ℕ) where
  abbrev count : ℕ
  count = node_count width bytes

  abbrev at : ℕ → List ℕ
  at = node_at width bytes

  -- 7 for bytes that are the nodes of a formula, and with nodes left over or missing.
  not_run_out : (φ : Formula B) → bytes ≡ encode_formula encode φ → (r : ℕ) → ¬ RunOut width encode bytes r
  not_run_out φ e r (χ, n, ns, d, q) =
      let w = formula_unique width encode code φ χ (n ∷ ns) [] (ap (λ l. l ++ encode_all encode (n ∷ ns)) (sym e) ∙ d ∙ sym
      (append-nil (encode_formula encode χ))) in
      let l : suc (length ns) ≡ 0 = ap length w.1 in
      omega arith

  not_left_over : (φ : Formula B) → bytes ≡ encode_formula encode φ → (r : ℕ) → ¬ LeftOver encode bytes r
  not_left_over φ e r (χ, n, ns, d, q) =
      let w = formula_unique width encode code φ χ [] (n ∷ ns) (append-nil (encode_formula encode φ) ∙ sym e ∙ d) in
      let l : 0 ≡ suc (length ns) = ap length w.1 in
      omega arith

  not_both : (r s : ℕ) → RunOut width encode bytes r → ¬ LeftOver encode bytes s
  not_both r s (φ, n, ns, e, q) (χ, m, ms, d, p) =
      let w =
      formula_unique width encode code φ χ [] ((m ∷ ms) ++ (n ∷ ns))
      (append-nil (encode_formula encode φ)
      ∙ sym e
      ∙ ap (λ l. l ++ encode_all encode (n ∷ ns)) d
      ∙ append_assoc (encode_formula encode χ) (encode_all encode (m ∷ ms)) (encode_all encode (n ∷ ns))
      ∙ ap (λ l. encode_formula encode χ ++ l) (sym (encode_append width encode code (m ∷ ms) (n ∷ ns)))) in
      let l : 0 ≡ suc (length (ms ++ (n ∷ ns))) = ap length w.1 in
      omega arith

  -- At most one formula has these bytes.
  one_formula : (φ χ : Formula B) → bytes ≡ encode_formula encode φ → bytes ≡ encode_formula encode χ → φ ≡ χ
  one_formula φ χ e d =
      (formula_unique width encode code φ χ [] []
      (append-nil (encode_formula encode φ) ∙ sym e ∙ d ∙ sym (append-nil (encode_formula encode χ)))).0

  -- What is said of it is said of the one formula.
  of_formula : (φ : Formula B) → bytes ≡ encode_formula encode φ → (Met : Formula B → Type 0) → OfFormula encode bytes Met → Met φ
  of_formula φ e Met (χ, d, x) = subst Met (one_formula χ φ d e) x

  -- 23.
  abbrev twenty_three : Condition
  twenty_three = plain BinderDepth (OfFormula encode bytes (λ φ. TooDeep φ binder_limit))

  deep_first : (φ : Formula B) → bytes ≡ encode_formula encode φ → First (twenty_three ∷ []) (depth_refusal φ)
  unfolding depth_refusal
  deep_first φ e =
      plain_first BinderDepth (OfFormula encode bytes (λ φ. TooDeep φ binder_limit)) (leb (binder_depth φ) binder_limit)
      (λ t. (φ, e, (too_deep binder_limit φ).1 (leb-false (binder_depth φ) binder_limit t)))
      (λ t m. omega (arith, (too_deep binder_limit φ).0 (of_formula φ e (λ χ. TooDeep χ binder_limit) m), leb-true (binder_depth φ) binder_limit t))

  -- What is found in the one formula is found of it.
  found_there :
      (φ : Formula B) → bytes ≡ encode_formula encode φ → (Met : Formula B → ℕ → Type 0) (o : Option ℕ) → Answered (Met φ) o
      → Answered (λ i. OfFormula encode bytes (λ χ. Met χ i)) o
  found_there φ e Met =
      answered_as (Met φ) (λ i. OfFormula encode bytes (λ χ. Met χ i)) (λ i u. (φ, e, u)) (λ i. of_formula φ e (λ χ. Met χ i))

  -- 23, then 9, where every variable has a binder.
  abbrev pub last_two : List Condition
  last_two = twenty_three ∷ at_lowest unprotected_place (λ i. OfFormula encode bytes (λ φ. Unprotected φ i)) ∷ []

  abbrev last_answer : Formula B → Option Refusal
  last_answer φ = or_else (depth_refusal φ) (at_found (lowest_unprotected 0 0 φ) UnprotectedVariable)

  first_last : (φ : Formula B) → bytes ≡ encode_formula encode φ → ((j : ℕ) → ¬ Unbound φ j) → First last_two (last_answer φ)
  first_last φ e bound =
      let unprotected = found_there φ e Unprotected (lowest_unprotected 0 0 φ) (unprotected_answered φ bound) in
      first_then (twenty_three ∷ []) _ (depth_refusal φ) (at_found (lowest_unprotected 0 0 φ) UnprotectedVariable) (deep_first φ e)
      (λ d.
      first_one _ (at_found (lowest_unprotected 0 0 φ) UnprotectedVariable)
      (answered_met _ unprotected_place (lowest_unprotected 0 0 φ) unprotected)
      (answered_unmet _ unprotected_place (lowest_unprotected 0 0 φ) unprotected))

  -- 7 has one place.
  abbrev EndFault : ℕ → Type 0
  EndFault p = RunOut width encode bytes p ⊎ LeftOver encode bytes p

  one_end : (p q : ℕ) → EndFault p → EndFault q → q ≡ p
  one_end p q (inl (φ, n, ns, e, x)) (inl (χ, m, ms, d, y)) = y ∙ sym x
  one_end p q (inl x) (inr y) = absurd (not_both p q x y)
  one_end p q (inr x) (inl y) = absurd (not_both q p y x)
  one_end p q (inr (φ, n, ns, e, x)) (inr (χ, m, ms, d, y)) =
      y ∙ ap size (formula_unique width encode code χ φ (m ∷ ms) (n ∷ ns) (sym d ∙ e)).0 ∙ sym x

  -- A formula in bytes, within the limit of nodes.
  module _ (φ : Formula B) (written : bytes ≡ encode_formula encode φ) (within : size φ ≤ limit) where
    positive : 0 < width
    positive = omega (arith, code.two)

    length_there : length bytes ≡ size φ * width
    length_there = ap length written ∙ formula_length width encode code φ

    count_there : count ≡ size φ
    count_there = ap (λ x. x / width) length_there ∙ mul-div_cancel (size φ) positive

    counted : CountFits width limit (length bytes)
    counted =
        record {
          whole = ap (λ x. x % width) length_there ∙ mul-mod_left (size φ) width;
          some_node = subst (λ x. 0 < x) (sym count_there) (size_positive φ);
          within = subst (λ x. x ≤ limit) (sym count_there) within;
        }

    not_nine : ((i : ℕ) → ¬ Unprotected φ i) → First (at_lowest unprotected_place (λ i. OfFormula encode bytes (λ ψ. Unprotected ψ i)) ∷ []) none
    unfolding First
    not_nine protected = inr (λ r m. protected m.0 (of_formula φ written (λ ψ. Unprotected ψ m.0) m.1.holds), refl)

    -- Where 6 and 8 are not met, 23 and 9 decide.
    pub past_eight :
        ((i : ℕ) → ¬ NodeAtFault width encode bytes events In i) → ((i : ℕ) → ¬ Unbound φ i) → (answer : Option Refusal)
        → First last_two answer → First (rule_conditions width encode limit events In bytes) answer
    unfolding First
    past_eight fit bound answer last =
        inr (
          λ r m. m.0 (counted.whole, counted.some_node, counted.within),
          inr (
            λ r m. fit m.0 m.1.holds,
            inr (
              λ r m. end_unmet m.0 m.1.holds,
              inr (λ r m. bound m.0 (of_formula φ written (λ ψ. Unbound ψ m.0) m.1.holds), last),
            ),
          ),
        )
      where
        end_unmet : (p : ℕ) → ¬ EndFault p
        end_unmet p (inl x) = not_run_out φ written p x
        end_unmet p (inr x) = not_left_over φ written p x

    -- Where 9 is not met either, 23 does.
    pub depth_decides :
        ((i : ℕ) → ¬ NodeAtFault width encode bytes events In i) → ((i : ℕ) → ¬ Unbound φ i) → ((i : ℕ) → ¬ Unprotected φ i)
        → First (rule_conditions width encode limit events In bytes) (depth_refusal φ)
    unfolding or_else
    depth_decides fit bound protected =
        past_eight fit bound (depth_refusal φ) (subst (First last_two) (alone (depth_refusal φ))
        (first_then (twenty_three ∷ []) _ (depth_refusal φ) none (deep_first φ written) (λ e. not_nine protected)))
      where
        alone : (o : Option Refusal) → or_else o none ≡ o
        alone none = refl
        alone (some r) = refl

    -- Where 6 and 8 are not met, 23 is the answer exactly if a path is too deep, whatever 9 says.
    pub deep_exactly :
        ((i : ℕ) → ¬ NodeAtFault width encode bytes events In i) → ((i : ℕ) → ¬ Unbound φ i)
        → First (rule_conditions width encode limit events In bytes) (some BinderDepth) ↔ TooDeep φ binder_limit
    unfolding First depth_refusal plain_unless or_else at_found
    deep_exactly fit bound = (
      (λ h. by_depth (leb (binder_depth φ) binder_limit) refl
          (first_unique (rule_conditions width encode limit events In bytes) _ _ h (past_eight fit bound (last_answer φ) (first_last φ written bound)))),
      λ deep. past_eight fit bound (some BinderDepth) (inl (BinderDepth, ((φ, written, deep), refl), refl)),
    )
      where
        not_nine_found : (o : Option ℕ) → some BinderDepth ≡ at_found o UnprotectedVariable → ⊥
        not_nine_found none e = some-ne-none BinderDepth e
        not_nine_found (some p) e = let z : ◌≡◌ {A = ℕ} 0 1 = cc in omega arith

        by_depth :
            (b : Bool) → leb (binder_depth φ) binder_limit ≡ b
            → some BinderDepth ≡ or_else (plain_unless (leb (binder_depth φ) binder_limit) BinderDepth)
            (at_found (lowest_unprotected 0 0 φ) UnprotectedVariable) → TooDeep φ binder_limit
        by_depth false d e = (too_deep binder_limit φ).1 (leb-false (binder_depth φ) binder_limit d)
        by_depth true d e =
            absurd (not_nine_found (lowest_unprotected 0 0 φ)
            (e ∙ ap (λ b. or_else (plain_unless b BinderDepth) (at_found (lowest_unprotected 0 0 φ) UnprotectedVariable)) d))

    -- No node of a well-formed formula is at fault.
    module _ (w : WellFormed events In φ) where
      not_misfit : (i : ℕ) → ¬ NodeAtFault width encode bytes events In i
      not_misfit i (h, u) =
          let v =
          every_node width encode code bytes (NodeFits events In) (nodes φ) 0 (nodes_fit events In φ w.fits)
          (ap (λ x. drop x bytes) (zero-mul width) ∙ written)
          i
          (subst (λ x. i < x) (count_there ∙ sym (length_nodes φ)) h) in
          let z : 0 + i ≡ i = omega arith in
          u v.0 (ap (λ x. take width (drop (x * width) bytes)) (sym z) ∙ v.1) v.2

      not_unbound : (j : ℕ) → ¬ Unbound φ j
      not_unbound j u = below_free φ 0 0 w.closed j (unbound_fault φ j u)

      pub not_unprotected : (j : ℕ) → ¬ Unprotected φ j
      not_unprotected j u = guarded_near φ 0 0 (w.guarded, λ k l. absurd (omega (arith, l))) j (unprotected_fault φ not_unbound j u)

      pub well_formed_first : First (rule_conditions width encode limit events In bytes) (depth_refusal φ)
      well_formed_first = depth_decides not_misfit not_unbound not_unprotected

  -- Accessors for the nodes, and a test that decides which nodes are in order.
  module _
      (kind first : ℕ → ℕ) (value : ℕ → B) (fit : ℕ → Bool)
      (sound : (i : ℕ) → i < count → fit i ≡ true → (at i ≡ encode (node_of (kind_of (kind i)) (first i) (value i))) × NodeFits events In
      (node_of (kind_of (kind i)) (first i) (value i)))
      (full : (i : ℕ) → i < count → fit i ≡ false → (n : Node B) → at i ≡ encode n → ¬ NodeFits events In n) where
    abbrev ns : List (Node B)
    ns = nodes_from kind first value count 0

    abbrev read : Formula B
    read = formula_read kind first value count

    abbrev misfits : Option ℕ
    misfits = lowest_from (λ i. not (fit i)) count 0

    abbrev pub answer : Option Refusal
    answer =
        or_else (plain_unless (count_fits width limit (length bytes)) NodeCount)
        (or_else (at_found misfits NodeFields) (or_else (at_found (end_fault kind 1 count 0) NodeTree) (variables_refusal read)))

    -- 6.
    misfit_answered : Answered (NodeAtFault width encode bytes events In) misfits
    misfit_answered = go misfits refl
      where
        at_fault : (i : ℕ) → i < count → not (fit i) ≡ true → NodeAtFault width encode bytes events In i
        at_fault i h e = (h, full i h (not-true (fit i) e))

        in_order : (i : ℕ) → not (fit i) ≡ false → ¬ NodeAtFault width encode bytes events In i
        in_order i e (h, w) =
            let v = sound i h (not-false (fit i) e) in
            w (node_of (kind_of (kind i)) (first i) (value i)) v.0 v.1

        go : (o : Option ℕ) → misfits ≡ o → Answered (NodeAtFault width encode bytes events In) o
        go none e = λ j f. in_order j (lowest_clear (λ i. not (fit i)) count 0 e j (omega arith) (omega (arith, f.0))) f
        go (some p) e =
            let w : FoundFrom (λ i. not (fit i)) 0 count p = lowest_found (λ i. not (fit i)) count 0 p e in
            record {
              holds = at_fault p (omega (arith, w.high)) w.holds;
              least = λ j h f. in_order j (w.before j (omega arith) h) f;
            }

    -- Past 5 and 6, the bytes are those of the nodes read.
    module _ (counted : CountFits width limit (length bytes)) (fitting : misfits ≡ none) where
      fits_there : (i : ℕ) → i < count → fit i ≡ true
      fits_there i h = not-false (fit i) (lowest_clear (λ j. not (fit j)) count 0 fitting i (omega arith) (omega (arith, h)))

      pub nodes_there : bytes ≡ encode_all encode ns
      nodes_there =
          ap (λ x. drop x bytes) (sym (zero-mul width))
          ∙ bytes_from width encode code bytes kind first value count 0 (λ j l u. (sound j (omega (arith, u)) (fits_there j (omega (arith, u)))).0) size_there
        where
          size_there : length bytes ≡ (0 + count) * width
          size_there =
              let z : 0 + count ≡ count = omega arith in
              sym (div-add-mod' (length bytes) width) ∙ ap (λ x. count * width + x) counted.whole ∙ add-zero (count * width) ∙ ap (λ x. x * width) (sym z)

      nodes_in : (left i : ℕ) → ((j : ℕ) → i ≤ j → j < i + left → fit j ≡ true) → i + left ≤ count → All (NodeFits events In)
          (nodes_from kind first value left i)
      unfolding nodes_from
      nodes_in zero i h l = tt
      nodes_in (suc left) i h l =
          ((sound i (omega arith) (h i (omega arith) (omega arith))).1, nodes_in left (suc i) (λ j u v. h j (omega arith) (omega arith)) (omega arith))

      -- 7.
      end_met : (o : Option ℕ) → Outcome ns 1 0 o → (p : ℕ) → o ≡ some p → EndFault p
      end_met _ (whole φs l d) p e = absurd (some-ne-none p (sym e))
      end_met _ (over [] m ms q l d z) p e = absurd (omega (arith, l))
      end_met _ (over (φ ∷ []) m ms q l d z) p e =
          let pq : q ≡ p = cc in
          let s : q ≡ size φ = z ∙ zero_plus (length (nodes φ ++ [])) ∙ ap length (append-nil (nodes φ)) ∙ length_nodes φ in
          inr (
            φ,
            m,
            ms,
            nodes_there
                ∙ ap (encode_all encode) (d ∙ ap (λ l. l ++ (m ∷ ms)) (append-nil (nodes φ)))
                ∙ encode_append width encode code (nodes φ) (m ∷ ms),
            sym pq ∙ s,
          )
        where
          zero_plus : (n : ℕ) → 0 + n ≡ n
          zero_plus n = omega arith
      end_met _ (over (φ ∷ χ ∷ φs) m ms q l d z) p e = absurd (omega (arith, l))
      end_met _ (short [] m ms q l d z) p e = absurd (omega (arith, l))
      end_met _ (short (φ ∷ []) m ms q l d z) p e =
          let pq : q ≡ p = cc in
          let s : q ≡ count = z ∙ zero_plus (length ns) ∙ length_from kind first value count 0 in
          inl (
            φ,
            m,
            ms,
            ap (λ l. l ++ encode_all encode (m ∷ ms)) nodes_there
                ∙ sym (encode_append width encode code ns (m ∷ ms))
                ∙ ap (encode_all encode) (d ∙ append-nil (nodes φ)),
            sym pq ∙ s,
          )
        where
          zero_plus : (n : ℕ) → 0 + n ≡ n
          zero_plus n = omega arith
      end_met _ (short (φ ∷ χ ∷ φs) m ms q l d z) p e = absurd (omega (arith, l))

      -- Past 7, the bytes are those of the formula read.
      module _ (ended : end_fault kind 1 count 0 ≡ none) where
        pub formula_there : bytes ≡ encode_formula encode read
        formula_there = nodes_there ∙ ap (encode_all encode) (no_fault kind first value count ended)

        nowhere : (P : ℕ → Type 0) (o : Option ℕ) → Answered P o → o ≡ none → (j : ℕ) → ¬ P j
        nowhere P none w e = w
        nowhere P (some p) w e = absurd (some-ne-none p e)

        all_bound : at_found (lowest_unbound 0 0 read) UnboundVariable ≡ none → (j : ℕ) → ¬ Unbound read j
        all_bound e = nowhere (Unbound read) (lowest_unbound 0 0 read) (unbound_answered read) (place_unmet (lowest_unbound 0 0 read) UnboundVariable e)

        first_variables :
            First
            (at_lowest unbound_place (λ i. OfFormula encode bytes (λ φ. Unbound φ i)) ∷ last_two)
            (variables_refusal read)
        unfolding variables_refusal
        first_variables =
            let unbound = found_there read formula_there Unbound (lowest_unbound 0 0 read) (unbound_answered read) in
            first_cons _ _ (at_found (lowest_unbound 0 0 read) UnboundVariable) (last_answer read)
            (answered_met _ unbound_place (lowest_unbound 0 0 read) unbound)
            (answered_unmet _ unbound_place (lowest_unbound 0 0 read) unbound)
            (λ e. first_last read formula_there (all_bound e))

        -- What is accepted.
        pub accepted_there : variables_refusal read ≡ none → Accepted limit binder_limit events In read
        unfolding variables_refusal depth_refusal
        accepted_there e =
            let w = or_else_none (at_found (lowest_unbound 0 0 read) UnboundVariable) (last_answer read) e in
            let v = or_else_none (depth_refusal read) (at_found (lowest_unprotected 0 0 read) UnprotectedVariable) w.1 in
            let bound = all_bound w.0 in
            let s : size read ≡ count = sym (length_nodes read) ∙ ap length (sym (no_fault kind first value count ended)) ∙ length_from kind first value
            count 0 in
            let protected =
            nowhere (Unprotected read) (lowest_unprotected 0 0 read) (unprotected_answered read bound)
            (place_unmet (lowest_unprotected 0 0 read) UnprotectedVariable v.1) in
            record {
              within = subst (λ x. x ≤ limit) (sym s) counted.within;
              shallow = leb-true (binder_depth read) binder_limit (plain_none (leb (binder_depth read) binder_limit) BinderDepth v.0);
              well_formed =
                  record {
                    closed = free_below read 0 0 (λ j f. bound j (fault_unbound read j f));
                    guarded = (near_guarded read 0 0 (λ j f. protected j (fault_unprotected read j f))).0;
                    fits =
                        fit_nodes events In read
                        (subst (All (NodeFits events In)) (no_fault kind first value count ended)
                        (nodes_in count 0 (λ j l u. fits_there j (omega (arith, u))) (omega arith)));
                  };
            }

    -- The answer is the first refusal that is met.
    pub first_refusal : First (rule_conditions width encode limit events In bytes) answer
    first_refusal =
        first_cons
        (plain NodeCount (CountAtFault width limit bytes))
        later
        (plain_unless (count_fits width limit (length bytes)) NodeCount)
        (or_else (at_found misfits NodeFields) (or_else (at_found (end_fault kind 1 count 0) NodeTree) (variables_refusal read)))
        (λ r e.
        let w = plain_some (count_fits width limit (length bytes)) NodeCount r e in
        (λ f. false_not_true (sym w.0 ∙ count_true width limit (length bytes) (record { whole = f.0; some_node = f.1; within = f.2 })), w.1))
        (λ e r m. let f = count_facts width limit (length bytes) (plain_none (count_fits width limit (length bytes)) NodeCount e) in m.0
        (f.whole, f.some_node, f.within))
        (λ e. first_later (count_facts width limit (length bytes) (plain_none (count_fits width limit (length bytes)) NodeCount e)))
      where
        last_three : List Condition
        last_three = at_lowest unbound_place (λ i. OfFormula encode bytes (λ φ. Unbound φ i)) ∷ last_two

        later : List Condition
        later = at_lowest fields_place (NodeAtFault width encode bytes events In) ∷ at_lowest tree_place EndFault ∷ last_three

        end_answered : CountFits width limit (length bytes) → misfits ≡ none → Answered EndFault (end_fault kind 1 count 0)
        end_answered f m = go (end_fault kind 1 count 0) refl
          where
            unmet : bytes ≡ encode_formula encode read → (p : ℕ) → ¬ EndFault p
            unmet d p (inl x) = not_run_out read d p x
            unmet d p (inr x) = not_left_over read d p x

            go : (o : Option ℕ) → end_fault kind 1 count 0 ≡ o → Answered EndFault o
            go none e = unmet (formula_there f m e)
            go (some p) e =
                let met = end_met f m (end_fault kind 1 count 0) (outcome kind first value count 1 0) p e in
                only_place EndFault p met (λ q. one_end p q met)

        first_end :
            CountFits width limit (length bytes) → misfits ≡ none →
            First (at_lowest tree_place EndFault ∷ last_three) (or_else (at_found (end_fault kind 1 count 0) NodeTree) (variables_refusal read))
        first_end f m =
            first_cons (at_lowest tree_place EndFault) last_three (at_found (end_fault kind 1 count 0) NodeTree) (variables_refusal read)
            (answered_met EndFault tree_place (end_fault kind 1 count 0) (end_answered f m))
            (answered_unmet EndFault tree_place (end_fault kind 1 count 0) (end_answered f m))
            (λ e. first_variables f m (place_unmet (end_fault kind 1 count 0) NodeTree e))

        first_later :
            CountFits width limit (length bytes) →
            First later (or_else (at_found misfits NodeFields) (or_else (at_found (end_fault kind 1 count 0) NodeTree) (variables_refusal read)))
        first_later f =
            first_cons
            (at_lowest fields_place (NodeAtFault width encode bytes events In))
            (at_lowest tree_place EndFault ∷ last_three)
            (at_found misfits NodeFields)
            (or_else (at_found (end_fault kind 1 count 0) NodeTree) (variables_refusal read))
            (λ r e. answered_met (NodeAtFault width encode bytes events In) fields_place misfits misfit_answered r e)
            (λ e r m. answered_unmet (NodeAtFault width encode bytes events In) fields_place misfits misfit_answered e r m)
            (λ e. first_end f (place_unmet misfits NodeFields e))

    -- Accepted bytes are those of the formula read, which is accepted.
    pub accepted_formula : answer ≡ none → (bytes ≡ encode_formula encode read) × Accepted limit binder_limit events In read
    accepted_formula e =
        let a = or_else_none (plain_unless (count_fits width limit (length bytes)) NodeCount)
        (or_else (at_found misfits NodeFields) (or_else (at_found (end_fault kind 1 count 0) NodeTree) (variables_refusal read))) e in
        let b = or_else_none (at_found misfits NodeFields) (or_else (at_found (end_fault kind 1 count 0) NodeTree) (variables_refusal read)) a.1 in
        let c = or_else_none (at_found (end_fault kind 1 count 0) NodeTree) (variables_refusal read) b.1 in
        let f = count_facts width limit (length bytes) (plain_none (count_fits width limit (length bytes)) NodeCount a.0) in
        let m = place_unmet misfits NodeFields b.0 in
        let n = place_unmet (end_fault kind 1 count 0) NodeTree c.0 in
        (formula_there f m n, accepted_there f m n c.1)
