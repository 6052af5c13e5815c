-- The claims on rules in bytes.
use mathlib.Core.{Path.{◌≡◌, refl, sym, ◌∙◌, ap, subst}, Bool.{Bool, true, false}, Option.{none}, List.{List, [], ◌++◌, append-nil}}
use Prim.Native.Nat.{ℕ, zero, suc, ◌+◌, ◌*◌, ◌/◌, ◌≤◌, ◌<◌, min}
use native.Mathlib.{Nat.{min-le_left, min-eq_right, mul-div_cancel, zero-mul}, Omega.{arith}}
use lib.{Dec.{leb}, ListN.{length, drop}}
use borrow.Author.Tests.{le-leb, leb-true, leb-false}
use Rattle.limits.specs.Limits.{node_limit, binder_limit}
use Rattle.theory.specs.Formula.{Formula, size, Node, nodes}
use Rattle.theory.specs.FormulaClasses.{Accepted}
use Rattle.theory.specs.BinderDepth.{binder_depth}
use Rattle.values.specs.declared.ValueKind.{ValueKind}
use Rattle.values.specs.Setup.{ValueIn}
use Rattle.values.specs.ValueTests.{value_fits}
use Rattle.values.proofs.ValueKinds.{fits_value, value_fitting}
use Rattle.refusal.specs.{Refusal.{First, has_place, part_of, order, condition_numbers, right_places}, declared.Refusal.TheVariants.{BinderDepth}}
use Rattle.refusal.specs.RefusalAnswers.{plain_unless}
use Rattle.refusal.proofs.Refusals.{judged, first_unique}
use Rattle.formulas.specs.RuleConditions.{encode_all, encode_formula, node_width, node_bytes, NodeFits, node_at, NodeAtFault, TooDeep, Unprotected}
use Rattle.formulas.specs.{NodeReading.{Reads}, RuleReading.{kind_of, fields_fit, node_of, nodes_from, formulas, first_formula, formula_read}}
use Rattle.formulas.specs.RuleRefusal.{depth_refusal, structure_refusal, misfit_place, nodes_refusal, kind_at, first_at, value_at, rule_refusal}
use Rattle.formulas.specs.{RuleRefusal.{formula_of}, NodeWalks.{field}, NodeArrays.{padded, decoded_count, decoded}}
use Rattle.formulas.specs.RuleConditions.{byte_conditions}
use Rattle.formulas.specs.Claims.{RuleRefusalClaim, AcceptedClaim, DepthClaim, TooDeepClaim, ProtectedClaim, FormulaOfClaim}
use Rattle.formulas.specs.Claims.{AcceptedFormulaClaim, DecodedClaim, DecodedRefusalClaim, ReadsClaim, ReadsBackClaim, ReadsUniqueClaim}
use Rattle.formulas.proofs.{Padding.{padded_field}, Answers.{from_same}, Prefix.{length_nodes, first_is}}
use Rattle.formulas.proofs.{Reading.{reads_nodes, reads_unique, whole_read}, Decoding.{decoded_refusal}}
use Rattle.formulas.proofs.{LowestFault.{false_not_true}, Depth.{too_deep}}
use Rattle.formulas.proofs.Encoding.{formula_length, read_back, known_back, bytes_from}
use Rattle.formulas.proofs.Conditions.{depth_decides, deep_exactly, not_unprotected, well_formed_first, first_refusal, accepted_formula}
use Rattle.formulas.proofs.NodeFields.{fields_sound, fields_full, field_value}
use Rattle.formulas.proofs.NodeCodes.{node_code, width_positive, fields_bytes, bytes_fields, output_value}

module _ (events : ℕ) (kind : ValueKind) (bytes : List ℕ) where
  abbrev fit : ℕ → Bool
  fit i = fields_fit events (kind_of (kind_at kind bytes i)) (first_at kind bytes i) (value_at kind bytes i) (value_fits kind (value_at kind bytes i))

  abbrev node : ℕ → Node ℕ
  node i = node_of (kind_of (kind_at kind bytes i)) (first_at kind bytes i) (value_at kind bytes i)

  abbrev at : ℕ → List ℕ
  at = node_at (node_width kind) bytes

  sound : (i : ℕ) → i < length bytes / node_width kind → fit i ≡ true → (at i ≡ node_bytes kind (node i)) × NodeFits events (ValueIn kind) (node i)
  sound i h e =
      let w =
      fields_sound events (ValueIn kind) (value_fits kind) (fits_value kind) (kind_at kind bytes i) (first_at kind bytes i) (value_at kind bytes i) e in
      (fields_bytes kind bytes i h (node i) w.0 (field_value events (ValueIn kind) (value_fits kind) (node i) w.1), w.1)

  full : (i : ℕ) → i < length bytes / node_width kind → fit i ≡ false → (n : Node ℕ) → at i ≡ node_bytes kind n → ¬ NodeFits events (ValueIn kind) n
  full i h e n d f =
      false_not_true
      (sym e
      ∙ fields_full events (ValueIn kind) (value_fits kind) (value_fitting kind) n (kind_at kind bytes i) (first_at kind bytes i) (value_at kind bytes i)
      (bytes_fields kind bytes i h n d)
      f)

  first_of_rule : First (byte_conditions events kind bytes) (rule_refusal events kind bytes)
  unfolding rule_refusal nodes_refusal misfit_place structure_refusal
  first_of_rule =
      first_refusal (node_width kind) (node_bytes kind) (node_code kind) node_limit events (ValueIn kind) bytes (kind_at kind bytes) (first_at kind bytes)
      (value_at kind bytes) fit sound full

  formula_accepted :
      rule_refusal events kind bytes ≡ none → (bytes ≡ encode_formula (node_bytes kind) (formula_of kind bytes)) × Accepted node_limit binder_limit events
      (ValueIn kind) (formula_of kind bytes)
  unfolding rule_refusal nodes_refusal misfit_place structure_refusal formula_of
  formula_accepted e =
      accepted_formula (node_width kind) (node_bytes kind) (node_code kind) node_limit events (ValueIn kind) bytes (kind_at kind bytes)
      (first_at kind bytes) (value_at kind bytes) fit sound full e

  -- Where no node is at fault, the bytes are those of the nodes read.
  in_bytes : ((i : ℕ) → ¬ NodeAtFault (node_width kind) (node_bytes kind) bytes events (ValueIn kind) i) → (i : ℕ) → i < length bytes / node_width kind →
      at i ≡ node_bytes kind (node i)
  in_bytes h i l = go (fit i) refl
    where
      go : (b : Bool) → fit i ≡ b → at i ≡ node_bytes kind (node i)
      go true e = (sound i l e).0
      go false e = absurd (h i (l, full i l e))

pub rule_judged : RuleRefusalClaim
unfolding condition_numbers right_places part_of order has_place
rule_judged events kind bytes = judged (byte_conditions events kind bytes) (rule_refusal events kind bytes) (first_of_rule events kind bytes) refl refl

module _ (kind : ValueKind) (bytes : List ℕ) (φ : Formula ℕ) (written : bytes ≡ encode_formula (node_bytes kind) φ) where
  pub count_is : length bytes / node_width kind ≡ size φ
  count_is = ap (λ n. n / node_width kind) (ap length written ∙ formula_length (node_width kind) (node_bytes kind) (node_code kind) φ) ∙ mul-div_cancel
      (size φ) (omega (arith, width_positive kind))

  from_start : drop (0 * node_width kind) bytes ≡ encode_all (node_bytes kind) (nodes φ)
  from_start = ap (λ n. drop n bytes) (zero-mul (node_width kind)) ∙ written

  read_all : nodes_from (kind_at kind bytes) (first_at kind bytes) (value_at kind bytes) (length (nodes φ)) 0 ≡ nodes φ
  read_all =
      read_back (node_width kind) (node_bytes kind) (node_code kind) bytes (kind_at kind bytes) (first_at kind bytes) (value_at kind bytes) (λ i. refl)
      (λ i. refl) (output_value kind bytes) (nodes φ) 0 from_start

  read_count : nodes_from (kind_at kind bytes) (first_at kind bytes) (value_at kind bytes) (length bytes / node_width kind) 0 ≡ nodes φ
  read_count = ap (λ n. nodes_from (kind_at kind bytes) (first_at kind bytes) (value_at kind bytes) n 0) (count_is ∙ sym (length_nodes φ)) ∙ read_all

  known : (j : ℕ) → j < size φ → kind_at kind bytes j < 6
  known j h =
      let z : 0 + j ≡ j = omega arith in
      subst (λ x. kind_at kind bytes x < 6) z
      (known_back (node_width kind) (node_bytes kind) (node_code kind) bytes (kind_at kind bytes) (first_at kind bytes) (value_at kind bytes) (λ i. refl)
      (λ i. refl) (output_value kind bytes) (nodes φ) 0 from_start j
      (subst (λ n. j < n) (sym (length_nodes φ)) h))

  reads_there : Reads (kind_at kind bytes) (first_at kind bytes) (value_at kind bytes) 0 φ
  reads_there =
      (whole_read (kind_at kind bytes) (first_at kind bytes) (value_at kind bytes) φ (size φ) known
      (ap (λ n. nodes_from (kind_at kind bytes) (first_at kind bytes) (value_at kind bytes) n 0) (sym (length_nodes φ)) ∙ read_all)).0

  formula_is : φ ≡ formula_of kind bytes
  unfolding formula_of formula_read
  formula_is =
      sym (ap (λ l. first_formula (formulas l)) (read_count ∙ sym (append-nil (nodes φ))) ∙ first_is φ [])

pub formula_of_only : FormulaOfClaim
formula_of_only kind bytes φ e = formula_is kind bytes φ e

pub reads : ReadsClaim
reads kind bytes φ e = (reads_there kind bytes φ e, ap length e ∙ formula_length (node_width kind) (node_bytes kind) (node_code kind) φ)

-- The decoded fields are the bytes' fields, on the nodes.
pub decoded_reads : DecodedClaim
unfolding decoded decoded_count
decoded_reads kind bytes φ e h =
    let c : min node_limit (length bytes / node_width kind) ≡ length bytes / node_width kind = min-eq_right
    (subst (λ n. n ≤ node_limit) (sym (count_is kind bytes φ e)) h) in
    let n : min node_limit (length bytes / node_width kind) ≡ size φ = c ∙ count_is kind bytes φ e in
    let same : (f : ℕ → ℕ) (j : ℕ) → j < size φ → field (padded f (min node_limit (length bytes / node_width kind)) node_limit 0) j ≡ f j
    = λ f j l. padded_field f (min node_limit (length bytes / node_width kind)) node_limit j (subst (λ x. j < x) (sym n) l)
    (min-le_left node_limit (length bytes / node_width kind)) in
    record {
      counted = n;
      reads =
          (whole_read
          (field (padded (kind_at kind bytes) (min node_limit (length bytes / node_width kind)) node_limit 0))
          (field (padded (first_at kind bytes) (min node_limit (length bytes / node_width kind)) node_limit 0))
          (field (padded (value_at kind bytes) (min node_limit (length bytes / node_width kind)) node_limit 0))
          φ
          (size φ)
          (λ j l. subst (λ x. x < 6) (sym (same (kind_at kind bytes) j l)) (known kind bytes φ e j l))
          (from_same
          (field (padded (kind_at kind bytes) (min node_limit (length bytes / node_width kind)) node_limit 0))
          (kind_at kind bytes)
          (field (padded (first_at kind bytes) (min node_limit (length bytes / node_width kind)) node_limit 0))
          (first_at kind bytes)
          (field (padded (value_at kind bytes) (min node_limit (length bytes / node_width kind)) node_limit 0))
          (value_at kind bytes)
          (size φ)
          0
          (λ j l u. same (kind_at kind bytes) j (omega (arith, u)))
          (λ j l u. same (first_at kind bytes) j (omega (arith, u)))
          (λ j l u. same (value_at kind bytes) j (omega (arith, u)))
          ∙ ap (λ m. nodes_from (kind_at kind bytes) (first_at kind bytes) (value_at kind bytes) m 0) (sym (count_is kind bytes φ e))
          ∙ read_count kind bytes φ e)
          ).0;
    }

pub decoded_judged : DecodedRefusalClaim
decoded_judged = decoded_refusal

pub reads_back : ReadsBackClaim
unfolding nodes_from
reads_back events kind bytes φ d l h =
    let c : length bytes / node_width kind ≡ size φ = ap (λ n. n / node_width kind) l ∙ mul-div_cancel (size φ) (omega (arith, width_positive kind)) in
    let w = reads_nodes (kind_at kind bytes) (first_at kind bytes) (value_at kind bytes) φ (size φ) 0 d (omega arith) in
    ap (λ n. drop n bytes) (sym (zero-mul (node_width kind)))
    ∙ bytes_from (node_width kind) (node_bytes kind) (node_code kind) bytes (kind_at kind bytes) (first_at kind bytes) (value_at kind bytes) (size φ) 0
    (λ j a b. in_bytes events kind bytes h j (subst (λ n. j < n) (sym c) (omega (arith, b))))
    (l ∙ ap (λ n. n * node_width kind) (plus (size φ)))
    ∙ ap (encode_all (node_bytes kind)) (w.2 ∙ rest w.0 w.1)
  where
    plus : (n : ℕ) → n ≡ 0 + n
    plus n = omega arith

    rest : (n : ℕ) → size φ ≡ size φ + n → nodes φ ++ nodes_from (kind_at kind bytes) (first_at kind bytes) (value_at kind bytes) n (0 + size φ) ≡ nodes φ
    rest zero e = append-nil (nodes φ)
    rest (suc n) e = absurd (omega (arith, e))

pub reads_one : ReadsUniqueClaim
reads_one B kind first value φ χ i d e = reads_unique kind first value φ χ i d e

pub accepted_formula_of : AcceptedFormulaClaim
accepted_formula_of events kind bytes e = let w = formula_accepted events kind bytes e in record { written = w.0; accepted = w.1 }

shallow_unmet : (φ : Formula ℕ) → binder_depth φ ≤ binder_limit → depth_refusal φ ≡ none
unfolding depth_refusal plain_unless
shallow_unmet φ h = ap (λ b. plain_unless b BinderDepth) (le-leb (binder_depth φ) binder_limit h)

-- Accepted bytes are the prefix code of exactly one closed and guarded formula.
pub accepted_claim : AcceptedClaim
accepted_claim events kind bytes = (
  (λ e. (formula_of kind bytes, accepted_formula_of events kind bytes e)),
  λ w.
      first_unique (byte_conditions events kind bytes) _ _ (first_of_rule events kind bytes)
      (well_formed_first (node_width kind) (node_bytes kind) (node_code kind) node_limit events (ValueIn kind) bytes w.0 w.1.written
      w.1.accepted.within w.1.accepted.well_formed)
      ∙ shallow_unmet w.0 w.1.accepted.shallow,
)

pub too_deep_claim : TooDeepClaim
too_deep_claim events kind φ within fit bound =
    deep_exactly (node_width kind) (node_bytes kind) (node_code kind) node_limit events (ValueIn kind) (encode_formula (node_bytes kind) φ) φ refl within
    fit bound

pub depth_claim : DepthClaim
depth_claim B φ most = too_deep most φ

not_deep : (φ : Formula ℕ) → ¬ TooDeep φ binder_limit → binder_depth φ ≤ binder_limit
not_deep φ h = go (leb (binder_depth φ) binder_limit) refl
  where
    go : (b : Bool) → leb (binder_depth φ) binder_limit ≡ b → binder_depth φ ≤ binder_limit
    go true e = leb-true (binder_depth φ) binder_limit e
    go false e = absurd (h ((too_deep binder_limit φ).1 (leb-false (binder_depth φ) binder_limit e)))

pub protected_claim : ProtectedClaim
protected_claim events kind φ within fit bound shallow =
    let bytes = encode_formula (node_bytes kind) φ in (
      (λ e. let a = accepted_formula_of events kind bytes e in
          subst (λ χ. (i : ℕ) → ¬ Unprotected χ i) (sym (formula_of_only kind bytes φ refl))
          (not_unprotected (node_width kind) (node_bytes kind) (node_code kind) node_limit events (ValueIn kind) bytes (formula_of kind bytes)
          a.written a.accepted.within a.accepted.well_formed)),
      λ protected.
          first_unique (byte_conditions events kind bytes) _ _ (first_of_rule events kind bytes)
          (depth_decides (node_width kind) (node_bytes kind) (node_code kind) node_limit events (ValueIn kind) bytes φ refl within fit bound protected)
          ∙ shallow_unmet φ (not_deep φ shallow),
    )
