-- Nodes that are handed in as fields: 5 to 9 for the list of their fields, and for bytes that hold them under any node code.
use mathlib.Core.{Path.{◌≡◌, refl, sym, ◌∙◌, ap, ap₂, subst}, Bool.{Bool, true, false, ◌&&◌}, Option.{Option, none, some}, List.{List, [], ◌∷◌}}
use Prim.Native.Nat.{ℕ, zero, suc, ◌+◌, ◌*◌, ◌/◌, ◌%◌, ◌<◌}
use native.Mathlib.{Nat.{add-zero, mul-div_cancel, mul-mod_left}, Omega.{arith}}
use lib.{Dec.{ltb, leb}, ListN.{length, take, drop}}
use borrow.Author.Tests.{eq-eqb}
use Rattle.limits.specs.Limits.{node_limit}
use Rattle.theory.specs.Formula.{Node}
use Rattle.values.specs.declared.ValueKind.{ValueKind}
use Rattle.values.specs.declared.ValueKind.TheVariants.{Numbered}
use Rattle.values.specs.Setup.{ValueIn}
use Rattle.values.specs.ValueTests.{value_fits}
use Rattle.values.proofs.ValueKinds.{fits_value, value_fitting}
use Rattle.refusal.specs.{declared.{Refusal.{Refusal}}, declared.Refusal.TheVariants.{NodeCount}}
use Rattle.refusal.specs.Refusal.{First, has_place, part_of, order, condition_numbers, right_places, Judged, refusal_of}
use Rattle.refusal.specs.RefusalAnswers.{or_else, plain_unless, judgement}
use Rattle.refusal.proofs.Refusals.{judged}
use Rattle.formulas.specs.NodeCode.{NodeCode, three_bytes, field_list, HoldsNodes, kind_number, first_field, value_field}
use Rattle.formulas.specs.RuleConditions.{NodeFits, node_count, node_at, rule_conditions}
use Rattle.formulas.specs.RuleReading.{kind_of, fields_fit, node_of}
use Rattle.formulas.specs.RuleRefusal.{count_fits, structure_refusal, misfit_place, nodes_refusal, fields_refusal}
use Rattle.formulas.specs.Claims.{NodesRefusalClaim}
use Rattle.formulas.proofs.{LowestFault.{false_not_true}, Conditions.{first_refusal}, NodeFields.{fields_sound, fields_full}}
use Rattle.formulas.proofs.NodeCodes.{fields_same, node_code}
use Rattle.std.specs.Prelude.{Result}

-- ---- under any node code
module _ (width : ℕ) (encode : Node ℕ → List ℕ) (code : NodeCode width encode) (events : ℕ) (kind : ValueKind) (k a v : ℕ → ℕ) (count : ℕ)
    (bytes : List ℕ) (holds : HoldsNodes k a v width encode events (ValueIn kind) count bytes) where
  abbrev fit : ℕ → Bool
  fit i = fields_fit events (kind_of (k i)) (a i) (v i) (value_fits kind (v i))

  abbrev node : ℕ → Node ℕ
  node i = node_of (kind_of (k i)) (a i) (v i)

  count_is : node_count width bytes ≡ count
  count_is = ap (λ n. n / width) holds.whole ∙ mul-div_cancel count (omega (arith, code.two))

  sound :
      (i : ℕ) → i < node_count width bytes → fit i ≡ true → (node_at width bytes i ≡ encode (node i)) × NodeFits events (ValueIn kind) (node i)
  sound i h e =
      let w = fields_sound events (ValueIn kind) (value_fits kind) (fits_value kind) (k i) (a i) (v i) e in
      (holds.its_bytes i (subst (λ n. i < n) count_is h) (node i) w.1 w.0, w.1)

  full :
      (i : ℕ) → i < node_count width bytes → fit i ≡ false → (n : Node ℕ) → node_at width bytes i ≡ encode n → ¬ NodeFits events (ValueIn kind) n
  full i h e n d f =
      false_not_true (sym e ∙ fields_full events (ValueIn kind) (value_fits kind) (value_fitting kind) n (k i) (a i) (v i)
      (holds.its_fields i (subst (λ x. i < x) count_is h) n d) f)

  counted : count_fits width node_limit (length bytes) ≡ (ltb 0 count && leb count node_limit)
  unfolding count_fits
  counted =
      ap₂ (λ b n. b && (ltb 0 n && leb n node_limit)) (eq-eqb (length bytes % width) 0 (ap (λ n. n % width) holds.whole ∙ mul-mod_left count width))
      count_is

  pub nodes_first : First (rule_conditions width encode node_limit events (ValueIn kind) bytes) (fields_refusal k a v count (value_fits kind) events)
  unfolding fields_refusal nodes_refusal misfit_place structure_refusal
  nodes_first =
      subst (First (rule_conditions width encode node_limit events (ValueIn kind) bytes))
      (ap₂ (λ b n. or_else (plain_unless b NodeCount) (nodes_refusal k a v n (value_fits kind) events)) counted count_is)
      (first_refusal width encode code node_limit events (ValueIn kind) bytes k a v fit sound full)

  pub nodes_judged :
      (r : Result (Unit {0}) Refusal) → r ≡ judgement (fields_refusal k a v count (value_fits kind) events) →
      Judged (rule_conditions width encode node_limit events (ValueIn kind) bytes) (refusal_of r)
  unfolding condition_numbers right_places part_of order has_place judgement
  nodes_judged r e =
      subst (Judged (rule_conditions width encode node_limit events (ValueIn kind) bytes))
      (sym (ap refusal_of e ∙ same (fields_refusal k a v count (value_fits kind) events)))
      (judged (rule_conditions width encode node_limit events (ValueIn kind) bytes) _ nodes_first refl refl)
    where
      same : (o : Option Refusal) → refusal_of (judgement o) ≡ o
      same none = refl
      same (some q) = refl

-- ---- the list of fields
module _ (k a v : ℕ → ℕ) where
  list_length : (left i : ℕ) → length (field_list k a v left i) ≡ left * 3
  unfolding field_list
  list_length zero i = refl
  list_length (suc left) i = let l = list_length left (suc i) in omega arith

  -- The numbers of a node.
  list_at : (left i j : ℕ) → j < left → take 3 (drop (j * 3) (field_list k a v left i)) ≡ k (i + j) ∷ a (i + j) ∷ v (i + j) ∷ []
  unfolding field_list
  list_at zero i j h = absurd (omega arith)
  list_at (suc left) i zero h = ap (λ n. k n ∷ a n ∷ v n ∷ []) (sym (add-zero i))
  list_at (suc left) i (suc j) h =
      let three : suc j * 3 ≡ suc (suc (suc (j * 3))) = omega arith in
      let next : suc i + j ≡ i + suc j = omega arith in
      ap (λ n. take 3 (drop n (field_list k a v (suc left) i))) three
      ∙ list_at left (suc i) j (omega arith)
      ∙ ap (λ n. k n ∷ a n ∷ v n ∷ []) next

  list_node : (count i : ℕ) → i < count → node_at 3 (field_list k a v count 0) i ≡ k i ∷ a i ∷ v i ∷ []
  list_node count i h = let z : 0 + i ≡ i = omega arith in list_at count 0 i h ∙ ap (λ n. k n ∷ a n ∷ v n ∷ []) z

  list_holds : (events : ℕ) (In : ℕ → Type 0) (count : ℕ) → HoldsNodes k a v 3 three_bytes events In count (field_list k a v count 0)
  list_holds events In count =
      record {
        whole = list_length count 0;
        its_bytes = λ i h n f w.
            let d : (k i ∷ a i ∷ v i ∷ []) ≡ kind_number n ∷ first_field n ∷ value_field n ∷ [] = sym (cc (w.kind_is, w.first_is, w.value_is)) in
            list_node count i h ∙ d ∙ sym (fields_same (Numbered 0) n);
        its_fields = λ i h n e.
            let d : (k i ∷ a i ∷ v i ∷ []) ≡ kind_number n ∷ first_field n ∷ value_field n ∷ []
            = sym (list_node count i h) ∙ e ∙ fields_same (Numbered 0) n in
            record { kind_is = cc; first_is = cc; value_is = cc };
      }

pub nodes_refusals : NodesRefusalClaim
nodes_refusals =
    record {
      of_fields = λ events kind kinds firsts values count r e.
          nodes_judged 3 three_bytes (node_code (Numbered 0)) events kind _ _ _ count _ (list_holds _ _ _ events (ValueIn kind) count) r e;
      of_bytes = λ width encode code events kind kinds firsts values count bytes holds r e.
          nodes_judged width encode code events kind _ _ _ count bytes holds r e;
    }
