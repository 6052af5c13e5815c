-- The claims on the rule of a table.
use mathlib.Core.{Path.{◌≡◌, refl, sym, ap}, Option.{none}, List.{List, [], ◌∷◌}}
use Prim.Native.Nat.{ℕ, ◌*◌, ◌≤◌, ◌-◌}
use native.Mathlib.Omega.{arith}
use lib.{ListN.{length}, Dec.{leb}}
use borrow.Author.Tests.{leb-true, leb-false}
use Rattle.limits.specs.Limits.{node_limit, binder_limit, state_limit, table_limit}
use Rattle.theory.specs.Formula.{Formula, size}
use Rattle.theory.specs.FormulaClasses.{binders, Accepted}
use Rattle.theory.specs.BinderDepth.{binder_depth}
use Rattle.theory.specs.ReachableStates.{StatesAtMost}
use Rattle.theory.proofs.{Claims.{characteristic}, CharacteristicFormula.{writes_one, writes_accepted, few_binders}}
use Rattle.refusal.specs.Refusal.{plain, First, has_place, condition_numbers, right_places, part_of, order}
use Rattle.refusal.specs.{RefusalAnswers.{or_else, plain_unless, answered, put_unless}, declared.Refusal.TheVariants.{BinderDepth, BufferLength, WrittenSize}}
use Rattle.refusal.proofs.Refusals.{plain_first, first_then, first_append, or_else_none, plain_none}
use Rattle.values.specs.{Setup.{Setup, SetupValue, setup_meet, setup_top, setup_conditions}, SetupTests.{setup_refusal}}
use Rattle.values.proofs.Setups.{setup_first, judged_after_setup, setup_accepted}
use Rattle.formulas.specs.{RuleConditions.{encode_formula, node_width, node_bytes}, RuleRefusal.{depth_refusal}}
use Rattle.formulas.proofs.{Encoding.{formula_length}, NodeCodes.{node_code}, RuleClaims.{accepted_claim, depth_claim}}
use Rattle.machines.specs.{TableBytes.{entry_width, machine_of, table_condition}, TableRefusal.{table_refusal}}
use Rattle.machines.proofs.TableRefusals.{table_refusal_first}
use Rattle.characteristic.specs.RuleOfTable.{IsRuleOf, TooManyNodes, WrittenTooDeep, BufferTooShort, write_conditions}
use Rattle.characteristic.specs.RuleWriting.{output_refusal, rule_of, write_refusal, write_answer, write_contents}
use Rattle.characteristic.specs.Claims.{WriteRefusalClaim, RefusedClaim, RuleWritten, Written, WrittenClaim}
use Rattle.characteristic.proofs.{Outputs.{refused_answer}, Answers.{is_rule, runs, last_event, start_within}}

module _ (table_most node_most : ℕ) (s : Setup) (states start : ℕ) (table : List ℕ) where
  -- 12, 23 and 13, where the formula is the rule.
  module _ (φ : Formula ℕ) (w : IsRuleOf s.events s.kind start table φ) (room : ℕ) where
    same_rule : (χ : Formula ℕ) → IsRuleOf s.events s.kind start table χ → χ ≡ φ
    same_rule χ v = writes_one (machine_of s.kind s.events table) s.events v w

    bytes_of : (χ : Formula ℕ) → length (encode_formula (node_bytes s.kind) χ) ≡ size χ * node_width s.kind
    bytes_of χ = formula_length (node_width s.kind) (node_bytes s.kind) (node_code s.kind) χ

    output_first :
        First (plain WrittenSize (TooManyNodes table_most node_most s states start table)
        ∷ plain BinderDepth (WrittenTooDeep table_most node_most s states start table)
        ∷ plain BufferLength (BufferTooShort table_most node_most s states start table room)
        ∷ [])
        (output_refusal s.kind node_most φ room)
    unfolding output_refusal depth_refusal
    output_first =
        first_append
        (plain WrittenSize (TooManyNodes table_most node_most s states start table) ∷ [])
        (plain BinderDepth (WrittenTooDeep table_most node_most s states start table)
        ∷ plain BufferLength (BufferTooShort table_most node_most s states start table room)
        ∷ [])
        (plain_unless (leb (size φ) node_most) WrittenSize)
        (or_else (depth_refusal φ) (plain_unless (leb (size φ * node_width s.kind) room) BufferLength))
        (plain_first WrittenSize _ (leb (size φ) node_most)
        (λ e. (φ, w, leb-false (size φ) node_most e))
        (λ e (χ, v, h). omega (arith, leb-true (size φ) node_most e, h, ap size (same_rule χ v))))
        (first_append
        (plain BinderDepth (WrittenTooDeep table_most node_most s states start table) ∷ [])
        (plain BufferLength (BufferTooShort table_most node_most s states start table room) ∷ [])
        (depth_refusal φ)
        (plain_unless (leb (size φ * node_width s.kind) room) BufferLength)
        (plain_first BinderDepth _ (leb (binder_depth φ) binder_limit)
        (λ e. (φ, w, (depth_claim ℕ φ binder_limit).1 (leb-false (binder_depth φ) binder_limit e)))
        (λ e (χ, v, h). omega (arith, leb-true (binder_depth φ) binder_limit e, (depth_claim ℕ χ binder_limit).0 h, ap binder_depth (same_rule χ v))))
        (plain_first BufferLength _ (leb (size φ * node_width s.kind) room)
        (λ e. (φ, w, omega (arith, leb-false (size φ * node_width s.kind) room e, bytes_of φ)))
        (λ e (χ, v, h).
        omega (arith, leb-true (size φ * node_width s.kind) room e, h, bytes_of χ, ap (λ y. size y * node_width s.kind) (same_rule χ v)))))

  write_first :
      (room : ℕ)
      → First (write_conditions table_most node_most s states start table room) (write_refusal table_most node_most s states start table room)
  unfolding write_conditions write_refusal
  write_first room =
      first_then (setup_conditions s) _ (setup_refusal s) _ (setup_first s)
      (λ e. first_then
      (table_condition (entry_width s.kind) table_most s.events (SetupValue s) states start table (machine_of s.kind s.events table) ∷ []) _
      (table_refusal table_most s.events s.kind states start table) _
      (table_refusal_first table_most s.events s.kind states start table)
      (λ d. output_first (rule_of s states start table) (is_rule table_most node_most s states start table e d) room))

  -- What an accepted call has passed.
  record Passed (room : ℕ) : Type 0 where
    setup_passed : setup_refusal s ≡ none
    table_passed : table_refusal table_most s.events s.kind states start table ≡ none
    few_nodes : size (rule_of s states start table) ≤ node_most
    shallow : binder_depth (rule_of s states start table) ≤ binder_limit

  passed : (room : ℕ) → write_refusal table_most node_most s states start table room ≡ none → Passed room
  unfolding write_refusal output_refusal depth_refusal
  passed room e =
      let one = or_else_none (setup_refusal s) _ e in
      let two = or_else_none (table_refusal table_most s.events s.kind states start table) _ one.1 in
      let three = or_else_none (plain_unless (leb (size (rule_of s states start table)) node_most) WrittenSize) _ two.1 in
      let four = or_else_none (depth_refusal (rule_of s states start table)) _ three.1 in
      record {
        setup_passed = one.0;
        table_passed = two.0;
        few_nodes = leb-true _ _ (plain_none _ WrittenSize three.0);
        shallow = leb-true _ _ (plain_none _ BinderDepth four.0);
      }

pub write_refusal_claim : WriteRefusalClaim
unfolding write_conditions condition_numbers right_places has_place part_of order
write_refusal_claim table_most node_most s states start table room =
    judged_after_setup s _ (write_refusal table_most node_most s states start table room)
    (write_first table_most node_most s states start table room) refl refl refl

pub refused_claim : RefusedClaim
unfolding write_answer write_contents
refused_claim table_most node_most s states start table old refusal e =
    let given =
    refused_answer refusal (size (rule_of s states start table)) (encode_formula (node_bytes s.kind) (rule_of s states start table)) old e in
    (sym given.0, sym given.1)

-- The rule of an accepted call.
module _ (s : Setup) (states start : ℕ) (table old : List ℕ)
    (passes : write_refusal table_limit node_limit s states start table (length old) ≡ none) where
  rule : Formula ℕ
  rule = rule_of s states start table

  through : Passed table_limit node_limit s states start table (length old)
  through = passed table_limit node_limit s states start table (length old) passes

  rule_written : RuleWritten s start table rule
  unfolding rule rule_of
  rule_written =
      let w = is_rule table_limit node_limit s states start table through.setup_passed through.table_passed in
      let l = last_event table_limit node_limit s states start table through.setup_passed through.table_passed in
      let r = runs table_limit node_limit s states start table through.setup_passed through.table_passed in
      let inside = (start_within table_limit node_limit s states start table through.setup_passed through.table_passed).0 in
      let laws = ((setup_accepted s).0 through.setup_passed).laws in
      let m = machine_of s.kind s.events table in
      let claim = characteristic (SetupValue s) (setup_meet s) (setup_top s) s.events laws states (s.events - 1) m l r start inside in
      let ok : Accepted node_limit binder_limit s.events (SetupValue s) (rule_of s states start table) =
      writes_accepted m s.events (SetupValue s) states r node_limit binder_limit w inside through.few_nodes through.shallow in
      let few = few_binders m s.events (s.events - 1) l w through.few_nodes in
      record {
        is_rule = w;
        only_rule = λ χ v. writes_one m s.events v w;
        accepted = ok;
        accepted_bytes =
            (accepted_claim s.events s.kind (encode_formula (node_bytes s.kind) (rule_of s states start table))).1
            (rule_of s states start table, record { written = refl; accepted = ok });
        few_binders = few;
        size_by_binders = claim.6;
        one_state_a_binder = claim.7;
        few_states = at_most few claim.8;
        same_values = claim.5;
        byte_count = formula_length (node_width s.kind) (node_bytes s.kind) (node_code s.kind) (rule_of s states start table);
      }
    where
      at_most :
          binders (rule_of s states start table) ≤ 63
          → StatesAtMost (setup_meet s) (setup_top s) s.events (rule_of s states start table) (binders (rule_of s states start table))
          → StatesAtMost (setup_meet s) (setup_top s) s.events (rule_of s states start table) state_limit
      at_most few (m, first, is_machine, (W, numbering, count)) = (m, first, is_machine, (W, numbering, omega arith))

  written : Written s states start table old
  unfolding rule write_answer write_contents answered put_unless
  written =
      record {
        rule = rule;
        rule_written = rule_written;
        count_is_size = ap (λ o. answered o (size (rule_of s states start table))) passes;
        bytes_put = ap (λ o. put_unless o (encode_formula (node_bytes s.kind) (rule_of s states start table)) old) passes;
      }

pub written_claim : WrittenClaim
written_claim = written
