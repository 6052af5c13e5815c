-- The cases on the rule of a table, computed from the definitions.
use mathlib.Core.{Path.{◌≡◌, refl, ◌∙◌, ap}, Option.{Option, none}, List.{List}}
use Prim.Native.Nat.{ℕ, suc, ◌*◌, ◌≤◌, ◌<◌}
use native.Mathlib.Omega.{arith}
use lib.{Dec.{lit≤}, ListN.{length}}
use Rattle.limits.specs.Limits.{node_limit, binder_limit, table_limit}
use Rattle.theory.specs.{Formula.{Formula, size}, BinderDepth.{binder_depth}, ValueSetTests.{every}}
use Rattle.refusal.specs.{declared.{Refusal.{Refusal}}, declared.Refusal.TheVariants.{BinderDepth, WrittenSize}}
use Rattle.refusal.specs.RefusalAnswers.{answered, plain_unless}
use Rattle.values.specs.declared.ValueKind.TheVariants.{Numbered}
use Rattle.values.specs.{Setup.{Setup}, SetupTests.{setup_refusal}}
use Rattle.values.proofs.Setups.{four_value_setup}
use Rattle.formulas.specs.RuleConditions.{node_width}
use Rattle.machines.specs.TableRefusal.{table_test, entry_test, table_refusal}
use Rattle.characteristic.specs.RuleWriting.{output_refusal, rule_of, write_answer}
use Rattle.characteristic.specs.WrittenCases.{four_values, chain_rows, ChainClaim}
use Rattle.characteristic.proofs.{Outputs.{over_limit, over_depth, fits_room}, Answers.{output_last}}
use Rattle.std.specs.Prelude.{Err, Ok}

-- The answer for a set-up and a table that are in order, from the size and the depth of the rule.
module _ (s : Setup) (states start : ℕ) (rows old : List ℕ) (setup_passed : setup_refusal s ≡ none)
    (table_passed : table_refusal table_limit s.events s.kind states start rows ≡ none) where
  rule : Formula ℕ
  rule = rule_of s states start rows

  answer :
      {o : Option Refusal} → output_refusal s.kind node_limit rule (length old) ≡ o
      → write_answer table_limit node_limit s states start rows old ≡ answered o (size rule)
  unfolding write_answer rule
  answer e =
      ap (λ o. answered o (size (rule_of s states start rows)))
      (output_last table_limit node_limit s states start rows (length old) setup_passed table_passed ∙ e)

  answer_fits :
      (k : ℕ) → size rule ≡ k → k ≤ node_limit → binder_depth rule ≤ binder_limit → k * node_width s.kind ≤ length old
      → write_answer table_limit node_limit s states start rows old ≡ Ok k
  unfolding answered
  answer_fits k e few shallow room =
      answer (fits_room s.kind node_limit rule (length old) (omega (arith, e)) shallow
      (omega (arith, room, ap (λ n. n * node_width s.kind) e)))
      ∙ ap Ok e

  answer_deep :
      size rule ≤ node_limit → binder_limit < binder_depth rule → write_answer table_limit node_limit s states start rows old ≡ Err BinderDepth
  unfolding answered
  answer_deep few deep = answer (over_depth s.kind node_limit rule (length old) few deep)

  answer_over : node_limit < size rule → write_answer table_limit node_limit s states start rows old ≡ Err WrittenSize
  unfolding answered
  answer_over many = answer (over_limit s.kind node_limit rule (length old) many)

one_event : setup_refusal (four_values 1) ≡ none
one_event = four_value_setup 1 (lit≤ tt) (lit≤ tt)

-- The chain of c + 1 states is in order; and its rule, whose size and depth are computed.
abbrev ChainInOrder : ℕ → Type 0
ChainInOrder c = table_refusal table_limit 1 (Numbered 4) (suc c) 0 (chain_rows c 0) ≡ none

abbrev chain_rule : ℕ → Formula ℕ
chain_rule c = rule_of (four_values 1) (suc c) 0 (chain_rows c 0)

in_order : ChainInOrder 11 × ChainInOrder 12 × ChainInOrder 62 × ChainInOrder 63
unfolding chain_rows table_refusal table_test every entry_test plain_unless
in_order = (refl, refl, refl, refl)

sizes : (size (chain_rule 11) ≡ 49) × (size (chain_rule 12) ≡ 53) × (size (chain_rule 62) ≡ 253) × (size (chain_rule 63) ≡ 257)
unfolding chain_rows rule_of
sizes = (refl, refl, refl, refl)

depths : (binder_depth (chain_rule 11) ≡ 12) × (binder_depth (chain_rule 12) ≡ 13) × (binder_depth (chain_rule 62) ≡ 63)
unfolding chain_rows rule_of
depths = (refl, refl, refl)

pub chains : ChainClaim
unfolding rule
chains =
    record {
      twelve = λ old room.
          answer_fits (four_values 1) 12 0 (chain_rows 11 0) old one_event in_order.0 49 sizes.0 (lit≤ tt) (omega (arith, depths.0)) room;
      thirteen = λ old.
          answer_deep (four_values 1) 13 0 (chain_rows 12 0) old one_event in_order.1 (omega (arith, sizes.1)) (omega (arith, depths.1));
      sixty_three = λ old.
          answer_deep (four_values 1) 63 0 (chain_rows 62 0) old one_event in_order.2 (omega (arith, sizes.2)) (omega (arith, depths.2));
      sixty_four = λ old. answer_over (four_values 1) 64 0 (chain_rows 63 0) old one_event in_order.3 (omega (arith, sizes.3));
    }
