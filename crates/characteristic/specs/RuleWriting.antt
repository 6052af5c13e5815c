-- Twin of RuleOfTable, pinned by product_claims DemandTwo.
-- The rule of a table, computed: the refusal, the answer, and what the lent buffer holds afterwards.
use mathlib.Core.{Option.{Option}, List.{List}}
use Rattle.std.specs.Prelude.{ℕ, ◌-◌, ◌*◌, Result}
use lib.{ListN.{length}, Dec.{leb}}
use Rattle.theory.specs.{Formula.{Formula, size}, FormulaWriting.{written}}
use Rattle.refusal.specs.{declared.Refusal.{Refusal}, RefusalAnswers.{or_else, plain_unless, answered, put_unless}}
use Rattle.values.specs.{declared.ValueKind.{ValueKind}, Setup.{Setup}, SetupTests.{setup_refusal}}
use Rattle.formulas.specs.{RuleConditions.{encode_formula, node_width, node_bytes}, RuleRefusal.{depth_refusal}}
use Rattle.machines.specs.{TableBytes.{machine_of}, TableRefusal.{table_refusal}}
use Rattle.refusal.specs.declared.Refusal.TheVariants.{BufferLength, WrittenSize}

-- 12 or 23 or 13 or none, for a formula that is written to a buffer of `room` bytes.
unfoldable pub output_refusal : ValueKind → (node_most : ℕ) → Formula ℕ → (room : ℕ) → Option Refusal
output_refusal kind node_most φ room =
    or_else (plain_unless (leb (size φ) node_most) WrittenSize) (or_else (depth_refusal φ) (plain_unless (leb (size φ * node_width kind) room) BufferLength))

-- The rule of the table.
unfoldable pub rule_of : Setup → (states start : ℕ) → List ℕ → Formula ℕ
rule_of s states start table = written (machine_of s.kind s.events table) states (s.events - 1) start

module _ (table_most node_most : ℕ) (s : Setup) (states start : ℕ) (table : List ℕ) where
  unfoldable pub write_refusal : ℕ → Option Refusal
  write_refusal room =
      or_else (setup_refusal s)
      (or_else (table_refusal table_most s.events s.kind states start table)
      (output_refusal s.kind node_most (rule_of s states start table) room))

  -- The answer: the node count, or the refusal.
  unfoldable pub write_answer : List ℕ → Result ℕ Refusal
  write_answer old = answered (write_refusal (length old)) (size (rule_of s states start table))

  -- The lent buffer afterwards: the rule's nodes at its front.
  unfoldable pub write_contents : List ℕ → List ℕ
  write_contents old =
      put_unless (write_refusal (length old)) (encode_formula (node_bytes s.kind) (rule_of s states start table)) old
