-- What is judged on the decoded fields is judged on the bytes.
use mathlib.Core.{Path.{◌≡◌, refl, sym, ◌∙◌, ap}, Bool.{Bool, true, false, ◌&&◌}, Option.{some}, List.{List}}
use Prim.Native.Nat.{ℕ, ◌/◌, ◌%◌, ◌≤◌, ◌<◌, min}
use native.Mathlib.{Nat.{min-le_left, min-eq_right}, Omega.{arith}}
use lib.{Dec.{eqb, ltb, leb}, ListN.{length}}
use borrow.Author.Tests.{eqb-true, ltb-true, leb-true}
use Rattle.limits.specs.Limits.{node_limit}
use Rattle.refusal.specs.{RefusalAnswers.{or_else, plain_unless}, declared.Refusal.TheVariants.{NodeCount}}
use Rattle.values.specs.declared.ValueKind.{ValueKind}
use Rattle.formulas.specs.RuleConditions.{node_width}
use Rattle.formulas.specs.RuleRefusal.{count_fits, nodes_refusal, fields_refusal, kind_at, first_at, value_at, rule_refusal}
use Rattle.formulas.specs.{NodeWalks.{field}, NodeArrays.{padded, decoded_count, decoded}}
use Rattle.formulas.proofs.{Padding.{padded_field}, Answers.{refusal_same, count_within}}
use Rattle.values.specs.ValueTests.{value_fits}

-- What 5 asks.
pub record CountFits (width limit n : ℕ) : Type 0 where
  pub whole : n % width ≡ 0
  pub some_node : 0 < n / width
  pub within : n / width ≤ limit

pub count_facts : (width limit n : ℕ) → count_fits width limit n ≡ true → CountFits width limit n
unfolding count_fits
count_facts width limit n e = go (eqb (n % width) 0) (ltb 0 (n / width)) (leb (n / width) limit) refl refl refl e
  where
    go :
        (a b c : Bool) → eqb (n % width) 0 ≡ a → ltb 0 (n / width) ≡ b → leb (n / width) limit ≡ c → (a && (b && c)) ≡ true
        → CountFits width limit n
    go true true true x y z e = record { whole = eqb-true (n % width) 0 x; some_node = ltb-true 0 (n / width) y; within = leb-true (n / width) limit z }
    go true true false x y z e = let q : ◌≡◌ {A = ℕ} 0 1 = cc in absurd (omega arith)
    go true false c x y z e = let q : ◌≡◌ {A = ℕ} 0 1 = cc in absurd (omega arith)
    go false b c x y z e = let q : ◌≡◌ {A = ℕ} 0 1 = cc in absurd (omega arith)

pub decoded_limit : (kind : ValueKind) (bytes : List ℕ) → (decoded kind bytes).count ≤ node_limit
unfolding decoded decoded_count
decoded_limit kind bytes = min-le_left node_limit (length bytes / node_width kind)

module _ (events : ℕ) (kind : ValueKind) (bytes : List ℕ) where
  -- 5 is met.
  pub rule_misfit : count_fits (node_width kind) node_limit (length bytes) ≡ false → rule_refusal events kind bytes ≡ some NodeCount
  unfolding rule_refusal or_else plain_unless
  rule_misfit e =
      ap (λ b. or_else (plain_unless b NodeCount) (nodes_refusal (kind_at kind bytes) (first_at kind bytes) (value_at kind bytes)
      (length bytes / node_width kind)
      (value_fits kind) events)) e

  -- 5 is not met.
  pub rule_fits :
      count_fits (node_width kind) node_limit (length bytes) ≡ true
      → rule_refusal events kind bytes ≡ nodes_refusal (kind_at kind bytes) (first_at kind bytes) (value_at kind bytes) (length bytes / node_width kind)
      (value_fits kind) events
  unfolding rule_refusal or_else plain_unless
  rule_fits e =
      ap (λ b. or_else (plain_unless b NodeCount) (nodes_refusal (kind_at kind bytes) (first_at kind bytes) (value_at kind bytes)
      (length bytes / node_width kind)
      (value_fits kind) events)) e

  decoded_nodes :
      count_fits (node_width kind) node_limit (length bytes) ≡ true
      → nodes_refusal (field (decoded kind bytes).kinds) (field (decoded kind bytes).firsts) (field (decoded kind bytes).values)
      (decoded kind bytes).count (value_fits kind) events
      ≡ rule_refusal events kind bytes
  unfolding decoded decoded_count
  decoded_nodes e =
      let w : CountFits (node_width kind) node_limit (length bytes) = count_facts (node_width kind) node_limit (length bytes) e in
      let n : min node_limit (length bytes / node_width kind) ≡ length bytes / node_width kind = min-eq_right w.within in
      refusal_same
      (field (padded (kind_at kind bytes) (min node_limit (length bytes / node_width kind)) node_limit 0))
      (kind_at kind bytes)
      (field (padded (first_at kind bytes) (min node_limit (length bytes / node_width kind)) node_limit 0))
      (first_at kind bytes)
      (field (padded (value_at kind bytes) (min node_limit (length bytes / node_width kind)) node_limit 0))
      (value_at kind bytes)
      (min node_limit (length bytes / node_width kind))
      (value_fits kind)
      events
      (λ j h. padded_field (kind_at kind bytes) (min node_limit (length bytes / node_width kind)) node_limit j h
      (min-le_left node_limit (length bytes / node_width kind)))
      (λ j h. padded_field (first_at kind bytes) (min node_limit (length bytes / node_width kind)) node_limit j h
      (min-le_left node_limit (length bytes / node_width kind)))
      (λ j h. padded_field (value_at kind bytes) (min node_limit (length bytes / node_width kind)) node_limit j h
      (min-le_left node_limit (length bytes / node_width kind)))
      ∙ ap (λ c. nodes_refusal (kind_at kind bytes) (first_at kind bytes) (value_at kind bytes) c (value_fits kind) events) n
      ∙ sym (rule_fits e)

  decoded_some : count_fits (node_width kind) node_limit (length bytes) ≡ true → ¬ ((decoded kind bytes).count ≡ 0)
  unfolding decoded decoded_count
  decoded_some e z =
      let w : CountFits (node_width kind) node_limit (length bytes) = count_facts (node_width kind) node_limit (length bytes) e in
      let n : min node_limit (length bytes / node_width kind) ≡ length bytes / node_width kind = min-eq_right w.within in
      omega (arith, w.some_node, sym n ∙ z)

  -- The decoded fields are judged as the bytes are.
  pub decoded_refusal :
      count_fits (node_width kind) node_limit (length bytes) ≡ true
      → fields_refusal (field (decoded kind bytes).kinds) (field (decoded kind bytes).firsts) (field (decoded kind bytes).values)
      (decoded kind bytes).count (value_fits kind) events
      ≡ rule_refusal events kind bytes
  decoded_refusal e =
      count_within (field (decoded kind bytes).kinds) (field (decoded kind bytes).firsts) (field (decoded kind bytes).values)
      (decoded kind bytes).count (value_fits kind) events
      (decoded_some e) (decoded_limit kind bytes)
      ∙ decoded_nodes e
