-- No path of a rule has more than twelve V nodes, nor of a written one.
use mathlib.Core.{Path.{◌≡◌, subst}, List.{List}, Option.{some}}
use Prim.Native.Nat.{ℕ}
use native.Mathlib.Omega.{arith}
use Rattle.limits.specs.Limits.{node_limit, binder_limit, table_limit}
use Rattle.theory.specs.Formula.{Formula}
use Rattle.refusal.specs.Refusal.{yield_of}
use Rattle.values.specs.Setup.{Setup}
use Rattle.formulas.specs.RuleConditions.{TooDeep}
use Rattle.formulas.proofs.RuleClaims.{depth_claim, too_deep_claim}
use Rattle.characteristic.specs.{RuleOfTable.{IsRuleOf}, RuleWriting.{write_answer}}
use Rattle.characteristic.proofs.Claims.{written_claim}
use Rattle.product_claims.specs.Requests.{TwelveBinders}
use Rattle.product_claims.proofs.Compiled.{accepted_write}

obeyed :
    (s : Setup) (states start : ℕ) (table old : List ℕ) (n : ℕ) →
    yield_of (write_answer table_limit node_limit s states start table old) ≡ some n →
    (φ : Formula ℕ) → IsRuleOf s.events s.kind start table φ → ¬ TooDeep φ binder_limit
obeyed s states start table old n h φ w deep =
    let made = (written_claim s states start table old (accepted_write s states start table old n h)).rule_written in
    omega (arith, made.accepted.shallow, (depth_claim ℕ _ binder_limit).0 (subst (λ χ. TooDeep χ binder_limit) (made.only_rule φ w) deep))

pub twelve_binders : TwelveBinders
twelve_binders = record { refused = λ s φ. too_deep_claim s.events s.kind φ; obeyed = obeyed }
