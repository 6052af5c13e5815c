-- Twin of RuleConditions, pinned by formulas DepthClaim.
-- The most V nodes on a path from a formula's root, computed.
use Rattle.std.specs.Prelude.{ℕ, zero, suc, max}
use Rattle.theory.specs.Formula.{Formula, truth, variable, transition, output, conjunction, greatest}

abbrev pub binder_depth : {B : Type 0} → Formula B → ℕ
binder_depth truth = zero
binder_depth (variable n) = zero
binder_depth (transition e φ) = binder_depth φ
binder_depth (output e b) = zero
binder_depth (conjunction φ χ) = max (binder_depth φ) (binder_depth χ)
binder_depth (greatest φ) = suc (binder_depth φ)
