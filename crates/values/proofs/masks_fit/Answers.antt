-- `values::masks_fit` meets its contract: both masks are below the bound, which 16 lines and more make no test.
use native.Mathlib.Omega.{arith}
use mathlib.Core.Path.{sym}
use Rattle.values.proofs.ValueKinds.{wide_masks, low_mask, high_mask}
use Rattle.values.proofs.masks_fit.Goals as goal

pub returns-then-lines-ge16 : goal.returns-then-lines-ge16
returns-then-lines-ge16 c = sym (wide_masks c.args.lines c.args.v (omega arith) (omega arith))

pub returns-then-bound-v : goal.returns-then-bound-v
returns-then-bound-v c =
    sym (low_mask c.args.lines c.args.v c.mask_bound-bound.result c.mask_bound-bound.ensures.0 (omega arith) c.if-bound-v.true)

pub returns : goal.returns
returns c =
    sym (high_mask c.args.lines c.args.v c.mask_bound-bound.result c.mask_bound-bound.ensures.0 (omega arith) c.if-bound-v.false)
