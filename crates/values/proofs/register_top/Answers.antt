-- `values::register_top` meets its contract.
use mathlib.Core.Path.{◌≡◌}
use Prim.Native.Nat.{min}
use native.Mathlib.Omega.{arith}
use borrow.Author.Rules.{rules}
use Rattle.limits.specs.Limits.{line_limit}
use Rattle.theory.specs.ValueSets.{pack, top_masks}
use Rattle.values.proofs.register_top.Goals as goal

pub returns-then-lines-lt-LINE_LIMIT : goal.returns-then-lines-lt-LINE_LIMIT
unfolding pack top_masks
returns-then-lines-lt-LINE_LIMIT c =
    let few : min c.args.lines line_limit ≡ c.args.lines = omega arith in
    rw few (search rules)

pub returns : goal.returns
unfolding pack top_masks
returns c =
    let many : min c.args.lines line_limit ≡ line_limit = omega arith in
    rw many (search rules)
