-- `machines::is_table_length` meets its contract: a multiple of the width, whose quotient is states × events.
use mathlib.Core.Path.{sym, ◌∙◌}
use native.Mathlib.Omega.{arith}
use Rattle.machines.proofs.Products.{product_remainder, product_quotient}
use Rattle.machines.proofs.is_table_length.Goals as goal

pub returns-then-n-width-ne0 : goal.returns-then-n-width-ne0
returns-then-n-width-ne0 c = sym (product_remainder _ _ c.args.width c.if-n-width-ne0.true)

pub returns : goal.returns
returns c = c.is_product.ensures ∙ product_quotient _ _ c.args.width (omega arith) c.if-n-width-ne0.false
