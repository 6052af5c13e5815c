-- `machines::is_product` meets its contract: by the remainder, then the quotient.
use mathlib.Core.Path.{sym}
use borrow.Author.Rules.{rules}
use Rattle.machines.proofs.Products.{product_zero, product_remainder, product_quotient}
use Rattle.machines.proofs.is_product.Goals as goal

pub returns-then-b-eq0 : goal.returns-then-b-eq0
returns-then-b-eq0 c = product_zero _ _ _ c.if-b-eq0.true

pub returns-then-n-b-ne0 : goal.returns-then-n-b-ne0
returns-then-n-b-ne0 c = sym (product_remainder _ _ _ c.if-n-b-ne0.true)

pub returns : goal.returns
returns c = product_quotient _ _ _ (search rules) c.if-n-b-ne0.false
