-- `put_number` meets its contract: the digits above the last, then the last.
use native.Mathlib.Omega.{arith}
use mathlib.Core.{Path.{sym, ap, ◌∙◌}, List.{[], ◌∷◌, ◌++◌}}
use Prim.Native.Nat.{ℕ, ◌/◌}
use Rattle.text_format.specs.Texts.{numeral}
use Rattle.text_output.proofs.Outputs.{puts_as, puts_then, numeral_digit, numeral_more}
use Rattle.text_output.proofs.+put_number.Goals as goal

pub returns-then-v-lt10 : goal.returns-then-v-lt10
returns-then-v-lt10 t c =
    puts_as (ap (λ (d : ℕ). d ∷ []) c.digit.ensures ∙ sym (numeral_digit c.args.v c.if-v-lt10.true)) c.put.ensures

pub returns : goal.returns
returns t c =
    let v = c.args.v in
    puts_as (ap (λ (d : ℕ). numeral (v / 10) ++ (d ∷ [])) c.digit-2.ensures ∙ sym (numeral_more v c.if-v-lt10.false (omega arith)))
    (puts_then c.put_number-n.ensures c.put-2.ensures)
