-- `recorder::row_store::all_bits` meets its contract: the loop's invariant: the bits of the first i values.
use mathlib.Core.Path.{◌≡◌, sym, ◌∙◌, ap}
use Prim.Native.Nat.{◌+◌}
use native.Mathlib.Omega.{arith}
use borrow.Author.Rules.{rules}
use lib.{Bits.{bit_or, or_zero_r}, ListN.{get_or}}
use Rattle.recorder.specs.Decisions.{together}
use Rattle.recorder.proofs.Together.{together_none, together_more, together_there}
use Rattle.recorder.proofs.row_store.all_bits.Goals as goal

pub loop-i-init : goal.loop-i-init
loop-i-init c = (search rules, omega (arith, c.entries_there-i-end.ensures), together_none bit_or _)

pub loop-i-preserved : goal.loop-i-preserved
loop-i-preserved c = (
  search rules,
  c.loop-i.invariant.1,
  ap (λ b. bit_or b (get_or c.args.values.now (c.args.from + c.loop-i.i) 0)) c.loop-i.invariant.2
      ∙ sym (together_more bit_or (λ j. get_or c.args.values.now (c.args.from + j) 0) c.loop-i.i),
)

pub returns : goal.returns
returns c =
    let e : c.loop-i.i ≡ c.entries_there-i-end.result = omega arith in
    c.loop-i.invariant.2 ∙ ap (λ n. together bit_or n (λ j. get_or c.args.values.now (c.args.from + j) 0)) (e ∙ c.entries_there-i-end.ensures)
    ∙ together_there bit_or or_zero_r c.args.values.now c.args.from (omega arith) c.args.count
