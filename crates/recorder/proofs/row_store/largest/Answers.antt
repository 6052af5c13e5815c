-- `recorder::row_store::largest` meets its contract: the loop's invariant: the largest of the first i entries.
use mathlib.Core.{Path.{◌≡◌, sym, ◌∙◌, ap}}
use Prim.Native.Nat.{◌+◌, max}
use native.Mathlib.Omega.{arith}
use borrow.Author.Rules.{rules}
use lib.ListN.{get_or}
use Rattle.recorder.specs.Decisions.{together}
use Rattle.recorder.proofs.Together.{together_none, together_more, together_there}
use Rattle.recorder.proofs.row_store.largest.Goals as goal

pub loop-i-init : goal.loop-i-init
loop-i-init c = (search rules, omega (arith, c.entries_there-i-end.ensures), together_none max _)

pub loop-i-preserved : goal.loop-i-preserved
loop-i-preserved c = (
  search rules,
  c.loop-i.invariant.1,
  c.max-most.ensures
      ∙ ap (λ m. max m (get_or c.args.entries.now (c.args.from + c.loop-i.i) 0)) c.loop-i.invariant.2
      ∙ sym (together_more max (λ j. get_or c.args.entries.now (c.args.from + j) 0) c.loop-i.i),
)

pub returns : goal.returns
returns c =
    let e : c.loop-i.i ≡ c.entries_there-i-end.result = omega arith in
    c.loop-i.invariant.2 ∙ ap (λ n. together max n (λ j. get_or c.args.entries.now (c.args.from + j) 0)) (e ∙ c.entries_there-i-end.ensures)
    ∙ together_there max (λ k. omega arith) c.args.entries.now c.args.from (omega arith) c.args.count
