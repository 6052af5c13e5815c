-- `Pair::keep` meets its contract: the judgement first, then the room in both buffers.
use Prim.Native.Nat.{ℕ}
use mathlib.Core.{Path.{sym, ap, ◌∙◌}, Logic.{inl, inr}, List.{List, ◌++◌}}
use native.Mathlib.Omega.{arith}
use lib.ListN.{length, drop}
use Rattle.refusal.specs.Refusal.{put}
use Rattle.refusal.proofs.Answers.{passed_on}
use Rattle.channel_io.proofs.Pairs.{keeps_refused, keeps_short, keeps_all}
use Rattle.channel_io.proofs.Pair.keep.Goals as goal

pub returns-in_err-check : goal.returns-in_err-check
returns-in_err-check c =
    keeps_refused _ _ c.args.meet.now c.args.rule.now (passed_on c.from_residual.result c.in_err-check.field-0.0 c.from_residual.ensures.1)
    (sym c.check.ensures ∙ c.in_err-check.was)

pub returns-then-meet-entries : goal.returns-then-meet-entries
returns-then-meet-entries c =
    let entries = ap length c.entries-entries.ensures in
    keeps_short _ _ c.args.meet.now c.args.rule.now (sym c.check.ensures ∙ c.in_ok-check.was) (inl (omega (arith, entries, c.if-meet-entries.true)))

pub returns-then-rule-self : goal.returns-then-rule-self
returns-then-rule-self c =
    keeps_short _ _ c.args.meet.now c.args.rule.now (sym c.check.ensures ∙ c.in_ok-check.was) (inr c.if-rule-self.true)

pub returns : goal.returns
unfolding put
returns c =
    let entries = ap length c.entries-entries.ensures in
    keeps_all _ _ c.args.meet.now c.args.rule.now (sym c.check.ensures ∙ c.in_ok-check.was) (omega (arith, entries, c.if-meet-entries.false))
    c.if-rule-self.false
    (ap (λ (l : List ℕ). l ++ drop (length c.entries-entries.result.now) c.args.meet.now) c.copy_from_slice.ensures.after
    ∙ ap (λ (l : List ℕ). l ++ drop (length l) c.args.meet.now) c.entries-entries.ensures)
    (ap (λ (l : List ℕ). l ++ drop (length c.args.self.nodes.now) c.args.rule.now) c.copy_from_slice-2.ensures.after)
