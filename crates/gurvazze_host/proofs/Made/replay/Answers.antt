-- `Made::replay` meets its contract: 16, 13, or the values of either kind.
use Prim.Native.Nat.{ℕ, ◌/◌, ◌≤◌, ◌<◌}
use mathlib.Core.{Path.{sym, ◌∙◌, ap, subst, subst₂}, List.{List}}
use lib.ListN.{length}
use Rattle.refusal.specs.Refusal.{put}
use Rattle.values.specs.declared.ValueKind.TheVariants.{Numbered, Register}
use Rattle.gurvazze_host.specs.FileCalls.{played, Runnable}
use Rattle.gurvazze_host.proofs.Calls.{replays_16, replays_13, number_run, masks_run, number_ran, masks_ran}
use Rattle.gurvazze_host.proofs.Made.replay.Goals as goal

pub returns-then-not-word_in_order : goal.returns-then-not-word_in_order
returns-then-not-word_in_order c = replays_16 _ _ _ _ _ (sym c.word_in_order.ensures ∙ c.if-not-word_in_order.true)

pub returns-then-to-value_width : goal.returns-then-to-value_width
returns-then-to-value_width c =
    replays_13 _ _ _ _ _ (sym c.word_in_order.ensures ∙ c.if-not-word_in_order.false)
    (subst (λ (k : ℕ). length c.args.to.now / k < length c.args.word.now) c.value_width.ensures c.if-to-value_width.true)

pub run-requires-clause-runs : goal.run-requires-clause-runs
run-requires-clause-runs c =
    let fits = subst (λ (k : ℕ). length c.args.word.now ≤ length c.args.to.now / k) c.value_width.ensures c.if-to-value_width.false in
    subst₂ (λ (n : ℕ) (table : List ℕ). Runnable (Numbered 0) c.args.self.events n table c.args.word.now c.args.to.now)
    (sym c.table-table.ensures.states) (sym c.table-table.ensures.entries)
    (number_run _ _ _ c.requires.playable (sym c.word_in_order.ensures ∙ c.if-not-word_in_order.false) fits c.in-Numbered.is)

pub run-requires-in-Register-clause-runs : goal.run-requires-in-Register-clause-runs
run-requires-in-Register-clause-runs c =
    let fits = subst (λ (k : ℕ). length c.args.word.now ≤ length c.args.to.now / k) c.value_width.ensures c.if-to-value_width.false in
    subst₂ (λ (n : ℕ) (table : List ℕ). Runnable (Register 0) c.args.self.events n table c.args.word.now c.args.to.now)
    (sym c.table-table.ensures.states) (sym c.table-table.ensures.entries)
    (masks_run _ _ _ c.requires.playable (sym c.word_in_order.ensures ∙ c.if-not-word_in_order.false) fits c.in-Register.is)

pub returns-in-Numbered : goal.returns-in-Numbered
returns-in-Numbered c =
    let fits = subst (λ (k : ℕ). length c.args.word.now ≤ length c.args.to.now / k) c.value_width.ensures c.if-to-value_width.false in
    number_ran _ _ _ c.requires.playable (sym c.word_in_order.ensures ∙ c.if-not-word_in_order.false) fits c.in-Numbered.is
    (c.run.ensures
    ∙ ap (λ (table : List ℕ). put (played (Numbered 0) c.args.self.events table c.args.word.now) c.args.to.now) c.table-table.ensures.entries)

pub returns-in-Register : goal.returns-in-Register
returns-in-Register c =
    let fits = subst (λ (k : ℕ). length c.args.word.now ≤ length c.args.to.now / k) c.value_width.ensures c.if-to-value_width.false in
    masks_ran _ _ _ c.requires.playable (sym c.word_in_order.ensures ∙ c.if-not-word_in_order.false) fits c.in-Register.is
    (c.run-in-Register.ensures
    ∙ ap (λ (table : List ℕ). put (played (Register 0) c.args.self.events table c.args.word.now) c.args.to.now) c.table-table.ensures.entries)
