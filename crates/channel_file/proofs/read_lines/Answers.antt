-- `channel_file::read_lines` meets its contract: line by line, and nothing behind the last.
use Prim.Native.Nat.{ℕ, ◌+◌}
use mathlib.Core.{List.{List}, Path.{refl, sym, ap, ◌∙◌}}
use lib.ListN.{drop, get_or}
use Rattle.std.proofs.lemmas.Result.{err_from_is_err_and}
use Rattle.text_format.specs.Format.{ok, bad}
use Rattle.channel_file.proofs.{Offsets.{here, over}, Reading.{refuse, bad₁, head_read, bad₂, bad₃, bad₄, good}}
use Rattle.channel_file.proofs.read_lines.Goals as goal

pub returns-in_err-top : goal.returns-in_err-top
returns-in_err-top c =
    let e1 = c.number.ensures.text in
    let e2 = c.number-2.ensures.text ∙ e1 in
    let q1 = c.in_ok-events.ensures.line in
    let q2 = rw e1 at c.in_ok-values.ensures.line in
    let q3 = rw e2 at c.in_err-top.ensures.line in
    let p = err_from_is_err_and c.from_residual-in_err-top.result c.from_residual-in_err-top.ensures.1 in
    rw (p.1, p.2) (refuse c.args.text.now _ _ _ _ _ q3.within (bad₁ c.args.text.now _ _ q1.same _ _ q2.same _ q3.same))

pub returns-in_err-entries : goal.returns-in_err-entries
returns-in_err-entries c =
    let e1 = c.number.ensures.text in
    let e2 = c.number-2.ensures.text ∙ e1 in
    let e3 = c.number-3.ensures.text ∙ e2 in
    let q1 = c.in_ok-events.ensures.line in
    let q2 = rw e1 at c.in_ok-values.ensures.line in
    let q3 = rw e2 at c.in_ok-top.ensures.line in
    let h = head_read c.args.text.now _ _ q1.same _ _ q2.same _ _ q3.same in
    let m = (rw e3 at c.in_err-entries.ensures.line).reply in
    let p = err_from_is_err_and c.from_residual-in_err-entries.result c.from_residual-in_err-entries.ensures.1 in
    rw (p.1, p.2) (refuse c.args.text.now _ _ _ _ _ m.within (bad₂ c.args.text.now _ _ q3.within h _ m.same))

pub returns-in_err-items : goal.returns-in_err-items
returns-in_err-items c =
    let e1 = c.number.ensures.text in
    let e2 = c.number-2.ensures.text ∙ e1 in
    let e3 = c.number-3.ensures.text ∙ e2 in
    let q1 = c.in_ok-events.ensures.line in
    let q2 = rw e1 at c.in_ok-values.ensures.line in
    let q3 = rw e2 at c.in_ok-top.ensures.line in
    let h = head_read c.args.text.now _ _ q1.same _ _ q2.same _ _ q3.same in
    let e4 = c.entries.ensures.text ∙ e3 in
    let m = (rw e3 at c.in_ok-entries.ensures.line).reply in
    let r = (rw e4 at c.in_err-items.ensures.line).reply in
    let p = err_from_is_err_and c.from_residual-in_err-items.result c.from_residual-in_err-items.ensures.1 in
    rw (p.1, p.2) (refuse c.args.text.now _ _ _ _ _ r.within (bad₃ c.args.text.now _ _ q3.within h _ _ m.within m.same _ r.same))

pub returns-then-reader-text : goal.returns-then-reader-text
returns-then-reader-text c =
    let e1 = c.number.ensures.text in
    let e2 = c.number-2.ensures.text ∙ e1 in
    let e3 = c.number-3.ensures.text ∙ e2 in
    let q1 = c.in_ok-events.ensures.line in
    let q2 = rw e1 at c.in_ok-values.ensures.line in
    let q3 = rw e2 at c.in_ok-top.ensures.line in
    let h = head_read c.args.text.now _ _ q1.same _ _ q2.same _ _ q3.same in
    let e4 = c.entries.ensures.text ∙ e3 in
    let m = (rw e3 at c.in_ok-entries.ensures.line).reply in
    let r = (rw e4 at c.in_ok-items.ensures.line).reply in
    let d : ℕ = c.items.new.self.at in
    let f = here c.args.text.now d c.if-reader-text.true in
    refuse c.args.text.now d _ _ _ _ r.within
    (bad₄ c.args.text.now _ _ q3.within h _ _ m.within m.same c.in_ok-items.items (get_or c.args.text.now d 0) (drop (d + 1) c.args.text.now)
    (r.same ∙ ap (λ (s : List ℕ). ok c.in_ok-items.items s) f) ∙ ap (λ (s : List ℕ). bad s) (sym f))

pub returns : goal.returns
returns c =
    let e1 = c.number.ensures.text in
    let e2 = c.number-2.ensures.text ∙ e1 in
    let e3 = c.number-3.ensures.text ∙ e2 in
    let q1 = c.in_ok-events.ensures.line in
    let q2 = rw e1 at c.in_ok-values.ensures.line in
    let q3 = rw e2 at c.in_ok-top.ensures.line in
    let h = head_read c.args.text.now _ _ q1.same _ _ q2.same _ _ q3.same in
    let e4 = c.entries.ensures.text ∙ e3 in
    let m = rw e3 at c.in_ok-entries.ensures.line in
    let r = rw e4 at c.in_ok-items.ensures.line in
    good c.args.text.now _ _ q3.within h _ _ m.reply.within m.reply.same _ _ _ _ m.buffer r.buffer _ _ _ refl refl
    (r.reply.same ∙ ap (λ (s : List ℕ). ok c.in_ok-items.items s) (over c.args.text.now c.items.new.self.at c.if-reader-text.false))
