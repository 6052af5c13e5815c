-- `channel_file::item_at` meets its contract: a token and the separator behind it.
use mathlib.Core.{Path.{◌∙◌}, Bool.{false}}
use Rattle.std.proofs.lemmas.Result.{err_from_is_err_and}
use Rattle.channel_file.proofs.item_at.Goals as goal

pub returns-in_err-x : goal.returns-in_err-x
returns-in_err-x c =
    let q = c.in_err-x.ensures in
    let p = err_from_is_err_and c.from_residual.result c.from_residual.ensures.1 in
    rw (p.1, p.2) (record { same = q.same false; within = q.within })

pub returns-in_err-end : goal.returns-in_err-end
returns-in_err-end c =
    let q = c.in_ok-x.ensures in
    let e = c.in_err-end.ensures in
    let p = err_from_is_err_and c.from_residual-in_err-end.result c.from_residual-in_err-end.ensures.1 in
    rw (p.1, p.2) (record { same = q.same false ∙ rw e.same; within = e.within })

pub returns : goal.returns
returns c =
    let q = c.in_ok-x.ensures in
    let e = c.in_ok-end.ensures in
    record { same = q.same false ∙ rw e.same; within = e.within }
