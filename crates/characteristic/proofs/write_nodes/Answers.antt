-- `write_nodes` meets its contract: 12 where the walk is given up, 23 by the longest path, 13 by the bytes, and the copy.
use mathlib.Core.{Path.{◌≡◌, refl, sym, ◌∙◌, ap}, List.{◌++◌}}
use Rattle.std.proofs.Common.{length, drop}
use Prim.Native.Nat.{ℕ}
use native.Mathlib.Omega.{arith}
use Rattle.std.specs.{Option.{ok_or}, Prelude.{Result, Err}, Result.{result_ok}}
use Rattle.refusal.specs.{declared.Refusal.{Refusal}, declared.Refusal.TheVariants.{WrittenSize}}
use Rattle.refusal.specs.Refusal.{put}
use Rattle.refusal.proofs.Answers.{passed_on}
use Rattle.characteristic.proofs.Outputs.{start_ready, too_many, path_too_long, too_short, all_copied}
use Rattle.characteristic.proofs.write_nodes.Goals as goal

pub write_state-count-requires : goal.write_state-count-requires
write_state-count-requires c =
    start_ready c.args.machine.now c.args.start c.new-path.ensures.opened c.new-path.ensures.depth c.new-nodes.ensures.kind refl c.requires

err_same : {e f : Refusal} → ◌≡◌ {A = Result ℕ Refusal} (Err e) (Err f) → e ≡ f
err_same h = cc h

pub returns-in_err-nodes : goal.returns-in_err-nodes
returns-in_err-nodes c =
    let given_up = c.ok_or.ensures.ok_part ∙ ap result_ok c.in_err-nodes.was in
    let twelve = err_same (sym c.in_err-nodes.was ∙ c.ok_or.ensures.value ∙ ap (λ o. ok_or o WrittenSize) given_up) in
    too_many c.args.machine.now c.args.start c.new-path.ensures.opened c.new-path.ensures.depth c.new-nodes.ensures.kind refl
    c.write_state-count.ensures c.args.to.now given_up
    (passed_on c.from_residual.result c.in_err-nodes.field-0.0 c.from_residual.ensures.1 ∙ ap Err twelve)

pub returns-then-path-gt-BINDER_LIMIT : goal.returns-then-path-gt-BINDER_LIMIT
returns-then-path-gt-BINDER_LIMIT c =
    path_too_long c.args.machine.now c.args.start c.new-path.ensures.opened c.new-path.ensures.depth c.new-nodes.ensures.kind refl
    c.write_state-count.ensures c.args.to.now (c.ok_or.ensures.ok_part ∙ ap result_ok c.in_ok-nodes.was)
    c.new-path.ensures.longest c.if-path-gt-BINDER_LIMIT.true

pub returns-then-to-bytes : goal.returns-then-to-bytes
returns-then-to-bytes c =
    too_short c.args.machine.now c.args.start c.new-path.ensures.opened c.new-path.ensures.depth c.new-nodes.ensures.kind refl
    c.write_state-count.ensures c.args.to.now (c.ok_or.ensures.ok_part ∙ ap result_ok c.in_ok-nodes.was)
    c.new-path.ensures.longest c.if-path-gt-BINDER_LIMIT.false
    (omega (arith, c.if-to-bytes.true, ap length c.bytes-bytes.ensures))

pub returns : goal.returns
unfolding put
returns c =
    all_copied c.args.machine.now c.args.start c.new-path.ensures.opened c.new-path.ensures.depth c.new-nodes.ensures.kind refl
    c.write_state-count.ensures c.args.to.now (c.ok_or.ensures.ok_part ∙ ap result_ok c.in_ok-nodes.was)
    c.new-path.ensures.longest c.if-path-gt-BINDER_LIMIT.false
    (omega (arith, c.if-to-bytes.false, ap length c.bytes-bytes.ensures))
    (ap (λ b. b ++ drop (length c.bytes-bytes.result.now) c.args.to.now) c.copy_from_slice.ensures.after
    ∙ ap (λ b. put b c.args.to.now) c.bytes-bytes.ensures)
