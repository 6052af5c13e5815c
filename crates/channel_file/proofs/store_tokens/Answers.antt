-- `channel_file::store_tokens` meets its contract: the node of each token is stored as far as there is room, and counted.
use Prim.Native.Nat.{ℕ, ◌+◌}
use mathlib.Core.{Path.{◌≡◌, subst, ap, ◌∙◌}, List.{◌∷◌}, Bool.{true}}
use native.Mathlib.Omega.{arith}
use lib.ListN.{drop}
use Rattle.text_output.proofs.Outputs.{puts_none}
use Rattle.channel_file.specs.Steps.{token_of, SawToken}
use Rattle.channel_file.proofs.Storing.{was_ok, was_err, tokens_none, tokens_stuck, tokens_next, tokens_forward, tokens_end, tokens_cut}
use Rattle.channel_file.proofs.store_tokens.Goals as goal

pub loop-x-init : goal.loop-x-init
loop-x-init c =
    (omega arith, omega arith, tokens_none c.args.values c.args.text.now c.args.out.now (puts_none _ 0 (omega arith) (omega arith)))

pub returns-in_err-x : goal.returns-in_err-x
returns-in_err-x c =
    let e = was_err c.token_at.result c.in_err-x.ensures.value in
    let q = subst (SawToken c.args.values c.args.text.now c.loop-x.i) e.1 c.token_at.ensures in
    rw c.from_residual.ensures
    (tokens_stuck c.args.values c.args.text.now c.loop-x.i c.loop-x.invariant.2 _ _ (q.same true))

pub returns-in-Err : goal.returns-in-Err
returns-in-Err c =
    let q = subst (SawToken c.args.values c.args.text.now c.loop-x.i) (was_ok c.token_at.result c.in_ok-x.ensures.value) c.token_at.ensures in
    tokens_end c.args.values c.args.text.now c.loop-x.i c.loop-x.invariant.2 (token_of c.args.values c.in_ok-x.x) c.in_ok-x.next (q.same true)
    c.put_node-k.ensures c.in-Err.ensures.1

pub loop-x-smaller : goal.loop-x-smaller
loop-x-smaller c =
    let q = subst (SawToken c.args.values c.args.text.now c.loop-x.i) (was_ok c.token_at.result c.in_ok-x.ensures.value) c.token_at.ensures in
    let s : drop c.in_ok-x.next c.args.text.now ≡ 32 ∷ drop (c.in_ok-x.next + 1) c.args.text.now =
    c.in-Ok-eq32.ensures.1 ∙ ap (λ (b : ℕ). b ∷ drop (c.in_ok-x.next + 1) c.args.text.now) c.in-Ok-eq32.field-0-test in
    let f = tokens_forward c.args.values c.args.text.now c.loop-x.i c.loop-x.invariant.2 (token_of c.args.values c.in_ok-x.x) c.in_ok-x.next (q.same true)
    c.put_node-k.ensures s c.loop-x.invariant.0 in
    let w = c.in-Ok-eq32.ensures.0 in
    omega arith

pub loop-x-preserved : goal.loop-x-preserved
loop-x-preserved c =
    let q = subst (SawToken c.args.values c.args.text.now c.loop-x.i) (was_ok c.token_at.result c.in_ok-x.ensures.value) c.token_at.ensures in
    let s : drop c.in_ok-x.next c.args.text.now ≡ 32 ∷ drop (c.in_ok-x.next + 1) c.args.text.now =
    c.in-Ok-eq32.ensures.1 ∙ ap (λ (b : ℕ). b ∷ drop (c.in_ok-x.next + 1) c.args.text.now) c.in-Ok-eq32.field-0-test in
    let f = tokens_forward c.args.values c.args.text.now c.loop-x.i c.loop-x.invariant.2 (token_of c.args.values c.in_ok-x.x) c.in_ok-x.next (q.same true)
    c.put_node-k.ensures s c.loop-x.invariant.0 in
    let w = c.in-Ok-eq32.ensures.0 in (
      omega arith,
      omega arith,
      tokens_next c.args.values c.args.text.now c.loop-x.i c.loop-x.invariant.2 (token_of c.args.values c.in_ok-x.x) c.in_ok-x.next (q.same true)
          c.put_node-k.ensures s,
    )

pub returns-in-Ok : goal.returns-in-Ok
returns-in-Ok c =
    let q = subst (SawToken c.args.values c.args.text.now c.loop-x.i) (was_ok c.token_at.result c.in_ok-x.ensures.value) c.token_at.ensures in
    tokens_cut c.args.values c.args.text.now c.loop-x.i c.loop-x.invariant.2 (token_of c.args.values c.in_ok-x.x) c.in_ok-x.next (q.same true)
    c.put_node-k.ensures c.in-Ok.field-0 c.in-Ok.ensures.1 c.in-Ok.field-0-test.1
