-- `has_tokens` meets its contract. The invariant: all nodes have tokens exactly if those from here on have.
use Prim.Native.Nat.{ℕ, ◌+◌}
use mathlib.Core.{Path.{◌≡◌, refl, sym, ap, ◌∙◌}, Bool.{Bool}}
use native.Mathlib.Omega.{arith}
use lib.ListN.{drop, get_or}
use Rattle.channel_writer.specs.Steps.{is_some, has_with, width, value_at, is_unused, tokens_of}
use Rattle.channel_writer.proofs.Nodes.{width_least, with_any, some_on, some_not, some_over, some_end}
use Rattle.channel_writer.proofs.has_tokens.Goals as goal

pub loop-at-init : goal.loop-at-init
loop-at-init c = (omega arith, refl)

pub returns-then-nodes-at : goal.returns-then-nodes-at
returns-then-nodes-at c =
    let z : c.width_of-size.result ≡ width c.args.values = c.width_of-size.ensures in
    sym (c.loop-at.invariant.1 ∙ some_over c.args.values _ _ c.loop-at-test.true (omega (arith, c.if-nodes-at.true)))

pub bounds-nodes-at-in-loop-at : goal.bounds-nodes-at-in-loop-at
bounds-nodes-at-in-loop-at c =
    let z : c.width_of-size.result ≡ width c.args.values =
    c.width_of-size.ensures in
    omega (arith, c.if-nodes-at.false, width_least c.args.values)

pub unused_at-requires : goal.unused_at-requires
unused_at-requires c =
    let z : c.width_of-size.result ≡ width c.args.values =
    c.width_of-size.ensures in
    omega (arith, c.if-nodes-at.false)

pub returns-then-not-has_token : goal.returns-then-not-has_token
returns-then-not-has_token c =
    let z : c.width_of-size.result ≡ width
    c.args.values = c.width_of-size.ensures in
    let v = value_at c.args.values c.args.nodes.now (c.loop-at.at + 2) in
    let e = c.has_token.ensures ∙ ap (λ (u : Bool). has_with u (get_or c.args.nodes.now c.loop-at.at 0) (get_or c.args.nodes.now (c.loop-at.at + 1) 0))
    c.unused_at.ensures ∙ with_any (is_unused c.args.values v) v (get_or c.args.nodes.now c.loop-at.at 0) (get_or c.args.nodes.now (c.loop-at.at + 1) 0) in
    sym (c.loop-at.invariant.1 ∙ some_not c.args.values c.args.nodes.now c.loop-at.at (omega
    (arith, c.if-nodes-at.false)) (sym e ∙ c.if-not-has_token.true))

pub loop-at-smaller : goal.loop-at-smaller
loop-at-smaller c =
    let z : c.width_of-size.result ≡ width
    c.args.values = c.width_of-size.ensures in
    omega (
      arith,
      c.if-nodes-at.false,
      width_least c.args.values,
    )

pub loop-at-preserved : goal.loop-at-preserved
loop-at-preserved c =
    let z : c.width_of-size.result ≡ width
    c.args.values = c.width_of-size.ensures in
    let v = value_at c.args.values c.args.nodes.now (c.loop-at.at + 2) in
    let e = c.has_token.ensures ∙ ap (λ (u : Bool). has_with u (get_or c.args.nodes.now c.loop-at.at 0) (get_or c.args.nodes.now (c.loop-at.at + 1) 0))
    c.unused_at.ensures ∙ with_any (is_unused c.args.values v) v (get_or c.args.nodes.now c.loop-at.at 0) (get_or c.args.nodes.now (c.loop-at.at + 1) 0) in (
      omega (arith, c.if-nodes-at.false),
      c.loop-at.invariant.1 ∙ some_on c.args.values c.args.nodes.now c.loop-at.at (omega
          (arith, c.if-nodes-at.false)) (sym e ∙ c.if-not-has_token.false)
          ∙ ap (λ (n : ℕ). is_some (tokens_of c.args.values (drop (c.loop-at.at + n) c.args.nodes.now))) (sym z),
    )

pub returns : goal.returns
returns c = sym (c.loop-at.invariant.1 ∙ some_end c.args.values _ _ c.loop-at-test.false)
