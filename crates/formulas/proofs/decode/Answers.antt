-- `decode` meets its contract. The loop's invariant: the arrays are filled in up to i, and node i starts at `at`.
use Rattle.limits.specs.Limits.{node_limit}
use Rattle.formulas.specs.declared.Nodes.{Nodes}
use Prim.Native.Nat.{ℕ, ◌+◌, ◌*◌, ◌/◌, ◌<◌, min}
use mathlib.Core.{Path.{◌≡◌, sym, ◌∙◌, ap, ap₂}, List.{List}}
use native.Mathlib.{Omega.{arith}}
use lib.ListN.{length, set, get_or}
use Rattle.formulas.specs.RuleRefusal.{kind_at, first_at, value_at}
use Rattle.formulas.specs.NodeArrays.{padded, decoded_count, decoded}
use Rattle.formulas.proofs.{Padding.{padded_none, padded_more}}
use Rattle.values.specs.Setup.{value_from}
use Rattle.formulas.proofs.decode.Goals as goal

same :
    {m n : ℕ} {k k2 f f2 v v2 : List ℕ} → m ≡ n → k ≡ k2 → f ≡ f2 → v ≡ v2
    → ◌≡◌ {A = Nodes} (record { count = m; kinds = k; firsts = f; values = v }) (record { count = n; kinds = k2; firsts = f2; values = v2 })
same a b c d = cc

pub loop-i-init : goal.loop-i-init
loop-i-init c = (
  c.node_width-width.ensures.0,
  c.min-count.ensures ∙ ap (λ x. min node_limit (length c.args.bytes.now / x)) c.node_width-width.ensures.0,
  sym (padded_none (kind_at c.args.kind c.args.bytes.now) node_limit 0),
  sym (padded_none (first_at c.args.kind c.args.bytes.now) node_limit 0),
  sym (padded_none (value_at c.args.kind c.args.bytes.now) node_limit 0),
)

pub loop-i-preserved : goal.loop-i-preserved
loop-i-preserved c =
    let h : c.loop-i.i < node_limit = omega (arith, c.loop-i.invariant.1) in (
      c.loop-i.invariant.0,
      c.loop-i.invariant.1,
      ap₂ (λ l x. set l c.loop-i.i (get_or c.args.bytes.now (c.loop-i.i * x) 0)) c.loop-i.invariant.2 c.loop-i.invariant.0
          ∙ padded_more (kind_at c.args.kind c.args.bytes.now) node_limit c.loop-i.i h,
      ap₂ (λ l x. set l c.loop-i.i (get_or c.args.bytes.now (c.loop-i.i * x + 1) 0)) c.loop-i.invariant.3 c.loop-i.invariant.0
          ∙ padded_more (first_at c.args.kind c.args.bytes.now) node_limit c.loop-i.i h,
      ap₂ (λ l x. set l c.loop-i.i x) c.loop-i.invariant.4 (c.value_from.ensures ∙ ap (λ x. value_from c.args.kind c.args.bytes.now (c.loop-i.i * x + 2))
          c.loop-i.invariant.0) ∙ padded_more (value_at c.args.kind c.args.bytes.now) node_limit c.loop-i.i h,
    )

pub returns : goal.returns
unfolding decoded decoded_count
returns c =
    let e : c.loop-i.i ≡ decoded_count c.args.kind c.args.bytes.now = omega (arith, c.loop-i.invariant.1) in
    same
    c.loop-i.invariant.1
    (c.loop-i.invariant.2 ∙ ap (λ x. padded (kind_at c.args.kind c.args.bytes.now) x node_limit 0) e)
    (c.loop-i.invariant.3 ∙ ap (λ x. padded (first_at c.args.kind c.args.bytes.now) x node_limit 0) e)
    (c.loop-i.invariant.4 ∙ ap (λ x. padded (value_at c.args.kind c.args.bytes.now) x node_limit 0) e)
