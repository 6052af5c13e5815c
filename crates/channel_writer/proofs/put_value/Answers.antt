-- `put_value` meets its contract, by the kind of values.
use Prim.Native.Nat.{ℕ, ◌+◌}
use mathlib.Core.{Path.{◌≡◌, sym, ap, subst}, List.{List, ◌∷◌, ◌++◌}}
use native.Mathlib.Omega.{arith}
use Rattle.text_output.specs.Output.{Puts}
use Rattle.text_output.proofs.Outputs.{puts_as, puts_then}
use Rattle.channel_file.specs.{RegisterFile.{mask}, declared.Values.{Values}}
use Rattle.channel_writer.specs.Steps.{width, mask_at, value_at, value_text}
use Rattle.channel_writer.proofs.put_value.Goals as goal

-- of a known kind
of_kind : {k l : Values} (t : List ℕ) (i : ℕ) {old new : List ℕ} {at r : ℕ} → k ≡ l → Puts old (46 ∷ value_text l (value_at l t i)) new at r
    → Puts old (46 ∷ value_text k (value_at k t i)) new at r
of_kind t i {old} {new} {at} {r} e h = subst (λ (z : Values). Puts old (46 ∷ value_text z (value_at z t i)) new at r) (sym e) h

pub bounds-nodes-j : goal.bounds-nodes-j
bounds-nodes-j c = let e : width c.args.values ≡ 3 = ap width
    c.in-Numbered.is in omega (arith, c.requires)

pub mask_of-requires : goal.mask_of-requires
mask_of-requires c = let e : width c.args.values ≡ 6 = ap width c.in-Register.is in omega
    (arith, c.requires)

pub mask_of-requires-in-Register : goal.mask_of-requires-in-Register
mask_of-requires-in-Register c = let e : width c.args.values ≡ 6 = ap width
    c.in-Register.is in omega (
      arith,
      c.requires,
    )

pub returns-in-Numbered : goal.returns-in-Numbered
returns-in-Numbered c = of_kind c.args.nodes.now
    (c.args.i + 2)
    c.in-Numbered.is c.put_keyed.ensures

pub returns-in-Register : goal.returns-in-Register
returns-in-Register c =
    let j = c.args.i + 2 in
    let e1 : c.mask_of.result ≡ mask_at c.args.nodes.now j = c.mask_of.ensures.0 in
    let e2 : c.mask_of-in-Register.result ≡ mask_at c.args.nodes.now (j + 2) = c.mask_of-in-Register.ensures.0 in
    let e : (46 ∷ mask c.mask_of.result) ++ (46 ∷ mask
    c.mask_of-in-Register.result) ≡ (46 ∷ mask (mask_at c.args.nodes.now j)) ++ (46 ∷ mask (mask_at c.args.nodes.now (j + 2))) =
    rw (e1, e2) in
    of_kind c.args.nodes.now j c.in-Register.is (puts_as e (puts_then
    c.put_mask-n.ensures c.put_mask.ensures))
