-- `unused_at` meets its contract, by the kind of values.
use Prim.Native.Nat.{ℕ, ◌+◌}
use mathlib.Core.{Path.{◌≡◌, refl, sym, ap, ◌∙◌, subst}, Bool.{Bool, false, ◌&&◌}, List.{List}}
use native.Mathlib.Omega.{arith}
use borrow.Author.Tests.{eq-eqb, ne_eqb}
use lib.Dec.{eqb}
use Rattle.channel_file.specs.declared.Values.{Values}
use Rattle.channel_writer.specs.Steps.{width, mask_at, value_at, is_unused}
use Rattle.channel_writer.proofs.unused_at.Goals as goal

-- of a known kind
of_kind : {k l : Values} (t : List ℕ) (i : ℕ) (r : Bool) → k ≡ l → r ≡ is_unused l (value_at l t i) → r ≡ is_unused k (value_at k t i)
of_kind t i r e h = subst (λ (z : Values). r ≡ is_unused z (value_at z t i)) (sym e) h

pub bounds-nodes-j : goal.bounds-nodes-j
bounds-nodes-j c = let e : width c.args.values ≡ 3 = ap width c.in-Numbered.is in omega
    (arith, c.requires)

pub mask_of-requires : goal.mask_of-requires
mask_of-requires c = let e : width c.args.values ≡ 6 = ap width c.in-Register.is in omega
    (arith, c.requires)

pub mask_of-requires-then-mask_of-eq0 : goal.mask_of-requires-then-mask_of-eq0
mask_of-requires-then-mask_of-eq0 c = let e : width c.args.values ≡ 6 = ap width
    c.in-Register.is in omega (arith, c.requires)

pub returns-in-Numbered : goal.returns-in-Numbered
returns-in-Numbered c = of_kind c.args.nodes.now (c.args.i + 2) _
    c.in-Numbered.is refl

pub returns-then-mask_of-eq0 : goal.returns-then-mask_of-eq0
returns-then-mask_of-eq0 c =
    let j = c.args.i + 2 in
    let low : mask_at c.args.nodes.now j ≡ 0 = sym c.mask_of.ensures.0 ∙ c.if-mask_of-eq0.true in
    of_kind c.args.nodes.now j _ c.in-Register.is
    (ap (λ (m : ℕ). eqb m 0) c.mask_of-then-mask_of-eq0.ensures.0 ∙ ap (λ (b : Bool). b && eqb (mask_at c.args.nodes.now (j + 2)) 0)
    (sym (eq-eqb (mask_at c.args.nodes.now j) 0 low)))

pub returns-else-mask_of-eq0 : goal.returns-else-mask_of-eq0
returns-else-mask_of-eq0 c =
    let j = c.args.i + 2 in
    let low : eqb c.mask_of.result 0 ≡ false = ne_eqb _ 0 c.if-mask_of-eq0.false in
    of_kind c.args.nodes.now j _ c.in-Register.is
    (low ∙ ap (λ (b : Bool). b && eqb (mask_at c.args.nodes.now (j + 2)) 0)
    (sym (ne_eqb (mask_at c.args.nodes.now j) 0 (λ z. c.if-mask_of-eq0.false (c.mask_of.ensures.0 ∙ z)))))
