-- `channel_file::put_node` meets its contract: the node's bytes, by the kind of values.
use Prim.Native.Nat.{ℕ}
use mathlib.Core.{Path.{◌≡◌, refl, sym, ◌∙◌, subst}, List.{List, [], ◌∷◌}}
use Rattle.text_output.specs.Output.{Puts}
use Rattle.text_output.proofs.Outputs.{puts_as}
use Rattle.channel_file.specs.Bytes.{clamp, node}
use Rattle.channel_file.specs.RegisterReading.{masked}
use Rattle.channel_file.specs.Steps.{code, token_of, item_kind, item_first, item_masks}
use Rattle.channel_file.specs.declared.{Values.{Values}, Item.{Item}}
use Rattle.channel_file.proofs.put_node.Goals as goal

-- the node of a known kind of values
of_kind : {k l : Values} (x : Item) {old new : List ℕ} {at r : ℕ} → k ≡ l → Puts old (code l (token_of l x)) new at r
    → Puts old (code k (token_of k x)) new at r
of_kind x {old} {new} {at} {r} e h = subst (λ (z : Values). Puts old (code z (token_of z x)) new at r) (sym e) h

-- a number stands as the low mask
as_number : (x : Item) → item_kind x ∷ clamp (item_first x) ∷ clamp (item_masks x).low ∷ [] ≡ node (token_of Values.Numbered x)
as_number Item.Truth = refl
as_number Item.Both = refl
as_number Item.Binder = refl
as_number (Item.Variable n) = refl
as_number (Item.Next e) = refl
as_number (Item.Output e a b) = refl

pub returns-in-Numbered : goal.returns-in-Numbered
returns-in-Numbered c =
    let e1 : c.kind.result ≡ item_kind c.args.x = c.kind.ensures in
    let e2 : c.first.result ≡ item_first c.args.x = c.first.ensures in
    let e3 : c.second.result ≡ (item_masks c.args.x).low = c.second.ensures in
    let e : c.kind.result ∷ clamp c.first.result ∷ clamp
    c.second.result ∷ []
    ≡ item_kind c.args.x ∷ clamp (item_first c.args.x) ∷ clamp (item_masks c.args.x).low ∷ [] = rw (e1, e2, e3) in
    of_kind c.args.x c.in-Numbered.is (puts_as (e ∙ as_number c.args.x)
    c.put_numbered.ensures)

pub returns-in-Register : goal.returns-in-Register
returns-in-Register c =
    let e1 : c.kind-in-Register.result ≡ item_kind c.args.x = c.kind-in-Register.ensures in
    let e2 : c.first-in-Register.result ≡ item_first c.args.x = c.first-in-Register.ensures in
    let e3 : c.second-in-Register.result ≡ (item_masks c.args.x).low = c.second-in-Register.ensures in
    let e4 : c.third.result ≡ (item_masks c.args.x).high = c.third.ensures in
    let e : masked c.kind-in-Register.result c.first-in-Register.result
    c.second-in-Register.result c.third.result
    ≡ code Values.Register (token_of Values.Register c.args.x) = rw (e1, e2, e3, e4) in
    of_kind c.args.x c.in-Register.is (puts_as e c.put_masked.ensures)
