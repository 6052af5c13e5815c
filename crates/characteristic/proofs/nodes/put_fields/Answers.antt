-- `put_fields` meets its contract: the fields and the four bytes of the value, stored one after the other.
use mathlib.Core.{Path.{◌≡◌, refl, sym, ◌∙◌, ap}, List.{List, ◌∷◌, ◌++◌, append_assoc}}
use Prim.Native.Nat.{ℕ, suc, ◌+◌, ◌*◌, ◌-◌, ◌≤◌}
use native.Mathlib.Omega.{arith}
use lib.{ListN.{length, take, drop, set, length-set}, Seq.{sets, sets-eq, drop-drop}}
use borrow.Rule.Slice.PartMut.{put_mid}
use Rattle.theory.specs.ValueSets.{unpack}
use Rattle.values.specs.Setup.{mask_bytes}
use Rattle.characteristic.proofs.Appended.{four_bytes}
use Rattle.characteristic.proofs.nodes.put_fields.Goals as goal

-- Some bytes written to a part.
middle : (l bs : List ℕ) (at n : ℕ) → n ≡ length bs → at + n ≤ length l → put_mid at n l bs ≡ sets l at bs
middle l bs at n long room =
    ap (λ t. take at l ++ (bs ++ t)) (drop-drop n at l ∙ ap (λ k. drop (at + k) l) long)
    ∙ sym (append_assoc (take at l) bs (drop (at + length bs) l))
    ∙ sym (sets-eq bs l at (omega (arith, long, room)))

-- The fields and the value, stored one after the other.
in_turn :
    (l bs : List ℕ) (at number first : ℕ) → length bs ≡ 4 → at + 6 ≤ length l
    → put_mid (at + 2) (at + 6 - (at + 2)) (set (set l at number) (at + 1) first) bs ≡ sets l at (number ∷ first ∷ bs)
in_turn l bs at number first is_four room =
    let same = length-set (set l at number) (at + 1) first ∙ length-set l at number in
    let one : at + 1 ≡ suc at = omega arith in
    let two : at + 2 ≡ suc (suc at) = omega arith in
    middle (set (set l at number) (at + 1) first) bs (at + 2) (at + 6 - (at + 2)) (omega (arith, is_four)) (omega (arith, room, same))
    ∙ cc (one, two)

pub returns : goal.returns
returns c =
    let at = c.args.count * c.args.width in
    let fields = set (set c.args.to.now at c.args.number) (at + 1) c.args.first in
    let bs = mask_bytes (unpack c.args.value).low ++ mask_bytes (unpack c.args.value).high in
    ap (put_mid (at + 2) (at + 6 - (at + 2)) fields)
    (c.copy_from_slice.ensures.after ∙ c.to_le_bytes.ensures ∙ four_bytes c.args.value c.ranges.value.fits)
    ∙ in_turn c.args.to.now bs at c.args.number c.args.first refl c.requires
