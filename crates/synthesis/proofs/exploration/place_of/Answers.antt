-- `place_of` meets its contract: each word is below 2 to the 64th.
use mathlib.Core.Path.{ap, ap₂}
use Prim.Native.Nat.{◌/◌, ◌%◌, ◌^◌}
use lib.Bits.{bit_xor}
use Rattle.synthesis.specs.StatePlaces.{place_count, set_place}
use Rattle.synthesis.proofs.StatePlaces.{whole_word}
use Rattle.synthesis.proofs.exploration.place_of.Goals as goal

pub returns : goal.returns
unfolding set_place
returns c =
    let word0 = whole_word c.args.set 0 c.element_fits.fits in
    let word1 = whole_word c.args.set 1 c.element_fits2.fits in
    let word2 = whole_word c.args.set 2 c.element_fits3.fits in
    let word3 = whole_word c.args.set 3 c.element_fits4.fits in
    ap (λ x. x % place_count)
    (ap₂ bit_xor (ap₂ bit_xor (ap₂ bit_xor word0 (ap (λ x. x / 2 ^ 1) word1)) (ap (λ x. x / 2 ^ 2) word2)) (ap (λ x. x / 2 ^ 3) word3))
