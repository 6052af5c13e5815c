-- Whether two lists are the same, case by case.
use Rattle.std.proofs.Common.{◌≡◌, refl, ap, ℕ, List, [], ◌∷◌, ◌&&◌, nat_eq}
use lib.Pointwise.{pointwise}
use Rattle.command_line.specs.Names.{equal}

pub same_equal : (a b : List ℕ) → pointwise nat_eq a b ≡ equal a b
unfolding equal
same_equal [] [] = refl
same_equal [] (y ∷ t) = refl
same_equal (x ∷ s) [] = refl
same_equal (x ∷ s) (y ∷ t) = ap (λ r. nat_eq x y && r) (same_equal s t)
