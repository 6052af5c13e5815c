-- How two values compare: what each answer says, and that values have one answer only.
use mathlib.Core.{Path.{◌≡◌, refl, sym, ◌∙◌, ap, subst}, Bool.{Bool, true, false, cond}, List.{List}}
use Prim.Native.Nat.{ℕ}
use borrow.Author.Tests.{eqb-true, eqb-false, eq-eqb, ne_eqb}
use lib.Dec.{eqb}
use Rattle.values.specs.declared.{ValueKind.{ValueKind}, Comparison.{Comparison}}
use Rattle.values.specs.declared.Comparison.TheVariants.{Equal, StrictlyBelow, NotBelow}
use Rattle.values.specs.Setup.{ComparesAs, meet_of, Setup, setup_meet}
use Rattle.values.specs.{ValueTests.{at_or_below, comparison}, Claims.{ComparisonClaim}}
use Rattle.values.proofs.Setups.{laws_hold}

-- What an answer says of the two tests: at or below, and equal.
abbrev pub TestsOf : Comparison → Bool → Bool → Type 0
TestsOf Equal below equal = (below ≡ true) × (equal ≡ true)
TestsOf StrictlyBelow below equal = (below ≡ true) × (equal ≡ false)
TestsOf NotBelow below equal = below ≡ false

module _ (kind : ValueKind) (table : List ℕ) (b c : ℕ) where
  pub tests_of : TestsOf (comparison kind table b c) (at_or_below kind table b c) (eqb b c)
  unfolding comparison
  tests_of = go (at_or_below kind table b c) (eqb b c)
    where
      go : (below equal : Bool) → TestsOf (cond below (cond equal Equal StrictlyBelow) NotBelow) below equal
      go true true = (refl, refl)
      go true false = (refl, refl)
      go false equal = refl

  told : ComparesAs (comparison kind table b c) (meet_of kind table) b c
  told = go (comparison kind table b c) tests_of
    where
      go : (answer : Comparison) → TestsOf answer (at_or_below kind table b c) (eqb b c) → ComparesAs answer (meet_of kind table) b c
      go Equal t = eqb-true b c t.1
      go StrictlyBelow t = (eqb-true _ b t.0, eqb-false b c t.1)
      go NotBelow t = eqb-false _ b t

  -- The answer, from the two tests.
  pub compared_not_below : ¬ (meet_of kind table b c ≡ b) → comparison kind table b c ≡ NotBelow
  unfolding comparison
  compared_not_below f = ap (λ t. cond t (cond (eqb b c) Equal StrictlyBelow) NotBelow) (ne_eqb _ b f)

  module _ (at_or_below : meet_of kind table b c ≡ b) where
    pub compared_equal : b ≡ c → comparison kind table b c ≡ Equal
    unfolding comparison
    compared_equal z =
        ap (λ t. cond t (cond (eqb b c) Equal StrictlyBelow) NotBelow) (eq-eqb _ b at_or_below) ∙ ap (λ t. cond t Equal StrictlyBelow) (eq-eqb b c z)

    pub compared_strictly_below : ¬ (b ≡ c) → comparison kind table b c ≡ StrictlyBelow
    unfolding comparison
    compared_strictly_below f =
        ap (λ t. cond t (cond (eqb b c) Equal StrictlyBelow) NotBelow) (eq-eqb _ b at_or_below) ∙ ap (λ t. cond t Equal StrictlyBelow) (ne_eqb b c f)

pub comparisons : ComparisonClaim
comparisons =
    record {
      told = told;
      only = λ s ok b c h answer. only s b c (λ z. subst (λ x. setup_meet s b x ≡ b) z ((laws_hold s ok).idempotent b h)) answer;
      not_below = λ kind table b c. (
        (λ e. subst (λ x. ComparesAs x (meet_of kind table) b c) e (told kind table b c)),
        compared_not_below kind table b c,
      );
    }
  where
    only : (s : Setup) (b c : ℕ) → (b ≡ c → setup_meet s b c ≡ b) → (answer : Comparison) → ComparesAs answer (setup_meet s) b c →
        answer ≡ comparison s.kind s.meet b c
    only s b c h Equal z = sym (compared_equal s.kind s.meet b c (h z) z)
    only s b c h StrictlyBelow z = sym (compared_strictly_below s.kind s.meet b c z.0 z.1)
    only s b c h NotBelow z = sym (compared_not_below s.kind s.meet b c z)
