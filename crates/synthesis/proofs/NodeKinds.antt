-- What the kind of a node says of its number.
use mathlib.Core.{Path.{◌≡◌, sym, ◌∙◌, ap, subst}, Logic.{◌⊎◌, inl, inr}}
use Prim.Native.Nat.{ℕ}
use native.Mathlib.Omega.{arith}
use Rattle.std.specs.Prelude.{Option as StdOption, Some, None}
use Rattle.formulas.specs.declared.NodeKind.{NodeKind, TheVariants.{Truth, Variable, Transition, Output, Conjunction, Greatest}}
use Rattle.formulas.specs.RuleReading.{kind_of, number_of}
use Rattle.formulas.proofs.KindFacts.{IsLeaf, not_leaf, kind_byte, kind_of_number}

-- The number of a node whose kind was read.
pub kind_read : {o : StdOption NodeKind} {k : NodeKind} (n : ℕ) (m : NodeKind) → o ≡ kind_of n → o ≡ Some k → k ≡ m → n ≡ number_of m
kind_read n m a b c = kind_byte n m (sym a ∙ b ∙ ap Some c)

-- A node without parts is not of the kinds with parts.
pub record NoParts (n : ℕ) : Type 0 where
  pub no_transition : ¬ (n ≡ 2)
  pub no_conjunction : ¬ (n ≡ 4)
  pub no_greatest : ¬ (n ≡ 5)

pub leaf_without : (n : ℕ) → IsLeaf (kind_of n) → NoParts n
leaf_without n l =
    record {
      no_transition = λ e. not_leaf Transition n e l;
      no_conjunction = λ e. not_leaf Conjunction n e l;
      no_greatest = λ e. not_leaf Greatest n e l;
    }

pub variable_without : (n : ℕ) → n ≡ 1 → NoParts n
variable_without n q =
    record { no_transition = λ e. omega (arith, e, q); no_conjunction = λ e. omega (arith, e, q); no_greatest = λ e. omega (arith, e, q) }

pub output_without : (n : ℕ) → n ≡ 3 → NoParts n
output_without n q =
    record { no_transition = λ e. omega (arith, e, q); no_conjunction = λ e. omega (arith, e, q); no_greatest = λ e. omega (arith, e, q) }

pub unknown_leaf : {o : StdOption NodeKind} (n : ℕ) → o ≡ kind_of n → o ≡ None → IsLeaf (kind_of n)
unknown_leaf n a b = subst IsLeaf (sym b ∙ a) tt

pub leaf_parts : {o : StdOption NodeKind} {k : NodeKind} (n : ℕ) → o ≡ kind_of n → o ≡ Some k → (k ≡ Truth) ⊎ ((k ≡ Variable) ⊎ (k ≡ Output)) → NoParts n
leaf_parts n a b (inl d) = leaf_without n (subst IsLeaf (ap Some (sym d) ∙ sym b ∙ a) tt)
leaf_parts n a b (inr (inl d)) = variable_without n (kind_read n Variable a b d)
leaf_parts n a b (inr (inr d)) = output_without n (kind_read n Output a b d)

-- A node of no kind or a truth demands nothing.
abbrev pub IsTruth : StdOption NodeKind → Type 0
IsTruth (Some Truth) = Unit {0}
IsTruth (Some Variable) = ⊥
IsTruth (Some Transition) = ⊥
IsTruth (Some Output) = ⊥
IsTruth (Some Conjunction) = ⊥
IsTruth (Some Greatest) = ⊥
IsTruth None = Unit {0}

pub not_truth : (k : NodeKind) (n : ℕ) → n ≡ number_of k → IsTruth (kind_of n) → IsTruth (Some k)
not_truth k n e h = subst IsTruth (ap kind_of e ∙ kind_of_number k) h
