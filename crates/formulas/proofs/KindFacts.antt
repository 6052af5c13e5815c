-- What the fields of a node say, kind by kind.
use mathlib.Core.{Path.{◌≡◌, refl, sym, ◌∙◌, ap, subst}, Logic.{◌⊎◌, inl, inr}, Bool.{Bool, true}}
use Prim.Native.Nat.{ℕ, zero, suc, ◌<◌}
use native.Mathlib.Omega.{arith}
use Rattle.std.specs.Prelude.{Option as StdOption, Some, None}
use Rattle.formulas.specs.declared.NodeKind.{NodeKind, TheVariants.{Truth, Variable, Transition, Output, Conjunction, Greatest}}
use Rattle.formulas.specs.RuleReading.{kind_of, number_of, fields_fit}

-- The number of a kind that was read.
pub kind_byte : (n : ℕ) (k : NodeKind) → kind_of n ≡ Some k → n ≡ number_of k
unfolding kind_of
kind_byte zero k e = let h : Truth ≡ k = cc in ap number_of h
kind_byte (suc zero) k e = let h : Variable ≡ k = cc in ap number_of h
kind_byte (suc (suc zero)) k e = let h : Transition ≡ k = cc in ap number_of h
kind_byte (suc (suc (suc zero))) k e = let h : Output ≡ k = cc in ap number_of h
kind_byte (suc (suc (suc (suc zero)))) k e = let h : Conjunction ≡ k = cc in ap number_of h
kind_byte (suc (suc (suc (suc (suc zero))))) k e = let h : Greatest ≡ k = cc in ap number_of h
kind_byte (suc (suc (suc (suc (suc (suc n)))))) k e = cc

pub kind_of_number : (k : NodeKind) → kind_of (number_of k) ≡ Some k
unfolding kind_of
kind_of_number Truth = refl
kind_of_number Variable = refl
kind_of_number Transition = refl
kind_of_number Output = refl
kind_of_number Conjunction = refl
kind_of_number Greatest = refl

-- The kinds without parts that are no variable.
abbrev pub IsLeaf : StdOption NodeKind → Type 0
IsLeaf (Some Truth) = Unit {0}
IsLeaf (Some Variable) = ⊥
IsLeaf (Some Transition) = ⊥
IsLeaf (Some Output) = Unit {0}
IsLeaf (Some Conjunction) = ⊥
IsLeaf (Some Greatest) = ⊥
IsLeaf None = Unit {0}

pub leaf_read : (k : NodeKind) → (k ≡ Truth) ⊎ (k ≡ Output) → IsLeaf (Some k)
leaf_read k (inl e) = subst (λ x. IsLeaf (Some x)) (sym e) tt
leaf_read k (inr e) = subst (λ x. IsLeaf (Some x)) (sym e) tt

pub not_leaf : (k : NodeKind) (n : ℕ) → n ≡ number_of k → IsLeaf (kind_of n) → IsLeaf (Some k)
not_leaf k n e h = subst IsLeaf (ap kind_of e ∙ kind_of_number k) h

module _ (events first value : ℕ) (fits : Bool) where
  -- A known kind is one of six.
  pub fit_known : (k : ℕ) → fields_fit events (kind_of k) first value fits ≡ true → k < 6
  unfolding kind_of fields_fit
  fit_known zero e = omega arith
  fit_known (suc zero) e = omega arith
  fit_known (suc (suc zero)) e = omega arith
  fit_known (suc (suc (suc zero))) e = omega arith
  fit_known (suc (suc (suc (suc zero)))) e = omega arith
  fit_known (suc (suc (suc (suc (suc zero))))) e = omega arith
  fit_known (suc (suc (suc (suc (suc (suc k)))))) e = let z : ◌≡◌ {A = ℕ} 0 1 = cc in absurd (omega arith)
