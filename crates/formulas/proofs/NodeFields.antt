-- The test of a node's fields decides whether they are those of a node that fits, for any values and any test of theirs.
use mathlib.Core.{Path.{◌≡◌, refl, sym, ◌∙◌, ap, ap₂}, Logic.{◌⊎◌, inl, inr}, Bool.{Bool, true, false, ◌&&◌}}
use Prim.Native.Nat.{ℕ, zero, suc}
use native.Mathlib.Omega.{arith}
use lib.Dec.{eqb, ltb}
use borrow.Author.Tests.{eqb-true, ltb-true, lt-ltb}
use Rattle.theory.specs.Formula.{Node, truth_node, variable_node, transition_node, output_node, conjunction_node, greatest_node}
use Rattle.formulas.specs.NodeCode.{kind_number, first_field, value_field, HasFields}
use Rattle.formulas.specs.RuleConditions.{NodeFits}
use Rattle.formulas.specs.RuleReading.{kind_of, fields_fit, node_of}

both_true : (a b : Bool) → (a && b) ≡ true → (a ≡ true) × (b ≡ true)
both_true true b e = (refl, e)
both_true false b e = let z : ◌≡◌ {A = ℕ} 0 1 = cc in absurd (omega arith)

module _ (events : ℕ) (In : ℕ → Type 0) (fits : ℕ → Bool) where
  -- Fields that pass are those of the node that is read, and it fits.
  pub fields_sound :
      ((v : ℕ) → fits v ≡ true → In v) → (k a v : ℕ) → fields_fit events (kind_of k) a v (fits v) ≡ true
      → HasFields (node_of (kind_of k) a v) k a v × NodeFits events In (node_of (kind_of k) a v)
  unfolding fields_fit kind_of node_of
  fields_sound within zero a v e =
      let w = both_true (eqb a 0) (eqb v 0) e in
      (record { kind_is = refl; first_is = sym (eqb-true a 0 w.0); value_is = sym (eqb-true v 0 w.1) }, tt)
  fields_sound within (suc zero) a v e = (record { kind_is = refl; first_is = refl; value_is = sym (eqb-true v 0 e) }, tt)
  fields_sound within (suc (suc zero)) a v e =
      let w = both_true (ltb a events) (eqb v 0) e in
      (record { kind_is = refl; first_is = refl; value_is = sym (eqb-true v 0 w.1) }, ltb-true a events w.0)
  fields_sound within (suc (suc (suc zero))) a v e =
      let w = both_true (ltb a events) (fits v) e in
      (record { kind_is = refl; first_is = refl; value_is = refl }, (ltb-true a events w.0, within v w.1))
  fields_sound within (suc (suc (suc (suc zero)))) a v e =
      let w = both_true (eqb a 0) (eqb v 0) e in
      (record { kind_is = refl; first_is = sym (eqb-true a 0 w.0); value_is = sym (eqb-true v 0 w.1) }, tt)
  fields_sound within (suc (suc (suc (suc (suc zero))))) a v e =
      let w = both_true (eqb a 0) (eqb v 0) e in
      (record { kind_is = refl; first_is = sym (eqb-true a 0 w.0); value_is = sym (eqb-true v 0 w.1) }, tt)
  fields_sound within (suc (suc (suc (suc (suc (suc k)))))) a v e = let z : ◌≡◌ {A = ℕ} 0 1 = cc in absurd (omega arith)

  -- The fields of a node that fits pass.
  pub fields_full :
      ((v : ℕ) → In v → fits v ≡ true) → (n : Node ℕ) (k a v : ℕ) → HasFields n k a v → NodeFits events In n
      → fields_fit events (kind_of k) a v (fits v) ≡ true
  unfolding fields_fit kind_of
  fields_full outside n k a v h f = same ∙ there n f
    where
      same :
          fields_fit events (kind_of k) a v (fits v)
          ≡ fields_fit events (kind_of (kind_number n)) (first_field n) (value_field n) (fits (value_field n))
      same =
          sym
          (ap₂ (λ x y. fields_fit events (kind_of x) y (value_field n) (fits (value_field n))) h.kind_is h.first_is
          ∙ ap (λ x. fields_fit events (kind_of k) a x (fits x)) h.value_is)

      there :
          (n : Node ℕ) → NodeFits events In n
          → fields_fit events (kind_of (kind_number n)) (first_field n) (value_field n) (fits (value_field n)) ≡ true
      there truth_node f = refl
      there (variable_node n) f = refl
      there (transition_node e) f = ap (λ b. b && true) (lt-ltb e events f)
      there (output_node e v) f = ap₂ ◌&&◌ (lt-ltb e events f.0) (outside v f.1)
      there conjunction_node f = refl
      there greatest_node f = refl

  -- The value of a node that fits is a value, or 0 where it is unused.
  pub field_value : (n : Node ℕ) → NodeFits events In n → In (value_field n) ⊎ (value_field n ≡ 0)
  field_value truth_node f = inr refl
  field_value (variable_node n) f = inr refl
  field_value (transition_node e) f = inr refl
  field_value (output_node e v) f = inl f.1
  field_value conjunction_node f = inr refl
  field_value greatest_node f = inr refl
