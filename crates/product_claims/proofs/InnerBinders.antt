-- Rules that 5 to 9 let through: a variable may stand under an inner binder. What `compile` can refuse of them.
use mathlib.Core.Logic.Iff
use mathlib.Core.{Path.{◌≡◌, refl, sym, ◌∙◌, subst}, Logic.{◌↔◌, ◌⊎◌, inl, inr}, List.{List}, Option.{Option, none, some, some-ne-none}}
use Prim.Native.Nat.{ℕ, ◌*◌}
use lib.{Dec.{leb}, ListN.{length}}
use Rattle.theory.specs.{Formula.{Formula}, FormulaClasses.{Accepted}}
use Rattle.refusal.specs.{declared.Refusal.{Refusal}, RefusalAnswers.{or_else, plain_unless}, declared.Refusal.TheVariants.{BufferLength, StateCount}}
use Rattle.refusal.specs.Refusal.{First, refusal_of}
use Rattle.refusal.proofs.{Refusals.{or_else_some, plain_some}, Answers.{answered_refusal_is}}
use Rattle.limits.specs.Limits.{node_limit, binder_limit, state_limit}
use Rattle.values.specs.{Setup.{Setup, SetupValue, setup_top}, SetupTests.{setup_refusal}}
use Rattle.machines.specs.TableBytes.{entry_width}
use Rattle.formulas.specs.{RuleConditions.{byte_conditions}, RuleRefusal.{rule_refusal, formula_of}, Claims.{AcceptedFormula}}
use Rattle.formulas.proofs.RuleClaims.{rule_judged, accepted_formula_of, formula_of_only, protected_claim}
use Rattle.synthesis.specs.Compilation.{rule_table_refusal, setup_states, compile_refusal, compile_answer}
use Rattle.product_claims.specs.Requests.{rule_bytes, LetThrough, InnerBinders}

module _ (s : Setup) where
  let_through_iff : (rule : List ℕ) → LetThrough s rule ↔ (rule_refusal s.events s.kind rule ≡ none)
  let_through_iff rule =
      let j = rule_judged s.events s.kind rule in
      ((λ h. sym (j.only none h)), λ e. subst (First (byte_conditions s.events s.kind rule)) e j.first)

  -- Bytes that 5 to 9 let through are those of a formula in order.
  pub let_through : (rule : List ℕ) → LetThrough s rule → AcceptedFormula s.events s.kind rule (formula_of s.kind rule)
  let_through rule h = accepted_formula_of s.events s.kind rule ((let_through_iff rule).0 h)

  pub let_through_formula : (φ : Formula ℕ) → LetThrough s (rule_bytes s φ) → Accepted node_limit binder_limit s.events (SetupValue s) φ
  let_through_formula φ h =
      subst (Accepted node_limit binder_limit s.events (SetupValue s)) (sym (formula_of_only s.kind (rule_bytes s φ) φ refl))
      (let_through (rule_bytes s φ) h).accepted

  -- With an accepted set-up `compile` refuses by 5 to 9, 10 and 13.
  pub refused_by :
      (rule to : List ℕ) → setup_refusal s ≡ none → (r : Refusal) → refusal_of (compile_answer state_limit s rule to) ≡ some r →
      (rule_refusal s.events s.kind rule ≡ some r) ⊎ ((r ≡ StateCount) ⊎ (r ≡ BufferLength))
  unfolding compile_refusal rule_table_refusal
  refused_by rule to fine r met =
      outer (or_else_some (setup_refusal s) (or_else from_rule room) r (sym (answered_refusal_is (compile_refusal state_limit s rule to) n) ∙ met))
    where
      n : ℕ
      n = setup_states state_limit s rule

      from_rule : Option Refusal
      from_rule = rule_table_refusal s.kind s.events (setup_top s) s.meet rule state_limit

      room : Option Refusal
      room = plain_unless (leb (n * s.events * entry_width s.kind) (length to)) BufferLength

      Refused : Type 0
      Refused = (rule_refusal s.events s.kind rule ≡ some r) ⊎ ((r ≡ StateCount) ⊎ (r ≡ BufferLength))

      inner : (rule_refusal s.events s.kind rule ≡ some r) ⊎ (plain_unless (leb n state_limit) StateCount ≡ some r) → Refused
      inner (inl e) = inl e
      inner (inr e) = inr (inl (plain_some (leb n state_limit) StateCount r e).1)

      middle : (from_rule ≡ some r) ⊎ (room ≡ some r) → Refused
      middle (inl e) = inner (or_else_some (rule_refusal s.events s.kind rule) (plain_unless (leb n state_limit) StateCount) r e)
      middle (inr e) = inr (inr (plain_some (leb (n * s.events * entry_width s.kind) (length to)) BufferLength r e).1)

      outer : (setup_refusal s ≡ some r) ⊎ (or_else from_rule room ≡ some r) → Refused
      outer (inl e) = absurd (some-ne-none r (sym e ∙ fine))
      outer (inr e) = middle (or_else_some from_rule room r e)

covered :
    (s : Setup) (rule to : List ℕ) → setup_refusal s ≡ none → LetThrough s rule → (r : Refusal) →
    refusal_of (compile_answer state_limit s rule to) ≡ some r → (r ≡ StateCount) ⊎ (r ≡ BufferLength)
covered s rule to fine h r met = by (refused_by s rule to fine r met)
  where
    by : (rule_refusal s.events s.kind rule ≡ some r) ⊎ ((r ≡ StateCount) ⊎ (r ≡ BufferLength)) → (r ≡ StateCount) ⊎ (r ≡ BufferLength)
    by (inl e) = absurd (some-ne-none r (sym e ∙ (let_through_iff s rule).0 h))
    by (inr e) = e

pub inner_binders : InnerBinders
inner_binders =
    record {
      in_order = λ s φ within fit bound shallow.
          Iff.trans (let_through_iff s (rule_bytes s φ)) (protected_claim s.events s.kind φ within fit bound shallow);
      covered = covered;
    }
