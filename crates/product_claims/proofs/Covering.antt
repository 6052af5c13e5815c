-- When one rule covers another: by the theorem on implication, from the tables that `compile` stores. And rules joined by A.
use mathlib.Core.Logic.Iff
use mathlib.Core.{Path.{◌≡◌, refl, sym, ◌∙◌, ap, ap₂, subst}, Bool.{Bool, true, false}, Logic.{◌↔◌, ◌⊎◌, inl, inr}}
use mathlib.Core.{List.{List, ◌++◌}, Option.{none, some, some-ne-none}}
use Prim.Native.Nat.{ℕ, zero, ◌≤◌, ◌<◌}
use native.Mathlib.Omega.{arith}
use borrow.Author.Tests.{leb-true, leb-false}
use lib.{Dec.{leb}, ListN.{length}}
use Rattle.theory.specs.{Formula.{Formula, conjunction, size, conjunction_node, nodes}, FormulaClasses.{WellFormed, Accepted}}
use Rattle.theory.specs.{MealyMachine.{Word, after, Implies}, Evaluation.{value, formulas}}
use Rattle.theory.proofs.{Claims.{answers, conjunction as conjunction_answers, implication}, Equations.{well_formed_conjunction}}
use Rattle.refusal.specs.{declared.Refusal.{Refusal}, declared.Refusal.TheVariants.{BufferLength, NodeCount, StateCount}}
use Rattle.refusal.specs.Refusal.{First, refusal_of, yield_of}
use Rattle.refusal.proofs.Answers.{yield_of_answered}
use Rattle.limits.specs.Limits.{node_limit, binder_limit, state_limit, device_limit, table_limit, word_limit}
use Rattle.values.specs.{declared.ValueKind.{ValueKind}, Setup.{Setup, SetupValue, ValueIn, setup_meet, setup_top}, SetupTests.{setup_refusal}}
use Rattle.formulas.specs.{RuleConditions.{encode_formula, node_width, node_bytes}, RuleRefusal.{rule_refusal, formula_of}}
use Rattle.formulas.specs.Claims.{AcceptedFormula}
use Rattle.formulas.proofs.{Encoding.{encode_append}, NodeCodes.{node_code}}
use Rattle.formulas.proofs.RuleClaims.{rule_judged, accepted_claim, count_is}
use Rattle.synthesis.specs.Compilation.{setup_states, compile_refusal, compile_answer}
use Rattle.conformance.specs.{Trial.{Passed}, TrialAnswer.{trial_answer}}
use Rattle.conformance.proofs.TrialClaims.{trial_refused}
use Rattle.product_claims.specs.Requests.{cover_trial_input, rule_bytes, LetThrough, joined, HasValue, stored_value, Covering}
use Rattle.product_claims.proofs.InnerBinders.{let_through, let_through_formula, refused_by}
use Rattle.product_claims.proofs.Compiled.{for_rule, in_order, well, there, obeys, its_table, none_met, by_definition, stored_answers}

-- ---- covering
pub covers :
    (s : Setup) (first to second to' : List ℕ) (n k : ℕ) → yield_of (compile_answer state_limit s first to) ≡ some n → n ≤ device_limit →
    yield_of (compile_answer state_limit s second to') ≡ some k → (word : List ℕ) → word_limit ≤ length word →
    (φ χ : Formula ℕ) → first ≡ rule_bytes s φ → second ≡ rule_bytes s χ →
    (refusal_of (trial_answer device_limit table_limit (cover_trial_input s first to n second to' k) word) ≡ none)
    × (Passed (trial_answer device_limit table_limit (cover_trial_input s first to n second to' k) word)
    ↔ Implies s.events (SetupValue s) (setup_meet s) φ χ)
covers s first to second to' n k h small h' word long φ χ code code' =
    for_rule s first to n h φ code (λ n φ. n ≤ device_limit → Claim n k φ χ)
    (λ p small.
    for_rule s second to' k h' χ code' (λ k χ. Claim (setup_states state_limit s first) k (formula_of s.kind first) χ)
    (λ q.
    let whole = in_order s first to p device_limit small in (
      (trial_refused device_limit table_limit).answer _ word ∙ none_met s second to' q _ zero _ whole word long,
      Iff.trans (by_definition s second to' q _ zero _ whole word long)
          (implication (SetupValue s) (setup_meet s) (setup_top s) s.events (obeys s first to p) _ _ (well s first to p) (well s second to' q) _ _
          (its_table s first to p)),
    )))
    small
  where
    Claim : ℕ → ℕ → Formula ℕ → Formula ℕ → Type 1
    Claim n k φ χ =
        (refusal_of (trial_answer device_limit table_limit (cover_trial_input s first to n second to' k) word) ≡ none)
        × (Passed (trial_answer device_limit table_limit (cover_trial_input s first to n second to' k) word)
        ↔ Implies s.events (SetupValue s) (setup_meet s) φ χ)

-- ---- rules joined by A
pub joined_bytes : (s : Setup) (φ χ : Formula ℕ) → joined s (rule_bytes s φ) (rule_bytes s χ) ≡ rule_bytes s (conjunction φ χ)
joined_bytes s φ χ =
    ap (node_bytes s.kind conjunction_node ++◌)
    (sym (encode_append (node_width s.kind) (node_bytes s.kind) (node_code s.kind) (nodes φ) (nodes χ)))

module _ (s : Setup) where
  abbrev IsAccepted : Formula ℕ → Type 0
  IsAccepted = Accepted node_limit binder_limit s.events (SetupValue s)

  abbrev Well : Formula ℕ → Type 0
  Well = WellFormed s.events (SetupValue s)

  abbrev value_of : Formula ℕ → List ℕ → ℕ → ℕ
  value_of φ w e = value (setup_meet s) (setup_top s) e (after (formulas (setup_meet s) (setup_top s)) φ w)

  one_value : (φ : Formula ℕ) → Well φ → (w : List ℕ) (e : ℕ) → HasValue s φ w e (value_of φ w e)
  one_value φ g w e = answers (SetupValue s) (setup_meet s) (setup_top s) s.events φ g w e

  values_meet :
      (φ χ : Formula ℕ) → IsAccepted φ → IsAccepted χ → (w : List ℕ) (e : ℕ) →
      (b : ℕ) × (c : ℕ) × HasValue s φ w e b × HasValue s χ w e c × HasValue s (conjunction φ χ) w e (setup_meet s b c)
  values_meet φ χ a b w e =
      let g = a.well_formed in
      let h = b.well_formed in
      let both : Well (conjunction φ χ) = well_formed_conjunction s.events (SetupValue s) φ χ g h in
      let is : setup_meet s (value_of φ w e) (value_of χ w e) ≡ value_of (conjunction φ χ) w e
      = (one_value (conjunction φ χ) both w e _).0
      (conjunction_answers (SetupValue s) (setup_meet s) (setup_top s) s.events φ χ g h w e _ _
      ((one_value φ g w e _).1 refl) ((one_value χ h w e _).1 refl)) in (
        value_of φ w e,
        value_of χ w e,
        one_value φ g w e,
        one_value χ h w e,
        subst (HasValue s (conjunction φ χ) w e) (sym is) (one_value (conjunction φ χ) both w e),
      )

  pub joined_values :
      (φ χ : Formula ℕ) → LetThrough s (rule_bytes s φ) → LetThrough s (rule_bytes s χ) → (w : List ℕ) (e : ℕ) →
      (b : ℕ) × (c : ℕ) × HasValue s φ w e b × HasValue s χ w e c × HasValue s (conjunction φ χ) w e (setup_meet s b c)
  joined_values φ χ h h' = values_meet φ χ (let_through_formula s φ h) (let_through_formula s χ h')

  joined_code :
      (first second : List ℕ) (φ χ : Formula ℕ) → first ≡ rule_bytes s φ → second ≡ rule_bytes s χ →
      joined s first second ≡ rule_bytes s (conjunction φ χ)
  joined_code first second φ χ p q = ap₂ (joined s) p q ∙ joined_bytes s φ χ

  accepted : (rule to : List ℕ) (n : ℕ) → yield_of (compile_answer state_limit s rule to) ≡ some n → compile_refusal state_limit s rule to ≡ none
  accepted rule to n h = (yield_of_answered (compile_refusal state_limit s rule to) (setup_states state_limit s rule) n h).0

  pub joined_tables :
      (first to second to' to'' : List ℕ) (n k l : ℕ) → yield_of (compile_answer state_limit s first to) ≡ some n →
      yield_of (compile_answer state_limit s second to') ≡ some k → yield_of (compile_answer state_limit s (joined s first second) to'') ≡ some l →
      (w : List ℕ) → Word s.events w → (e : ℕ) → e < s.events →
      stored_value s (joined s first second) to'' w e ≡ setup_meet s (stored_value s first to w e) (stored_value s second to' w e)
  joined_tables first to second to' to'' n k l h h' h'' w hw e he =
      let a = accepted first to n h in
      let b = accepted second to' k h' in
      let x = there s first to a in
      let y = there s second to' b in
      let met = values_meet _ _ x.accepted y.accepted w e in
      let code = joined_code first second (formula_of s.kind first) (formula_of s.kind second) x.written y.written in
      (met.4 _).0 (stored_answers s _ to'' (accepted _ to'' l h'') _ code w hw e he)
      ∙ sym (ap₂ (setup_meet s) ((met.2 _).0 (stored_answers s first to a _ x.written w hw e he))
      ((met.3 _).0 (stored_answers s second to' b _ y.written w hw e he)))

-- ---- what refuses joined rules
-- Of a formula in order but for its size, 5 alone can be met.
only_5 :
    (events : ℕ) (kind : ValueKind) (bytes : List ℕ) (φ : Formula ℕ) → bytes ≡ encode_formula (node_bytes kind) φ →
    ((limit : ℕ) → size φ ≤ limit → Accepted limit binder_limit events (ValueIn kind) φ) → (r : Refusal) → rule_refusal events kind bytes ≡ some r
    → r ≡ NodeCount
unfolding First
only_5 events kind bytes φ code sound r e = go (leb (size φ) node_limit) refl
  where
    same : (q : Refusal) → some q ≡ some r → r ≡ q
    same q p = cc

    go : (b : Bool) → leb (size φ) node_limit ≡ b → r ≡ NodeCount
    go true p =
        absurd
        (some-ne-none r
        (sym e ∙ (accepted_claim events kind bytes).1 (φ, record { written = code; accepted = sound node_limit (leb-true (size φ) node_limit p) })))
    go false p =
        let over : node_limit < size φ = leb-false (size φ) node_limit p in
        same NodeCount
        ((rule_judged events kind bytes).only (some NodeCount)
        (inl (NodeCount, ((λ fine. absurd (omega (arith, over, fine.2, count_is kind bytes φ code))), refl), refl))
        ∙ e)

pub joined_refused :
    (s : Setup) (first second to : List ℕ) → setup_refusal s ≡ none → LetThrough s first → LetThrough s second →
    (r : Refusal) → refusal_of (compile_answer state_limit s (joined s first second) to) ≡ some r →
    (r ≡ NodeCount) ⊎ ((r ≡ StateCount) ⊎ (r ≡ BufferLength))
joined_refused s first second to fine h h' r met = by (refused_by s (joined s first second) to fine r met)
  where
    x : AcceptedFormula s.events s.kind first (formula_of s.kind first)
    x = let_through s first h

    y : AcceptedFormula s.events s.kind second (formula_of s.kind second)
    y = let_through s second h'

    whole : Formula ℕ
    whole = conjunction (formula_of s.kind first) (formula_of s.kind second)

    sound : (limit : ℕ) → size whole ≤ limit → Accepted limit binder_limit s.events (SetupValue s) whole
    sound limit l =
        record {
          within = l;
          shallow = omega (arith, x.accepted.shallow, y.accepted.shallow);
          well_formed = well_formed_conjunction s.events (SetupValue s) _ _ x.accepted.well_formed y.accepted.well_formed;
        }

    code : joined s first second ≡ rule_bytes s whole
    code = joined_code s first second (formula_of s.kind first) (formula_of s.kind second) x.written y.written

    by :
        (rule_refusal s.events s.kind (joined s first second) ≡ some r) ⊎ ((r ≡ StateCount) ⊎ (r ≡ BufferLength)) →
        (r ≡ NodeCount) ⊎ ((r ≡ StateCount) ⊎ (r ≡ BufferLength))
    by (inl e) = inl (only_5 s.events s.kind (joined s first second) whole code sound r e)
    by (inr e) = inr e

pub covering : Covering
covering =
    record {
      covers = covers;
      joined_values = joined_values;
      joined_bytes = joined_bytes;
      joined_tables = joined_tables;
      joined_refused = joined_refused;
    }
