-- The claims on the compiler.
use mathlib.Core.{Path.{◌≡◌, refl, sym, ◌∙◌, ap, ap₂, subst}, Logic.{◌↔◌, inl, inr}, Bool.{Bool, true, false}, Option.{Option, none, some}}
use mathlib.Core.List.{List, [], ◌∷◌, ◌++◌}
use Prim.Native.Nat.{ℕ, ◌+◌, ◌*◌, ◌≤◌, ◌<◌}
use native.Mathlib.Omega.{arith}
use borrow.Author.Tests.{leb-true, leb-false}
use lib.{Dec.{leb}, ListN.{length, get_or, drop, length-append, length-drop, get_or-append}, Seq.{drop-append_seam}}
use Rattle.theory.specs.ValueSets.{MeetSemilattice}
use Rattle.theory.specs.Formula.{Formula, size}
use Rattle.theory.specs.FormulaClasses.{WellFormed}
use Rattle.theory.specs.MealyMachine.{Machine}
use Rattle.theory.specs.{ReachableStates.{IsTable, IsTableOf, StatesAtMost}, DemandSets.{set_machine, first_set}}
use Rattle.theory.proofs.{Claims.{numbering, table_values}, SetMachine.{table_of_iff}}
use Rattle.refusal.specs.{declared.Refusal.{Refusal}, declared.Refusal.TheVariants.{BufferLength, StateCount}}
use Rattle.refusal.specs.Refusal.{Condition, First, has_place, part_of, order, condition_numbers, right_places, put}
use Rattle.refusal.specs.RefusalAnswers.{or_else, plain_unless, put_unless}
use Rattle.refusal.proofs.Refusals.{first_then, or_else_none, or_else_assoc, plain_none}
use Rattle.values.specs.declared.ValueKind.{ValueKind}
use Rattle.values.specs.declared.ValueKind.TheVariants.{Numbered, Register}
use Rattle.values.specs.Setup.{ValueIn, value_width, Setup, setup_meet, setup_top, setup_conditions, masks_value, value_from}
use Rattle.values.specs.SetupTests.{setup_refusal}
use Rattle.values.proofs.Setups.{setup_first, judged_after_setup}
use Rattle.formulas.specs.RuleRefusal.{rule_refusal, formula_of}
use Rattle.formulas.specs.RuleConditions.{byte_conditions}
use Rattle.formulas.specs.Claims.{AcceptedFormula}
use Rattle.formulas.proofs.RuleClaims.{rule_judged, accepted_formula_of, formula_of_only}
use Rattle.machines.specs.{TableBytes.{table_bytes, entry_width, entry_bytes, machine_of}, Claims.{Agree}}
use Rattle.machines.proofs.{EntryBytes.{table_length}, EntryIndex.{index_below}}
use Rattle.machines.proofs.TableRoundTrip.{read_back, entry_length, entry_width_is, entry_within}
use Rattle.synthesis.specs.FormulaTable.{formula_states, formula_table}
use Rattle.synthesis.specs.Compilation.{rule_states, rule_table_refusal, setup_states, setup_table, compile_refusal, compile_contents}
use Rattle.synthesis.specs.TableOfRule.{states_condition, buffer_condition, compile_conditions, rule_conditions_of, pair_table_conditions, IsRuleTable}
use Rattle.synthesis.specs.Claims.{CompileRefusalClaim, RuleTable, CompiledBytes, CompileClaim}
use Rattle.synthesis.proofs.{CompiledTable.{few_states, is_table}, LentTable.{contents_at, laws, few}}
use Rattle.limits.specs.Limits.{node_limit, state_limit}

-- Machines with the same entries are the same table.
pub table_agrees :
    (meet : ℕ → ℕ → ℕ) (top events : ℕ) (φ : Formula ℕ) (n : ℕ) (t u : Machine ℕ ℕ) → Agree events n u t →
    IsTableOf meet top events φ n t → IsTableOf meet top events φ n u
table_agrees meet top events φ n t u a (m, first, of, k) = (m, first, of, moved)
  where
    moved : IsTable events m first n u
    moved =
        record {
          sequences = k.sequences;
          numbering = k.numbering;
          count = k.count;
          values = λ l e hl he. a.values_agree l e hl he ∙ k.values l e hl he;
          nexts = λ l e hl he.
              subst
              (λ x. (x < n) × (Rattle.theory.specs.ReachableStates.state_at events m first k.sequences x
              ≡ m.next (Rattle.theory.specs.ReachableStates.state_at events m first k.sequences l) e))
              (sym (a.nexts_agree l e hl he)) (k.nexts l e hl he);
        }

-- The tables of a rule have one count of states.
pub one_count :
    (In : ℕ → Type 0) (meet : ℕ → ℕ → ℕ) (top events : ℕ) (φ : Formula ℕ) → WellFormed events In φ → (n k : ℕ) (t u : Machine ℕ ℕ) →
    IsTableOf meet top events φ n t → IsTableOf meet top events φ k u → n ≡ k
one_count In meet top events φ well n k t u x y =
    ((numbering In meet top events _ (set_machine meet top φ) (first_set φ)).1 n k t u ((table_of_iff meet top φ well.guarded events n t).0 x)
    ((table_of_iff meet top φ well.guarded events k u).0 y)).0

-- A rule that 5 to 9 let through, over values that obey the laws.
module _ (meet : ℕ → ℕ → ℕ) (top events : ℕ) (kind : ValueKind) (limit : ℕ) (rule : List ℕ) (L : MeetSemilattice (ValueIn kind) meet top)
    (ok : rule_refusal events kind rule ≡ none) where
  abbrev φ₀ : Formula ℕ
  φ₀ = formula_of kind rule

  abbrev states : ℕ
  states = formula_states meet top φ₀ events limit

  abbrev there : AcceptedFormula events kind rule φ₀
  there = accepted_formula_of events kind rule ok

  well : WellFormed events (ValueIn kind) φ₀
  well = there.accepted.well_formed

  small : size φ₀ ≤ node_limit
  small = there.accepted.within

  at_most : (states ≤ limit) ↔ StatesAtMost meet top events φ₀ limit
  at_most = few_states (ValueIn kind) meet top L events limit φ₀ well small

  states_first : First (states_condition meet top events kind rule limit ∷ []) (plain_unless (leb states limit) StateCount)
  unfolding First plain_unless
  states_first = go (leb states limit) refl
    where
      go : (b : Bool) → leb states limit ≡ b → First (states_condition meet top events kind rule limit ∷ []) (plain_unless b StateCount)
      go true e =
          inr (
            (λ r m. m.0.2
                (subst (λ χ. StatesAtMost meet top events χ limit) (sym (formula_of_only kind rule m.0.0 m.0.1))
                (at_most.0 (leb-true states limit e)))),
            refl,
          )
      go false e =
          inl (StateCount, ((φ₀, there.written, λ h. omega (arith, at_most.1 h, leb-false states limit e)), refl), refl)

  buffer_first :
      (old : List ℕ) → states ≤ limit →
      First (buffer_condition meet top events kind rule old ∷ []) (plain_unless (leb (states * events * entry_width kind) (length old)) BufferLength)
  unfolding First plain_unless
  buffer_first old h = go (leb (states * events * entry_width kind) (length old)) refl
    where
      it : IsTableOf meet top events φ₀ states (formula_table meet top φ₀ events limit)
      it = is_table (ValueIn kind) meet top L events limit φ₀ well small h

      go :
          (b : Bool) → leb (states * events * entry_width kind) (length old) ≡ b →
          First (buffer_condition meet top events kind rule old ∷ []) (plain_unless b BufferLength)
      go true e =
          inr (
            (λ r m.
                let q : m.0.2.states ≡ states
                = one_count (ValueIn kind) meet top events φ₀ well m.0.2.states states m.0.2.table (formula_table meet top φ₀ events limit)
                (subst (λ χ. IsTableOf meet top events χ m.0.2.states m.0.2.table) (formula_of_only kind rule m.0.0 m.0.1)
                m.0.2.is_table) it in
                omega (arith, m.0.2.shorter, ap (λ x. x * events * entry_width kind) q, leb-true (states * events * entry_width kind) (length old) e)),
            refl,
          )
      go false e =
          inl (
            BufferLength,
            (
              (
                φ₀,
                there.written,
                record {
                  states = states;
                  table = formula_table meet top φ₀ events limit;
                  is_table = it;
                  shorter = leb-false (states * events * entry_width kind) (length old) e;
                },
              ),
              refl,
            ),
            refl,
          )

  -- A table with the same entries is the rule's.
  rule_table_is : (u : Machine ℕ ℕ) → states ≤ limit → Agree events states u (formula_table meet top φ₀ events limit) → RuleTable meet top events kind rule
      states u
  rule_table_is u h a =
      let it : IsTableOf meet top events φ₀ states u
      = table_agrees meet top events φ₀ states (formula_table meet top φ₀ events limit) u a
      (is_table (ValueIn kind) meet top L events limit φ₀ well small h) in
      record {
        formula = φ₀;
        code = there;
        only = λ χ e. formula_of_only kind rule χ e;
        is_table = it;
        answers = (table_values (ValueIn kind) meet top events L φ₀ well states u it).2;
      }

-- A rule over a set-up or a kind: 5 to 10.
ten_first :
    (meet : ℕ → ℕ → ℕ) (top events : ℕ) (kind : ValueKind) (limit : ℕ) (rule : List ℕ) → MeetSemilattice (ValueIn kind) meet top →
    (more : List Condition) (later : Option Refusal) →
    (rule_refusal events kind rule ≡ none → formula_states meet top (formula_of kind rule) events limit ≤ limit → First more later) →
    First (byte_conditions events kind rule ++ ((states_condition meet top events kind rule limit ∷ []) ++ more))
    (or_else (or_else (rule_refusal events kind rule) (plain_unless (leb (formula_states meet top (formula_of kind rule) events limit) limit) StateCount))
    later)
ten_first meet top events kind limit rule L more later rest =
    subst (First (byte_conditions events kind rule ++ ((states_condition meet top events kind rule limit ∷ []) ++ more)))
    (or_else_assoc (rule_refusal events kind rule) (plain_unless (leb (formula_states meet top (formula_of kind rule) events limit) limit) StateCount) later)
    (first_then (byte_conditions events kind rule) ((states_condition meet top events kind rule limit ∷ []) ++ more)
    (rule_refusal events kind rule) (or_else (plain_unless (leb (formula_states meet top (formula_of kind rule) events limit) limit) StateCount) later)
    (rule_judged events kind rule).first
    (λ ok. first_then (states_condition meet top events kind rule limit ∷ []) more
    (plain_unless (leb (formula_states meet top (formula_of kind rule) events limit) limit) StateCount) later
    (states_first meet top events kind limit rule L ok)
    (λ e. rest ok (leb-true (formula_states meet top (formula_of kind rule) events limit) limit
    (plain_none (leb (formula_states meet top (formula_of kind rule) events limit) limit) StateCount e)))))

-- A value that is read depends on its bytes alone.
value_same :
    (kind : ValueKind) (a b : List ℕ) (at : ℕ) → ((j : ℕ) → j < value_width kind → get_or a (at + j) 0 ≡ get_or b (at + j) 0)
    → value_from kind a at ≡ value_from kind b at
value_same (Numbered n) a b at h =
    let z : at + 0 ≡ at = omega arith in
    subst (λ x. get_or a x 0 ≡ get_or b x 0) z (h 0 (omega arith))
value_same (Register lines) a b at h =
    let z : at + 0 ≡ at = omega arith in
    ap₂ (λ x y. masks_value x y (get_or a (at + 2) 0) (get_or a (at + 3) 0))
    (subst (λ x. get_or a x 0 ≡ get_or b x 0) z (h 0 (omega arith))) (h 1 (omega arith))
    ∙ ap₂ (masks_value (get_or b at 0) (get_or b (at + 1) 0)) (h 2 (omega arith)) (h 3 (omega arith))

module _ (limit : ℕ) (s : Setup) (rule old : List ℕ) where
  compile_first : First (compile_conditions limit s rule old) (compile_refusal limit s rule old)
  unfolding compile_refusal rule_table_refusal
  compile_first =
      first_then (setup_conditions s) _ (setup_refusal s) _ (setup_first s)
      (λ ok. ten_first (setup_meet s) (setup_top s) s.events s.kind limit rule (laws s ok)
      (buffer_condition (setup_meet s) (setup_top s) s.events s.kind rule old ∷ []) _
      (λ fine h. buffer_first (setup_meet s) (setup_top s) s.events s.kind limit rule (laws s ok) fine old h))

pub compile_refusal_claim : CompileRefusalClaim
unfolding condition_numbers right_places has_place part_of order
compile_refusal_claim limit s rule old =
    judged_after_setup s _ (compile_refusal limit s rule old) (compile_first limit s rule old) refl refl refl

-- What an accepted call leaves in the buffer.
module _ (limit : ℕ) (s : Setup) (rule old : List ℕ) (accepted : compile_refusal limit s rule old ≡ none) where
  abbrev n : ℕ
  n = setup_states limit s rule

  abbrev t : Machine ℕ ℕ
  t = setup_table limit s rule

  abbrev output : List ℕ
  output = table_bytes (entry_bytes s.kind) s.events t n

  abbrev from_rule : Option Refusal
  from_rule = rule_table_refusal s.kind s.events (setup_top s) s.meet rule limit

  abbrev room : Option Refusal
  room = plain_unless (leb (n * s.events * entry_width s.kind) (length old)) BufferLength

  none_of : (setup_refusal s ≡ none) × (from_rule ≡ none) × (room ≡ none)
  unfolding compile_refusal
  none_of =
      let a = or_else_none (setup_refusal s) (or_else from_rule room) accepted in
      let b = or_else_none from_rule room a.1 in
      (a.0, b.0, b.1)

  contents_are : compile_contents limit s rule old ≡ output ++ drop (length output) old
  unfolding put_unless put
  contents_are = contents_at limit s rule old _ accepted

  output_length : length output ≡ n * s.events * entry_width s.kind
  output_length = table_length ℕ (entry_bytes s.kind) (entry_width s.kind) (entry_length s.kind) s.events t n

  enough : n * s.events * entry_width s.kind ≤ length old
  enough = leb-true (n * s.events * entry_width s.kind) (length old) (plain_none (leb (n * s.events * entry_width s.kind) (length old)) BufferLength none_of.2)

  rule_fine : rule_refusal s.events s.kind rule ≡ none
  unfolding rule_table_refusal
  rule_fine = (or_else_none (rule_refusal s.events s.kind rule) (plain_unless (leb n limit) StateCount) none_of.1).0

  byte_at : (i : ℕ) → i < n * s.events * entry_width s.kind → get_or (compile_contents limit s rule old) i 0 ≡ get_or output i 0
  byte_at i h =
      ap (λ l. get_or l i 0) contents_are ∙ get_or-append output (drop (length output) old) 0 i (omega (arith, h, output_length))

  -- The machine reads the output's bytes alone.
  agrees : Agree s.events n (machine_of s.kind s.events (compile_contents limit s rule old)) t
  agrees =
      record {
        values_agree = λ l e hl he.
            value_same s.kind (compile_contents limit s rule old) output ((l * s.events + e) * entry_width s.kind)
            (λ j hj. byte_at ((l * s.events + e) * entry_width s.kind + j)
            (omega (arith, hj, entry_within s.kind (n * s.events) (l * s.events + e) (index_below s.events n l e hl he), entry_width_is s.kind)))
            ∙ (read_back s.kind s.events n t).values_agree l e hl he;
        nexts_agree = λ l e hl he.
            byte_at ((l * s.events + e) * entry_width s.kind + value_width s.kind)
            (omega (arith, entry_within s.kind (n * s.events) (l * s.events + e) (index_below s.events n l e hl he), entry_width_is s.kind))
            ∙ (read_back s.kind s.events n t).nexts_agree l e hl he;
      }

  pub made_table : RuleTable (setup_meet s) (setup_top s) s.events s.kind rule n t
  made_table =
      rule_table_is (setup_meet s) (setup_top s) s.events s.kind limit rule (laws s none_of.0) rule_fine t
      (few s none_of.0 limit rule none_of.1) (record { values_agree = λ l e hl he. refl; nexts_agree = λ l e hl he. refl })

  compiled_bytes : CompiledBytes limit s rule old n (compile_contents limit s rule old)
  compiled_bytes =
      record {
        few = few s none_of.0 limit rule none_of.1;
        same_length =
            ap length contents_are ∙ length-append output (drop (length output) old)
            ∙ omega (arith, length-drop (length output) old, output_length, enough);
        kept =
            ap₂ drop (sym output_length) contents_are
            ∙ drop-append_seam output (drop (length output) old)
            ∙ ap (λ k. drop k old) output_length;
        table =
            rule_table_is (setup_meet s) (setup_top s) s.events s.kind limit rule (laws s none_of.0) rule_fine
            (machine_of s.kind s.events (compile_contents limit s rule old)) (few s none_of.0 limit rule none_of.1) agrees;
      }

same_contents : (limit : ℕ) (s : Setup) (rule old : List ℕ) (r : Refusal) → compile_refusal limit s rule old ≡ some r → compile_contents limit s rule old ≡ old
unfolding put_unless
same_contents limit s rule old r e = contents_at limit s rule old _ e

pub compile_claim : CompileClaim
compile_claim = record { accepted = compiled_bytes; refused = same_contents }

append_none : (a : Option Refusal) → or_else a none ≡ a
unfolding or_else
append_none none = refl
append_none (some r) = refl

-- A rule beside an accepted set-up: 5 to 10; and a set-up and a rule: 1 to 3 before these.
module _ (s : Setup) (rule : List ℕ) where
  pub rule_first :
      setup_refusal s ≡ none → First (rule_conditions_of s rule) (rule_table_refusal s.kind s.events (setup_top s) s.meet rule state_limit)
  unfolding rule_table_refusal First
  rule_first ok =
      subst (First (rule_conditions_of s rule))
      (append_none (or_else (rule_refusal s.events s.kind rule)
      (plain_unless (leb (rule_states s.kind s.events (setup_top s) s.meet rule state_limit) state_limit) StateCount)))
      (ten_first (setup_meet s) (setup_top s) s.events s.kind state_limit rule (laws s ok) [] none (λ fine h. refl))

  pub setup_rule_first :
      First (pair_table_conditions s rule)
      (or_else (setup_refusal s) (rule_table_refusal s.kind s.events (setup_top s) s.meet rule state_limit))
  setup_rule_first = first_then (setup_conditions s) (rule_conditions_of s rule) (setup_refusal s) _ (setup_first s) rule_first

-- What is claimed of a rule's table, in document 01's words alone.
pub printed_table :
    (s : Setup) (rule : List ℕ) (n : ℕ) (t : Machine ℕ ℕ) → RuleTable (setup_meet s) (setup_top s) s.events s.kind rule n t →
    IsRuleTable s rule n t
printed_table s rule n t x =
    record { formula = x.formula; code = x.code.written; only = x.only; is_table = x.is_table; answers = x.answers }
