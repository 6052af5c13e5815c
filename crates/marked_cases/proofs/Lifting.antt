-- What is computed of a case, and the lemma that lifts it to document 01's definitions, a clause for each kind of case.
use mathlib.Core.Logic.Iff
use mathlib.Core.{Path.{◌≡◌, refl, sym, ◌∙◌, ap, subst}, Logic.{◌↔◌}, Bool.{Bool, true, false, false≢true}}
use mathlib.Core.{List.{List, [], ◌∷◌, ◌++◌, append_assoc}, Option.{Option, none, some, some-ne-none}}
use Prim.Native.Nat.{ℕ, zero, suc, ◌+◌, ◌≤◌, ◌<◌}
use native.Mathlib.Omega.{arith}
use borrow.Author.Tests.{leb-true, leb-false, ltb-true}
use lib.Dec.{T, leb, ltb, eqb}
use Rattle.limits.specs.Limits.{node_limit, state_limit, device_limit, total_limit}
use Rattle.theory.specs.ValueSets.{AtOrBelow}
use Rattle.theory.specs.Formula.{Formula, size, Answers, Node, nodes}
use Rattle.theory.specs.FormulaClasses.{WellFormed}
use Rattle.theory.specs.MealyMachine.{Machine, Word, after, States, Runs, Simulated, SameValues, Implies, Counterexample, FirstCounterexample}
use Rattle.theory.specs.MachineRuns.{BelowOnWords}
use Rattle.theory.specs.{CharacteristicFormula.{Writes}, Exploration.{state_count, table_of}}
use Rattle.theory.specs.FormulaWriting.{written as rule_written}
use Rattle.theory.specs.ConformanceCheck.{is_none, counterexample}
use Rattle.theory.proofs.Claims.{grammar, answers, simulation, table, table_values, table_satisfaction, characteristic, conformance, same_values, trial}
use Rattle.theory.proofs.Claims.{implication}
use Rattle.theory.proofs.ConformanceClaims.{passes_iff}
use Rattle.theory.proofs.{Numbers.{eqb_iff}, WordOrder.{word_left, word_right}}
use Rattle.refusal.specs.Refusal.{First}
use Rattle.values.specs.Setup.{register_setup, setup_meet, setup_top, SetupValue, mask_bytes}
use Rattle.values.specs.SetupInOrder.{SetupLaws}
use Rattle.values.specs.ValueTests.{at_or_below}
use Rattle.values.specs.SetupTests.{setup_refusal}
use Rattle.values.proofs.{Setups.{laws_hold, setup_first}, ValueKinds.{value_kinds}}
use Rattle.formulas.specs.RuleConditions.{encode_all, node_width, node_bytes, byte_conditions}
use Rattle.formulas.specs.RuleRefusal.{rule_refusal, formula_of}
use Rattle.formulas.specs.Claims.{AcceptedFormula}
use Rattle.formulas.proofs.{Encoding.{encode_unique}, NodeCodes.{node_code}, RuleClaims.{rule_judged, accepted_formula_of, formula_of_only}}
use Rattle.machines.specs.{TableBytes.{entry_bytes, row_bytes, rows_bytes, table_bytes}, TableRefusal.{table_refusal}, Claims.{AcceptedTable}}
use Rattle.machines.specs.StoredEntries.{two_bytes}
use Rattle.values.specs.{declared.ValueKind.{ValueKind}, declared.ValueKind.TheVariants.{Numbered, Register}}
use Rattle.machines.proofs.TableRefusals.{table_refusal_first, accepted_table}
use Rattle.table_report.specs.{PrintedTable.{Prints}, Report.{report_text, register_report_text}}
use Rattle.table_report.proofs.ReportClaims.{one_report_claim}
use Rattle.channel_log.specs.Distance.{wheel_of_turn, distance}
use Rattle.marked_cases.specs.MarkedCases.{Case, tabled, printed, repeated, refused, written, failing, passing, passing_same, passing_stricter}
use Rattle.marked_cases.specs.MarkedCases.{implying, not_implying, measured, total_within, total_above, times, Form, s, IsRule, TableOf, rows_of, device}
use Rattle.marked_cases.specs.MarkedCases.{handed, registered, masked, both, rows_to_0, file_form, rule_in, rows_in, Holds, AllHold}

-- ---- entries of two numbers each, in the bytes of a kind of values
abbrev in_bytes : ValueKind → List ℕ → List ℕ
in_bytes kind [] = []
in_bytes kind (v ∷ []) = []
in_bytes kind (v ∷ t ∷ rows) = entry_bytes kind v t ++ in_bytes kind rows

module _ (kind : ValueKind) (events : ℕ) (m : Machine ℕ ℕ) where
  row_in_bytes :
      (c l e : ℕ) (rest : List ℕ) →
      in_bytes kind (row_bytes two_bytes events m c l e ++ rest) ≡ row_bytes (entry_bytes kind) events m c l e ++ in_bytes kind rest
  row_in_bytes zero l e rest = refl
  row_in_bytes (suc c) l e rest =
      ap (λ x. entry_bytes kind (m.value l e) (m.next l e) ++ x) (row_in_bytes c l (suc e) rest)
      ∙ sym (append_assoc (entry_bytes kind (m.value l e) (m.next l e)) (row_bytes (entry_bytes kind) events m c l (suc e)) (in_bytes kind rest))

  rows_in_bytes : (n l : ℕ) → in_bytes kind (rows_bytes two_bytes events m n l) ≡ rows_bytes (entry_bytes kind) events m n l
  rows_in_bytes zero l = refl
  rows_in_bytes (suc n) l =
      row_in_bytes events l zero (rows_bytes two_bytes events m n (suc l))
      ∙ ap (λ x. row_bytes (entry_bytes kind) events m events l zero ++ x) (rows_in_bytes n (suc l))

-- ---- what is printed for a text
abbrev printed_for : ValueKind → List ℕ → List ℕ
printed_for (Numbered values) t = report_text t
printed_for (Register lines) t = register_report_text t

prints : (kind : ValueKind) (t : List ℕ) → Prints (file_form kind) t (printed_for kind t)
prints (Numbered values) t = one_report_claim.numbers.prints t
prints (Register lines) t = one_report_claim.registers.prints t

-- ---- what is computed of the cases in a form
module _ (f : Form) where
  -- ---- what is computed: a rule's bytes, its formula, and a formula's count of states and table
  abbrev bytes : List (Node ℕ) → List ℕ
  bytes rule = encode_all (node_bytes (s f).kind) rule

  abbrev formula : List (Node ℕ) → Formula ℕ
  formula rule = formula_of (s f).kind (bytes rule)

  abbrev case_formula : List (Node ℕ) → Formula ℕ
  case_formula rule = formula (rule_in f rule)

  abbrev states : Formula ℕ → ℕ
  states φ = state_count node_limit (setup_meet (s f)) (setup_top (s f)) φ (s f).events state_limit

  abbrev pub made : Formula ℕ → Machine ℕ ℕ
  made φ = table_of node_limit (setup_meet (s f)) (setup_top (s f)) φ (s f).events state_limit

  -- The entries of a table, and of the rows of a case, two numbers each.
  abbrev numbers_of : Machine ℕ ℕ → ℕ → List ℕ
  numbers_of t n = table_bytes two_bytes (s f).events t n

  abbrev numbers_in : List ℕ → List ℕ
  numbers_in [] = []
  numbers_in (v ∷ []) = []
  numbers_in (v ∷ t ∷ rows) = f.value v ∷ t ∷ numbers_in rows

  abbrev below : ℕ → ℕ → Bool
  below = at_or_below (s f).kind (s f).meet

  -- A device in order, an accepted rule with a table; and what a test of two values finds between them.
  unfoldable pub Comparable : ℕ → List ℕ → List (Node ℕ) → Type 0
  Comparable k rows rule =
      (rule_refusal (s f).events (s f).kind (bytes (rule_in f rule)) ≡ none)
      × (leb (states (case_formula rule)) state_limit ≡ true)
      × (table_refusal device_limit (s f).events (s f).kind k 0 (rows_in f rows) ≡ none)

  abbrev on_trial : (ℕ → ℕ → Bool) → ℕ → List ℕ → List (Node ℕ) → Option (List ℕ)
  on_trial related k rows rule = counterexample related (device f rows) (made (case_formula rule)) (s f).events k (states (case_formula rule)) 0 0

  -- Two accepted rules with tables; and what the trial of the first's table against the second's finds.
  unfoldable pub Coverable : List (Node ℕ) → List (Node ℕ) → Type 0
  Coverable first second =
      (rule_refusal (s f).events (s f).kind (bytes (rule_in f first)) ≡ none) × (leb (states (case_formula first)) state_limit ≡ true)
      × (rule_refusal (s f).events (s f).kind (bytes (rule_in f second)) ≡ none) × (leb (states (case_formula second)) state_limit ≡ true)

  abbrev on_cover : List (Node ℕ) → List (Node ℕ) → Option (List ℕ)
  on_cover first second =
      counterexample below (made (case_formula first)) (made (case_formula second)) (s f).events (states (case_formula first)) (states
      (case_formula second)) 0 0

  -- Of a case; of an event repeated, that it leads from state 0 to a state l, and from there nowhere else.
  unfoldable pub Checked : Case → Type 0
  Checked (tabled rule n rows) =
      (rule_refusal (s f).events (s f).kind (bytes (rule_in f rule)) ≡ none)
      × (states (case_formula rule) ≡ n) × (leb n state_limit ≡ true) × (numbers_of (made (case_formula rule)) n ≡ numbers_in rows)
  Checked (printed text output) = printed_for f.kind (text f.kind) ≡ output f.kind
  Checked (repeated rule e first later) =
      (rule_refusal (s f).events (s f).kind (bytes (rule_in f rule)) ≡ none)
      × (leb (states (case_formula rule)) state_limit ≡ true) × (ltb e (s f).events ≡ true)
      × ((made (case_formula rule)).value 0 e ≡ f.value first)
      × ((l : ℕ) × ((made (case_formula rule)).next 0 e ≡ l) × ((made (case_formula rule)).next l e ≡ l) ×
      ((made (case_formula rule)).value l e ≡ f.value later))
  Checked (refused rule refusal) = rule_refusal (s f).events (s f).kind (bytes (rule_in f rule)) ≡ some refusal
  Checked (written n rows count) =
      (φ : Formula ℕ) × (rule_written (device f rows) n 1 0 ≡ φ)
      × (table_refusal state_limit (s f).events (s f).kind n 0 (rows_in f rows) ≡ none)
      × (size φ ≡ count) × (leb count node_limit ≡ true)
      × (states φ ≡ n) × (leb n state_limit ≡ true) × (numbers_of (made φ) n ≡ numbers_in rows)
  Checked (failing k rows rule word) = Comparable k rows rule × (on_trial below k rows rule ≡ some word)
  Checked (passing v) =
      ((device f (both v)).value 0 0 ≡ f.value v) × ((device f (both v)).value 0 1 ≡ f.value v)
      × ((b : ℕ) → SetupValue (s f) b → AtOrBelow (setup_meet (s f)) (f.value v) b)
  Checked (passing_same k rows rule) = Comparable k rows rule × (on_trial eqb k rows rule ≡ none)
  Checked (passing_stricter k rows rule) = Comparable k rows rule × (on_trial below k rows rule ≡ none) × (is_none (on_trial eqb k rows rule) ≡ false)
  Checked (implying first second) = Coverable first second × (on_cover first second ≡ none)
  Checked (not_implying first second word) = Coverable first second × (on_cover first second ≡ some word)
  Checked (measured pulses millimetres total whole remainder) = distance (wheel_of_turn pulses millimetres) total ≡ (whole, remainder)
  Checked (total_within total pulses) = leb (total + pulses) total_limit ≡ true
  Checked (total_above total pulses) = leb (total + pulses) total_limit ≡ false
  Checked (handed most n answer) = table_refusal most (s f).events (s f).kind n 0 (rows_in f (rows_to_0 n)) ≡ answer
  Checked (registered events lines answer) = setup_refusal (register_setup events lines) ≡ answer
  Checked (masked lines low high answer) = rule_refusal 2 (Register lines) (3 ∷ 1 ∷ (mask_bytes low ++ mask_bytes high)) ≡ answer

module _ (f : Form) (fine : setup_refusal (s f) ≡ none) where
  -- ---- the set-up
  laws : SetupLaws (s f)
  laws = laws_hold (s f) fine

  true_iff : (b : Bool) → T b ↔ (b ≡ true)
  true_iff true = ((λ h. refl), λ e. tt)
  true_iff false = ((λ h. absurd h), λ e. absurd (false≢true e))

  decides : (b c : ℕ) → T (below f b c) ↔ AtOrBelow (setup_meet (s f)) b c
  decides b c = Iff.trans (true_iff (below f b c)) (value_kinds.order (s f).kind (s f).meet b c)

  -- ---- rules
  abbrev Well : Formula ℕ → Type 0
  Well φ = WellFormed (s f).events (SetupValue (s f)) φ

  module _ (rule : List (Node ℕ)) where
    first_of : First (byte_conditions (s f).events (s f).kind (bytes f rule)) (rule_refusal (s f).events (s f).kind (bytes f rule))
    first_of = (rule_judged (s f).events (s f).kind (bytes f rule)).first

    module _ (ok : rule_refusal (s f).events (s f).kind (bytes f rule) ≡ none) where
      code : AcceptedFormula (s f).events (s f).kind (bytes f rule) (formula f rule)
      code = accepted_formula_of (s f).events (s f).kind (bytes f rule) ok

      is_rule : IsRule f rule (formula f rule)
      is_rule =
          record {
            of_nodes =
                sym (encode_unique (node_width (s f).kind) (node_bytes (s f).kind) (node_code (s f).kind) rule (nodes (formula f rule)) code.written);
            accepted = subst (First (byte_conditions (s f).events (s f).kind (bytes f rule))) ok first_of;
          }

      well : Well (formula f rule)
      well = code.accepted.well_formed

  -- Every accepted rule is well-formed.
  rule_well : (rule : List (Node ℕ)) (φ : Formula ℕ) → IsRule f rule φ → Well φ
  rule_well rule φ r =
      subst Well (sym (formula_of_only (s f).kind (bytes f rule) φ (ap (bytes f) (sym r.of_nodes))))
      (well rule (sym ((rule_judged (s f).events (s f).kind (bytes f rule)).only none r.accepted)))

  -- ---- tables
  case_in_bytes : (rows : List ℕ) → in_bytes f.kind (numbers_in f rows) ≡ rows_in f rows
  case_in_bytes [] = refl
  case_in_bytes (v ∷ []) = refl
  case_in_bytes (v ∷ t ∷ rows) = ap (λ x. entry_bytes f.kind (f.value v) t ++ x) (case_in_bytes rows)

  rows_are : (t : Machine ℕ ℕ) (n : ℕ) (rows : List ℕ) → numbers_of f t n ≡ numbers_in f rows → rows_of f t n ≡ rows_in f rows
  rows_are t n rows same = sym (rows_in_bytes f.kind 2 t n 0) ∙ ap (in_bytes f.kind) same ∙ case_in_bytes rows

  module _ (φ : Formula ℕ) (good : Well φ) where
    module _ (small : size φ ≤ node_limit) where
      made_is : leb (states f φ) state_limit ≡ true → TableOf f φ (states f φ) (made f φ)
      made_is few =
          (table (SetupValue (s f)) (setup_meet (s f)) (setup_top (s f)) (s f).events φ good node_limit state_limit small).1
          (leb-true (states f φ) state_limit few)

      table_of_states : (n : ℕ) → states f φ ≡ n → leb n state_limit ≡ true → TableOf f φ n (made f φ)
      table_of_states n e few = subst (λ k. TableOf f φ k (made f φ)) e (made_is (ap (λ k. leb k state_limit) e ∙ few))

    -- What any table of the formula f has: a state, values of the set, and the formula's values.
    table_has :
        (n : ℕ) (t : Machine ℕ ℕ) → TableOf f φ n t →
        (0 < n) × Runs (s f).events (SetupValue (s f)) (States n) t
        × ((w : List ℕ) → Word (s f).events w → (e : ℕ) → e < (s f).events → Answers (setup_meet (s f)) (setup_top (s f)) φ w e (t.value (after t 0 w) e))
    table_has n t x = table_values (SetupValue (s f)) (setup_meet (s f)) (setup_top (s f)) (s f).events laws φ good n t x

  -- ---- an event repeated
  module _ (t : Machine ℕ ℕ) (e l : ℕ) (leads : t.next 0 e ≡ l) (loop : t.next l e ≡ l) where
    stays : (k : ℕ) → after t l (times k e) ≡ l
    stays zero = refl
    stays (suc k) = ap (λ x. after t x (times k e)) loop ∙ stays k

    repeats : (k : ℕ) → after t 0 (times (suc k) e) ≡ l
    repeats k = ap (λ x. after t x (times k e)) leads ∙ stays k

  times_word : (e : ℕ) → e < (s f).events → (k : ℕ) → Word (s f).events (times k e)
  times_word e h zero = tt
  times_word e h (suc k) = (h, times_word e h k)

  -- ---- failing words: the same between machines with the same values
  abbrev Alike : Machine ℕ ℕ → Machine ℕ ℕ → Type 0
  Alike t u = SameValues (s f).events t u 0 0

  alike_refl : (m : Machine ℕ ℕ) → Alike m m
  alike_refl m w v e h = refl

  alike_sym : (m q : Machine ℕ ℕ) → Alike m q → Alike q m
  alike_sym m q same w v e h = sym (same w v e h)

  fails_as :
      (m q t u : Machine ℕ ℕ) → Alike m q → Alike t u → (word : List ℕ) → Counterexample (s f).events (setup_meet (s f)) m t 0 0 word →
      Counterexample (s f).events (setup_meet (s f)) q u 0 0 word
  fails_as m q t u alike same word c =
      let v : Word (s f).events (c.before ++ (c.last ∷ [])) = subst (Word (s f).events) c.ends c.events_of in
      let before : Word (s f).events c.before = word_left (s f).events c.before (c.last ∷ []) v in
      let last : c.last < (s f).events = (word_right (s f).events c.before (c.last ∷ []) v).0 in
      record {
        events_of = c.events_of;
        before = c.before;
        last = c.last;
        ends = c.ends;
        not_below = λ b.
            c.not_below
            (subst (λ x. AtOrBelow (setup_meet (s f)) x (t.value (after t 0 c.before) c.last)) (sym (alike c.before before c.last last))
            (subst (AtOrBelow (setup_meet (s f)) (q.value (after q 0 c.before) c.last)) (sym (same c.before before c.last last)) b));
      }

  first_as :
      (m q t u : Machine ℕ ℕ) → Alike m q → Alike t u → (word : List ℕ) → FirstCounterexample (s f).events (setup_meet (s f)) m t 0 0 word →
      FirstCounterexample (s f).events (setup_meet (s f)) q u 0 0 word
  first_as m q t u alike same word c =
      record {
        fails = fails_as m q t u alike same word c.fails;
        first = λ other x. c.first other (fails_as q m u t (alike_sym m q alike) (alike_sym t u same) other x);
      }

  -- So have all tables of one formula.
  tables_alike : (φ : Formula ℕ) → Well φ → (n k : ℕ) (t u : Machine ℕ ℕ) → TableOf f φ n t → TableOf f φ k u → Alike t u
  tables_alike φ good n k t u x y w v e h =
      let only = answers (SetupValue (s f)) (setup_meet (s f)) (setup_top (s f)) (s f).events φ good w e in
      (only (t.value (after t 0 w) e)).0 ((table_has φ good n t x).2 w v e h)
      ∙ sym ((only (u.value (after u 0 w) e)).0 ((table_has φ good k u y).2 w v e h))

  -- ---- a device of one state
  module _ (m : Machine ℕ ℕ) (v : ℕ) (on_0 : m.value 0 0 ≡ v) (on_1 : m.value 0 1 ≡ v) where
    device_value : (l e : ℕ) → l < 1 → e < 2 → m.value l e ≡ v
    device_value zero zero hl he = on_0
    device_value zero (suc zero) hl he = on_1
    device_value zero (suc (suc e)) hl he = absurd (omega arith)
    device_value (suc l) e hl he = absurd (omega arith)

  -- ---- a device against a rule
  module _ (k : ℕ) (rows : List ℕ) (rule : List (Node ℕ)) (h : Comparable f k rows rule) where
    abbrev m : Machine ℕ ℕ
    m = device f rows

    abbrev φ : Formula ℕ
    φ = case_formula f rule

    tried_rule : rule_refusal (s f).events (s f).kind (bytes f (rule_in f rule)) ≡ none
    unfolding Comparable
    tried_rule = h.0

    made_table : TableOf f φ (states f φ) (made f φ)
    unfolding Comparable
    made_table = made_is φ (well (rule_in f rule) tried_rule) (code (rule_in f rule) tried_rule).accepted.within h.1

    device_ok : AcceptedTable (s f).events (s f).kind k 0 (rows_in f rows)
    unfolding Comparable
    device_ok = accepted_table device_limit (s f).events (s f).kind k 0 (rows_in f rows) h.2

    abbrev has : (0 < states f φ) × Runs (s f).events (SetupValue (s f)) (States (states f φ)) (made f φ)
        × ((w : List ℕ) → Word (s f).events w → (e : ℕ) → e < (s f).events → Answers (setup_meet (s f)) (setup_top (s f)) φ w e ((made f φ).value (after
        (made f φ) 0 w) e))
    has = table_has φ (well (rule_in f rule) tried_rule) (states f φ) (made f φ) made_table

    -- Any table of the rule has the values of the one that is made.
    as_made : (n : ℕ) (t : Machine ℕ ℕ) → TableOf f φ n t → Alike (made f φ) t
    as_made n t y = tables_alike φ (well (rule_in f rule) tried_rule) (states f φ) n (made f φ) t made_table y

    fails_first : (word : List ℕ) → on_trial f (below f) k rows rule ≡ some word → FirstCounterexample (s f).events (setup_meet (s f)) m (made f φ) 0 0 word
    fails_first word found =
        ((conformance (SetupValue (s f)) (setup_meet (s f)) (setup_top (s f)) (s f).events (below f) decides k m (states f φ) (made f φ) device_ok.runs
        has.1 0 0
        device_ok.start_in has.0).1 word found).0

    same_iff : (on_trial f eqb k rows rule ≡ none) ↔ Alike m (made f φ)
    same_iff =
        same_values (SetupValue (s f)) (setup_meet (s f)) (setup_top (s f)) (s f).events eqb eqb_iff k m (states f φ) (made f φ) device_ok.runs has.1 0 0
        device_ok.start_in has.0

    passes_below : on_trial f (below f) k rows rule ≡ none → BelowOnWords (s f).events (setup_meet (s f)) m (made f φ) 0 0
    passes_below e =
        (passes_iff (SetupValue (s f)) (setup_meet (s f)) (below f) decides (s f).events k m (states f φ) (made f φ) device_ok.runs has.1 0 0
        device_ok.start_in has.0).0 e

    module _ (n : ℕ) (t : Machine ℕ ℕ) (y : TableOf f φ n t) where
      alike_any : on_trial f eqb k rows rule ≡ none → Alike m t
      alike_any e w v a l = same_iff.0 e w v a l ∙ as_made n t y w v a l

      simulated_any : on_trial f (below f) k rows rule ≡ none → Simulated (s f).events (setup_meet (s f)) (States k) m (States n) t 0 0
      simulated_any e =
          let in_t = table_has φ (well (rule_in f rule) tried_rule) n t y in
          (simulation (SetupValue (s f)) (setup_meet (s f)) (setup_top (s f)) (s f).events ℕ ℕ (States k) m (States n) t device_ok.runs in_t.1 0 0
          device_ok.start_in in_t.0).1
          (λ w v a l. subst (AtOrBelow (setup_meet (s f)) (m.value (after m 0 w) a)) (as_made n t y w v a l) (passes_below e w v a l))

      not_alike_any : is_none (on_trial f eqb k rows rule) ≡ false → ¬ Alike m t
      not_alike_any e f =
          false≢true (sym e ∙ ap is_none (same_iff.1 (λ w v a l. f w v a l ∙ sym (as_made n t y w v a l))))

  -- ---- a rule against a rule
  module _ (first second : List (Node ℕ)) (h : Coverable f first second) where
    first_ok : rule_refusal (s f).events (s f).kind (bytes f (rule_in f first)) ≡ none
    unfolding Coverable
    first_ok = h.0

    second_ok : rule_refusal (s f).events (s f).kind (bytes f (rule_in f second)) ≡ none
    unfolding Coverable
    second_ok = h.2

    first_table : TableOf f (case_formula f first) (states f (case_formula f first)) (made f (case_formula f first))
    unfolding Coverable
    first_table = made_is (case_formula f first) (well (rule_in f first) first_ok) (code (rule_in f first) first_ok).accepted.within h.1

    second_table : TableOf f (case_formula f second) (states f (case_formula f second)) (made f (case_formula f second))
    unfolding Coverable
    second_table = made_is (case_formula f second) (well (rule_in f second) second_ok) (code (rule_in f second) second_ok).accepted.within h.3

    implies_iff : (on_cover f first second ≡ none) ↔ Implies (s f).events (SetupValue (s f)) (setup_meet (s f)) (case_formula f first) (case_formula f second)
    implies_iff =
        let x = table_has (case_formula f first) (well (rule_in f first) first_ok) (states f (case_formula f first)) (made f
        (case_formula f first)) first_table in
        Iff.trans
        (trial (SetupValue (s f)) (setup_meet (s f)) (setup_top (s f)) (s f).events laws (below f) decides (case_formula f second) (well
        (rule_in f second) second_ok)
        (states f (case_formula f second)) (made f (case_formula f second)) second_table (states f (case_formula f first)) (made f (case_formula f first))
        x.1 0 x.0)
        (Iff.trans
        (table_satisfaction (SetupValue (s f)) (setup_meet (s f)) (setup_top (s f)) (s f).events laws (below f) decides (states f (case_formula f first))
        (made f (case_formula f first)) x.1
        (case_formula f second) (well (rule_in f second) second_ok) 0 x.0)
        (implication (SetupValue (s f)) (setup_meet (s f)) (setup_top (s f)) (s f).events laws (case_formula f first) (case_formula f second) (well
        (rule_in f first) first_ok)
        (well (rule_in f second) second_ok) (states f (case_formula f first)) (made f (case_formula f first)) first_table))

    cover_fails :
        (word : List ℕ) → on_cover f first second ≡ some word → (n : ℕ) (m : Machine ℕ ℕ) → TableOf f (case_formula f first) n m →
        (k : ℕ) (t : Machine ℕ ℕ) → TableOf f (case_formula f second) k t → FirstCounterexample (s f).events (setup_meet (s f)) m t 0 0 word
    cover_fails word found n m a k t b =
        let x = table_has (case_formula f first) (well (rule_in f first) first_ok) (states f (case_formula f first)) (made f
        (case_formula f first)) first_table in
        let y = table_has (case_formula f second) (well (rule_in f second) second_ok) (states f (case_formula f second)) (made f
        (case_formula f second)) second_table in
        first_as (made f (case_formula f first)) m (made f (case_formula f second)) t
        (tables_alike (case_formula f first) (well (rule_in f first) first_ok) (states f (case_formula f first)) n (made f
        (case_formula f first)) m first_table a)
        (tables_alike (case_formula f second) (well (rule_in f second) second_ok) (states f (case_formula f second)) k (made f
        (case_formula f second)) t second_table b) word
        ((conformance (SetupValue (s f)) (setup_meet (s f)) (setup_top (s f)) (s f).events (below f) decides (states f (case_formula f first)) (made f
        (case_formula f first))
        (states f (case_formula f second)) (made f (case_formula f second)) x.1 y.1 0 0 x.0 y.0).1 word found).0

  -- ---- the lemma
  lifted : (c : Case) → Checked f c → Holds f c
  unfolding Checked Holds
  lifted (tabled rule n rows) (ok, states_are, few, same) =
      let φ = case_formula f rule in
      record {
        lower = (
          φ,
          is_rule (rule_in f rule) ok,
          (
            made f φ,
            table_of_states φ (well (rule_in f rule) ok) (code
                (rule_in f rule) ok).accepted.within n states_are few,
            rows_are (made f (case_formula f rule)) n rows same,
          ),
        );
      }
  lifted (printed text output) e =
      record { lower = subst (Prints (file_form f.kind) (text f.kind)) e (prints f.kind (text f.kind)) }
  lifted (repeated rule e first later) (ok, few, event, now, (l, leads, loop, then)) =
      let φ = case_formula f rule in
      let says = (table_has φ (well (rule_in f rule) ok) (states f φ) (made f φ) (made_is φ (well (rule_in f rule) ok) (code
      (rule_in f rule) ok).accepted.within few)).2 in
      let h = ltb-true e (s f).events event in
      record {
        lower = (
          φ,
          is_rule (rule_in f rule) ok,
          subst (Answers (setup_meet (s f)) (setup_top (s f)) φ [] e) now (says [] tt e h),
          λ k. subst (Answers (setup_meet (s f)) (setup_top (s f)) φ (times (suc k) e) e)
              (ap (λ x. (made f φ).value x e) (repeats (made f φ) e l leads loop k) ∙ then) (says (times (suc k) e) (times_word e h (suc k)) e h),
        );
      }
  lifted (refused rule refusal) e = record {
    lower = subst (First (byte_conditions (s f).events (s f).kind (bytes f (rule_in f rule)))) e (first_of
        (rule_in f rule));
  }
  lifted (written n rows count) (φ, φ-is, in_order, nodes_are, small, states_are, few, same) =
      let m = device f rows in
      let accepted = accepted_table state_limit (s f).events (s f).kind n 0 (rows_in f rows) in_order in
      let w = characteristic (SetupValue (s f)) (setup_meet (s f)) (setup_top (s f)) (s f).events laws n 1 m refl accepted.runs 0 accepted.start_in in
      let within : size φ ≤ node_limit = subst (λ k. k ≤ node_limit) (sym nodes_are) (leb-true count node_limit small) in
      let good : Well φ = subst Well φ-is (record { closed = w.2; guarded = grammar ℕ (rule_written m n 1 0) w.3; fits = w.4 }) in
      let is_rule_of : Writes m (s f).events [] 0 φ = subst (Writes m (s f).events [] 0) φ-is w.0 in
      record { lower = (φ, is_rule_of, nodes_are, (made f φ, table_of_states φ good within n states_are few, rows_are (made f φ) n rows same)) }
  lifted (failing k rows rule word) (h, found) =
      record {
        lower = (
          case_formula f rule,
          is_rule (rule_in f rule) (tried_rule k rows rule h),
          λ n t y.
              first_as (device f rows) (device f rows) (made f (case_formula f rule)) t (alike_refl (device f rows)) (as_made k rows rule h n t y) word
              (fails_first k rows rule h word found),
        );
      }
  lifted (passing_same k rows rule) (h, found) =
      record { lower = (case_formula f rule, is_rule (rule_in f rule) (tried_rule k rows rule h), λ n t y. alike_any k rows rule h n t y found) }
  lifted (passing_stricter k rows rule) (h, passed, differs) = (
    case_formula f rule,
    record { lower = is_rule (rule_in f rule) (tried_rule k rows rule h) },
    λ n t y. (simulated_any k rows rule h n t y passed, not_alike_any k rows rule h n t y differs),
  )
  lifted (implying first second) (h, found) = (
    case_formula f first,
    case_formula f second,
    record { lower = is_rule (rule_in f first) (first_ok first second h) },
    record { lower = is_rule (rule_in f second) (second_ok first second h) },
    (implies_iff first second h).0 found,
  )
  lifted (not_implying first second word) (h, found) = (
    case_formula f first,
    case_formula f second,
    record { lower = is_rule (rule_in f first) (first_ok first second h) },
    record { lower = is_rule (rule_in f second) (second_ok first second h) },
    (λ i. some-ne-none word (sym found ∙ (implies_iff first second h).1 i)),
    λ n m a k t b. record { lower = cover_fails first second h word found n m a k t b },
  )
  lifted (passing v) (on_0, on_1, low) = λ rule φ r n t x.
      let runs = (table_has φ (rule_well rule φ r) n t x).1 in (
        (λ l k. Unit {0}),
        (λ l k hl hk u e he. (
          subst (λ b. AtOrBelow (setup_meet (s f)) b (t.value k e)) (sym (device_value (device f (both v)) (f.value v) on_0 on_1 l e hl he))
              (low (t.value k e) (runs.value_in k hk e he)),
          tt,
        )),
        tt,
      )
  lifted (measured pulses millimetres total whole remainder) e = record { lower = e }
  lifted (total_within total pulses) e = record { lower = λ l. omega (arith, l, leb-true (total + pulses) total_limit e) }
  lifted (total_above total pulses) e = record { lower = leb-false (total + pulses) total_limit e }
  lifted (handed most n answer) e =
      record { lower = subst (First _) e (table_refusal_first most (s f).events (s f).kind n 0 (rows_in f (rows_to_0 n))) }
  lifted (registered events lines answer) e = record { lower = subst (First _) e (setup_first (register_setup events lines)) }
  lifted (masked lines low high answer) e =
      record { lower = subst (First _) e (rule_judged 2 (Register lines) (3 ∷ 1 ∷ (mask_bytes low ++ mask_bytes high))).first }

-- ---- a list of cases
unfoldable pub AllChecked : Form → List Case → Type 0
AllChecked f [] = Unit {0}
AllChecked f (c ∷ cs) = Checked f c × AllChecked f cs

pub all_lifted : (f : Form) → setup_refusal (s f) ≡ none → (cs : List Case) → AllChecked f cs → AllHold f cs
unfolding AllChecked AllHold
all_lifted f fine [] h = tt
all_lifted f fine (c ∷ cs) h = (lifted f fine c h.0, all_lifted f fine cs h.1)
