-- The answer and the buffer's later contents of `compile`, case by case.
use mathlib.Core.{Path.{◌≡◌, refl, sym, ◌∙◌, ap, ap₂, subst}, Logic.{⊎_elim}, Bool.{Bool, true, false}, List.{List}, Option.{Option, none, some}}
use Prim.Native.Nat.{ℕ, ◌*◌, ◌/◌, ◌%◌, ◌≤◌, ◌<◌}
use native.Mathlib.{Nat.{mul-le-mul_right}, Decide.{dec_le}, Omega.{arith}}
use borrow.Author.Tests.{leb-true, le-leb, lt-leb}
use lib.{Dec.{leb}, ListN.{length}}
use Rattle.theory.specs.Formula.{size}
use Rattle.theory.specs.FormulaClasses.{WellFormed}
use Rattle.theory.specs.MealyMachine.{States, Runs}
use Rattle.refusal.specs.{declared.{Refusal.{Refusal}}, declared.Refusal.TheVariants.{BufferLength, NodeCount, StateCount}}
use Rattle.refusal.specs.RefusalAnswers.{or_else, plain_unless, judgement, answered, put_unless}
use Rattle.refusal.specs.Refusal.{put}
use Rattle.refusal.proofs.Refusals.{judgement_accepted, judgement_refused, or_else_none, plain_none}
use Rattle.values.specs.declared.ValueKind.{ValueKind}
use Rattle.values.specs.declared.ValueKind.TheVariants.{Numbered, Register}
use Rattle.values.specs.Setup.{ValueIn, meet_of, top_of, Setup, setup_of_kind, setup_meet, setup_top}
use Rattle.values.specs.{HandedIn.{setup_of}, declared.SetUp.{SetUp}, declared.Values.{Values}}
use Rattle.values.specs.declared.Values.TheVariants.{Numbered as NumberedValues, Register as RegisterValues}
use Rattle.values.specs.SetupInOrder.{SetupLaws}
use Rattle.values.specs.SetupTests.{kind_refusal, setup_refusal}
use Rattle.values.specs.ValueTests.{value_fits}
use Rattle.values.proofs.Setups.{setup_accepted, laws_hold, accepted_count, kind_passed}
use Rattle.formulas.specs.declared.Nodes.{Nodes}
use Rattle.formulas.specs.{RuleConditions.{node_width}, NodeWalks.{field}, NodeArrays.{decoded}}
use Rattle.formulas.specs.RuleRefusal.{count_fits, fields_refusal, rule_refusal, formula_of}
use Rattle.formulas.proofs.RuleClaims.{accepted_formula_of, decoded_reads}
use Rattle.machines.specs.{TableBytes.{table_bytes, entry_width, entry_bytes}, StoredEntries.{kept_bytes, stored, storable}}
use Rattle.machines.specs.Claims.{OfBytes}
use Rattle.machines.proofs.{Stores.{stored_table, storable_room, after_none, after_all}, EntryIndex.{state_below, event_below}}
use Rattle.synthesis.specs.Compilation.{rule_states, rule_table, rule_table_refusal, setup_states, setup_table}
use Rattle.synthesis.specs.{Compilation.{compile_refusal, compile_answer, compile_contents}, MadeTable.{Tabled, Attempted, Answered, attempt_answer}}
use Rattle.synthesis.proofs.{Compilation.{judged_nodes, answer_many, answer_short, answer_stored}, CompiledTable.{table_runs, wider}}
use Rattle.limits.specs.Limits.{event_limit, node_limit, state_limit}
use Rattle.std.specs.Prelude.{Err, Ok, Result}

-- The lent buffer beside an answer.
pub contents_at :
    (limit : ℕ) (s : Setup) (rule old : List ℕ) (answer : Option Refusal) → compile_refusal limit s rule old ≡ answer →
    compile_contents limit s rule old
    ≡ put_unless answer (table_bytes (entry_bytes s.kind) s.events (setup_table limit s rule) (setup_states limit s rule)) old
unfolding compile_contents
contents_at limit s rule old answer e =
    ap
    (λ (a : Option Refusal).
    put_unless a (table_bytes (entry_bytes s.kind) s.events (setup_table limit s rule) (setup_states limit s rule)) old)
    e

-- A value of an accepted set-up lies in its bytes.
of_bytes : (kind : ValueKind) (top : ℕ) (table : List ℕ) → kind_refusal kind top table ≡ none → (v : ℕ) → ValueIn kind v → OfBytes kind v
of_bytes (Numbered n) top table e v h = omega (arith, h, accepted_count n top table e)
of_bytes (Register lines) top table e v h = tt

-- What an accepted set-up and an accepted rule are.
module _ (s : Setup) (ok : setup_refusal s ≡ none) where
  pub laws : SetupLaws s
  laws = laws_hold s ok

  pub few_events : s.events ≤ event_limit
  few_events = ((setup_accepted s).0 ok).few_events

  module _ (limit : ℕ) (rule : List ℕ) (fine : rule_table_refusal s.kind s.events (setup_top s) s.meet rule limit ≡ none) where
    rule_fine : rule_refusal s.events s.kind rule ≡ none
    unfolding rule_table_refusal
    rule_fine = (or_else_none (rule_refusal s.events s.kind rule) (plain_unless
        (leb (rule_states s.kind s.events (setup_top s) s.meet rule limit) limit) StateCount) fine).0

    pub few : rule_states s.kind s.events (setup_top s) s.meet rule limit ≤ limit
    unfolding rule_table_refusal
    few =
        leb-true (rule_states s.kind s.events (setup_top s) s.meet rule limit) limit
        (plain_none (leb (rule_states s.kind s.events (setup_top s) s.meet rule limit) limit) StateCount
        (or_else_none (rule_refusal s.events s.kind rule) (plain_unless
        (leb (rule_states s.kind s.events (setup_top s) s.meet rule limit) limit) StateCount) fine).1)

    pub formula_well_formed : WellFormed s.events (ValueIn s.kind) (formula_of s.kind rule)
    formula_well_formed = (accepted_formula_of s.events s.kind rule rule_fine).accepted.well_formed

    pub formula_small : size (formula_of s.kind rule) ≤ node_limit
    formula_small = (accepted_formula_of s.events s.kind rule rule_fine).accepted.within

    pub entries_run :
        Runs s.events (ValueIn s.kind) (States (rule_states s.kind s.events (setup_top s) s.meet rule limit))
        (rule_table s.kind s.events (setup_top s) s.meet rule limit)
    entries_run =
        (table_runs (ValueIn s.kind) (setup_meet s) (setup_top s) laws s.events limit (formula_of s.kind rule)
        formula_well_formed formula_small few).1

-- The cases of the answer.
module _ (limit : ℕ) (s : Setup) (rule old : List ℕ) where
  abbrev states : ℕ
  states = setup_states limit s rule

  abbrev answer : Option Refusal
  answer = compile_refusal limit s rule old

  abbrev from_rule : Option Refusal
  from_rule = rule_table_refusal s.kind s.events (setup_top s) s.meet rule limit

  abbrev room : Option Refusal
  room = plain_unless (leb (states * s.events * entry_width s.kind) (length old)) BufferLength

  answer_setup : (r : Refusal) → setup_refusal s ≡ some r → answer ≡ some r
  unfolding compile_refusal or_else
  answer_setup r e = ap (λ a. or_else a (or_else from_rule room)) e

  answer_rule : setup_refusal s ≡ none → (r : Refusal) → from_rule ≡ some r → answer ≡ some r
  unfolding compile_refusal or_else
  answer_rule e r q = ap (λ a. or_else a (or_else from_rule room)) e ∙ ap (λ a. or_else a room) q

  answer_room : setup_refusal s ≡ none → from_rule ≡ none → answer ≡ room
  unfolding compile_refusal or_else
  answer_room e q = ap (λ a. or_else a (or_else from_rule room)) e ∙ ap (λ a. or_else a room) q

  refused_there :
      (r : Refusal) → answer ≡ some r → (Err r ≡ answered answer states) × (old ≡ compile_contents limit s rule old)
  unfolding answered put_unless
  refused_there r e = (sym (ap (λ a. answered a states) e), sym (contents_at limit s rule old _ e))

  accepted_there :
      answer ≡ none →
      (Ok states ≡ answered answer states)
      × (put (table_bytes (entry_bytes s.kind) s.events (setup_table limit s rule) states) old ≡ compile_contents limit s rule old)
  unfolding answered put_unless
  accepted_there e = (sym (ap (λ a. answered a states) e), sym (contents_at limit s rule old _ e))

  module _ (ok : setup_refusal s ≡ none) where
    from_nodes : (o : Option Refusal) → rule_refusal s.events s.kind rule ≡ o → from_rule ≡ or_else o (plain_unless (leb states limit) StateCount)
    unfolding rule_table_refusal
    from_nodes o e = ap (λ a. or_else a (plain_unless (leb states limit) StateCount)) e

    case_rule :
        (r : Refusal) → rule_refusal s.events s.kind rule ≡ some r →
        (Err r ≡ answered answer states) × (old ≡ compile_contents limit s rule old)
    unfolding or_else
    case_rule r e = refused_there r (answer_rule ok r (from_nodes (some r) e))

    module _ (fine : rule_refusal s.events s.kind rule ≡ none) (new : List ℕ) (n : ℕ) (b : Bool)
        (t : Attempted s.kind (decoded s.kind rule) (setup_meet s) (setup_top s) s.events limit old new n b) where
      tabled : Tabled (setup_meet s) (setup_top s) (formula_of s.kind rule) s.events limit t.values t.nexts n
      tabled =
          let a = accepted_formula_of s.events s.kind rule fine in
          let d = decoded_reads s.kind rule (formula_of s.kind rule) a.written a.accepted.within in
          let w = a.accepted.well_formed in
          t.tables (formula_of s.kind rule) d.reads (sym d.counted) a.accepted.shallow w.closed w.guarded

      case_many : limit < n → (attempt_answer limit n b ≡ answered answer states) × (new ≡ compile_contents limit s rule old)
      unfolding or_else plain_unless
      case_many h =
          let ten : leb states limit ≡ false = lt-leb states limit (tabled.more (omega (arith, tabled.at_most, h))) in
          let w = refused_there StateCount (answer_rule ok StateCount (from_nodes none fine ∙ ap (λ x. plain_unless x StateCount) ten)) in
          (sym (answer_many limit n b h) ∙ w.0, t.more h ∙ w.1)

      module _ (h : n ≤ limit) where
        states_are : states ≡ n
        states_are = tabled.states h

        through : from_rule ≡ none
        unfolding or_else plain_unless
        through = from_nodes none fine ∙ ap (λ x. plain_unless x StateCount) (le-leb states limit (omega (arith, states_are, h)))

        room_is : b ≡ leb (states * s.events * entry_width s.kind) (length old)
        room_is =
            let little = mul-le-mul_right s.events h in
            t.fits h
            ∙ storable_room (entry_width s.kind) t.values t.nexts (n * s.events) old (omega (arith, t.room.0, little))
            (omega (arith, t.room.1, little))
            ∙ ap (λ x. leb (x * s.events * entry_width s.kind) (length old)) (sym states_are)

        bytes_are : stored (kept_bytes s.kind) t.values t.nexts (n * s.events) ≡ table_bytes (entry_bytes s.kind) s.events
            (setup_table limit s rule) states
        bytes_are =
            stored_table s.kind s.events n (setup_table limit s rule) t.values t.nexts (tabled.values_are h) (tabled.nexts_are h)
            (λ i l.
            of_bytes s.kind s.top s.meet (kind_passed s ok) _
            (subst (ValueIn s.kind) (sym (tabled.values_are h i l))
            ((entries_run s ok limit rule through).value_in (i / s.events)
            (subst (λ x. i / s.events < x) (sym states_are) (state_below s.events n i l)) (i % s.events) (event_below s.events n i l))))
            ∙ ap (table_bytes (entry_bytes s.kind) s.events (setup_table limit s rule)) (sym states_are)

        case_few : (attempt_answer limit n b ≡ answered answer states) × (new ≡ compile_contents limit s rule old)
        unfolding plain_unless
        case_few = go b refl
          where
            fit : (x : Bool) → b ≡ x → storable (entry_width s.kind) t.values t.nexts (n * s.events) old ≡ x
            fit x e = sym (t.fits h) ∙ e

            go : (x : Bool) → b ≡ x → (attempt_answer limit n b ≡ answered answer states) × (new ≡ compile_contents limit s rule old)
            go true e =
                let w = accepted_there (answer_room ok through ∙ ap (λ y. plain_unless y BufferLength) (sym room_is ∙ e)) in (
                  sym (answer_stored limit n b h e) ∙ ap Ok (sym states_are) ∙ w.0,
                  t.contents h ∙ after_all (entry_width s.kind) (kept_bytes s.kind) t.values t.nexts (n * s.events) old (fit true e)
                      ∙ ap (λ x. put x old) bytes_are ∙ w.1,
                )
            go false e =
                let w = refused_there BufferLength (answer_room ok through ∙ ap (λ y. plain_unless y BufferLength) (sym room_is ∙ e)) in (
                  sym (answer_short limit n b h e) ∙ w.0,
                  t.contents h ∙ after_none (entry_width s.kind) (kept_bytes s.kind) t.values t.nexts (n * s.events) old (fit false e) ∙ w.1,
                )

  pub case_setup :
      (r : Refusal) → setup_refusal s ≡ some r → (Err r ≡ answered answer states) × (old ≡ compile_contents limit s rule old)
  case_setup r e = refused_there r (answer_setup r e)

-- What is answered within a limit is answered within a larger one.
module _ (a c : ℕ) (s : Setup) (rule old : List ℕ) (few_states : setup_states a s rule ≤ a) (l : a ≤ c) where
  same : (setup_states c s rule ≡ setup_states a s rule) × (setup_table c s rule ≡ setup_table a s rule)
  same = wider (setup_meet s) (setup_top s) (formula_of s.kind rule) s.events a c few_states l

  wider_refusal : compile_refusal a s rule old ≡ compile_refusal c s rule old
  unfolding compile_refusal rule_table_refusal
  wider_refusal =
      ap₂ (λ t n. or_else (setup_refusal s) (or_else (or_else (rule_refusal s.events s.kind rule) (plain_unless t StateCount))
      (plain_unless (leb (n * s.events * entry_width s.kind) (length old)) BufferLength)))
      (le-leb (setup_states a s rule) a few_states ∙ sym (le-leb (setup_states c s rule) c (omega (arith, same.0, few_states, l)))) (sym same.0)

  wider_answer : compile_answer a s rule old ≡ compile_answer c s rule old
  wider_answer = ap₂ answered wider_refusal (sym same.0)

  wider_contents : compile_contents a s rule old ≡ compile_contents c s rule old
  unfolding compile_contents
  wider_contents =
      ap₂ (λ o x. put_unless o x old) wider_refusal
      (ap₂ (table_bytes (entry_bytes s.kind) s.events) (sym same.1) (sym same.0))

-- A set-up that was accepted, as it is handed in, and nodes as they were decoded.
module _ (events : ℕ) (kind : ValueKind) (top : ℕ) (meet rule : List ℕ) (ok : setup_refusal (setup_of_kind events kind top meet) ≡ none)
    (top_is : top_of kind top ≡ top) (nodes : Nodes) (d : nodes ≡ decoded kind rule) where
  abbrev s₀ : Setup
  s₀ = setup_of_kind events kind top meet

  abbrev judged : Option Refusal
  judged =
      or_else (plain_unless (count_fits (node_width kind) node_limit (length rule)) NodeCount)
      (fields_refusal (field nodes.kinds) (field nodes.firsts) (field nodes.values) nodes.count (value_fits kind) events)

  pub rule_case :
      (old : List ℕ) (r : Refusal) → judgement judged ≡ Err r →
      (Err r ≡ compile_answer state_limit s₀ rule old) × (old ≡ compile_contents state_limit s₀ rule old)
  rule_case old r e =
      case_rule state_limit s₀ rule old ok r (sym (judged_nodes events kind rule nodes d) ∙ judgement_refused judged r e)

  module _ (accepted : judgement judged ≡ (Ok tt)) (old new : List ℕ) (answer : Result ℕ Refusal)
      (x : Answered kind nodes (meet_of kind meet) top events old new answer) where
    fine : rule_refusal events kind rule ≡ none
    fine = sym (judged_nodes events kind rule nodes d) ∙ judgement_accepted judged accepted

    abbrev By : Nodes → ℕ → Type 0
    By y t = Attempted kind y (meet_of kind meet) t events x.limit old new x.states x.is_stored

    attempt₀ : By (decoded kind rule) (top_of kind top)
    attempt₀ = subst (λ y. By y (top_of kind top)) d (subst (By nodes) (sym top_is) x.attempt)

    abbrev Right : ℕ → Type 0
    Right limit =
        (attempt_answer limit x.states x.is_stored ≡ compile_answer limit s₀ rule old) × (new ≡ compile_contents limit s₀ rule old)

    within : x.states ≤ x.limit → Right state_limit
    within h =
        let w = case_few x.limit s₀ rule old ok fine new x.states x.is_stored attempt₀ h in
        let k : setup_states x.limit s₀ rule ≤ x.limit =
        omega (arith, states_are x.limit s₀ rule old ok fine new x.states x.is_stored attempt₀ h, h) in (
          ap (λ b. answered (or_else (plain_unless b StateCount) (plain_unless x.is_stored BufferLength)) x.states)
              (le-leb x.states state_limit (omega (arith, h, x.few)) ∙ sym (le-leb x.states x.limit h))
              ∙ w.0 ∙ wider_answer x.limit state_limit s₀ rule old k x.few,
          w.1 ∙ wider_contents x.limit state_limit s₀ rule old k x.few,
        )

    at_last : x.limit ≡ state_limit → Dec (x.states ≤ x.limit) → Right state_limit
    at_last e (yes h) = within h
    at_last e (no h) = subst Right e (case_many x.limit s₀ rule old ok fine new x.states x.is_stored attempt₀ (omega (arith, h)))

    pub nodes_case : (answer ≡ compile_answer state_limit s₀ rule old) × (new ≡ compile_contents state_limit s₀ rule old)
    nodes_case =
        let w = ⊎_elim within (λ e. at_last e (dec_le x.states x.limit)) x.last in
        (x.answer_is ∙ w.0, w.1)

-- The top of a set-up as it is handed in is whole: all lines' bits.
pub whole_top : (s : SetUp) → setup_top (setup_of s) ≡ (setup_of s).top
whole_top s = go s.events s.values
  where
    go : (events : ℕ) (v : Values) → setup_top (setup_of (record { events = events; values = v })) ≡ (setup_of (record { events = events; values = v })).top
    go events (NumberedValues values top meet) = refl
    go events (RegisterValues lines) = refl
