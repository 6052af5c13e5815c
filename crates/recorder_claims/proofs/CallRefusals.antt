-- Each call on a tool, and a sequence of events, is judged by its conditions.
use mathlib.Core.{Path.{◌≡◌, refl, sym, subst}, Logic.{inl, inr}, Bool.{Bool, true, false, cond}, List.{List, [], ◌∷◌, ◌++◌}}
use mathlib.Core.Option.{Option, none, some, some-ne-none}
use Prim.Native.Nat.{ℕ, ◌+◌, ◌<◌, zero, suc}
use native.Mathlib.Omega.{arith}
use borrow.Author.Tests.{ltb-true, ltb-false, leb-true, leb-false}
use lib.{Dec.{ltb, leb}, ListN.{length, get_or}}
use Rattle.limits.specs.Limits.{channel_limit, row_limit, total_limit}
use Rattle.theory.proofs.ValueSets.{and_left, every_at, every_some}
use Rattle.refusal.specs.declared.Refusal.{Refusal}
use Rattle.refusal.specs.Refusal.{has_place, part_of, order, condition_numbers, right_places, Condition, plain, First}
use Rattle.refusal.specs.RefusalAnswers.{or_else, plain_unless}
use Rattle.refusal.proofs.Refusals.{or_else_none, plain_none, plain_first, first_append, first_then, judged}
use Rattle.channel_log.specs.Calls.{Call, load, event, restart, restart_all, clear}
use Rattle.channel_log.specs.{CallSteps.{Content, channel_refusal, empty_refusal, on_event}, Log.{large_event, large_total, occurrence_refusal}}
use Rattle.channel_log.specs.{Log.{rows_refusal}, Rows.{all_rows, other_rows}}
use Rattle.channel_log.specs.{Calls.{map_option, Loaded}, Distance.{Occurrence, Reading, TotalAbove}}
use Rattle.recorder.specs.Store.{Store, setup_of, tool_setup_of, channels, rows, all_pulses, ToolFault}
use Rattle.recorder.specs.ToolTests.{setup_test, named_test, tool_test}
use Rattle.recorder.specs.CompiledRule.{rule_judged, states_of_rule, table_of_rule}
use Rattle.recorder.specs.{Called.{content, fault_refusal, tool_refusal}, Replay.{word_test, pulses_refusal, replay_refusal}}
use Rattle.recorder.proofs.{Held.{accepted_of_test, values_accepted}, Replays.{events_of}}
use Rattle.synthesis.specs.TableOfRule.{rule_conditions_of}
use Rattle.recorder_claims.specs.Claims.{fault_condition, empty_condition, event_condition, total_condition, CallRefusalClaim, ReplayRefusalClaim}
use Rattle.recorder.specs.Store.{channel_condition, store_condition, rows_condition, RowsAbove, call_conditions, replay_conditions}
use Rattle.recorder_claims.proofs.{Claims.{fault_of, tool_tested}, LoadedRules.{accepted_code, rule_first, rule_well_formed, is_table_of}}
use Rattle.theory.specs.{MealyMachine.{Word}, ReachableStates.{IsTableOf}}
use Rattle.values.specs.{Setup.{Setup, SetupValue, setup_meet, setup_top}, SetupTests.{setup_refusal}}
use Rattle.formulas.specs.{RuleConditions.{node_bytes, OfFormula}, RuleRefusal.{formula_of}}
use Rattle.formulas.proofs.RuleClaims.{formula_of_only}
use Rattle.synthesis.proofs.CompileClaims.{one_count}
use Rattle.refusal.specs.declared.Refusal.TheVariants.{BufferLength, ChannelEmpty, EventNumber, PulseTotal, RowTotal, ToolContents, ChannelNumber}

-- A test that fails exactly where a condition is met.
told_first :
    (given : Refusal) (Met : Type 0) (t : Bool) → (t ≡ false → Met) → (t ≡ true → ¬ Met) → First (plain given Met ∷ []) (cond t none (some given))
unfolding plain_unless
told_first given Met true met unmet = plain_first given Met true met unmet
told_first given Met false met unmet = plain_first given Met false met unmet

-- A number that is not below another, and 19 of a total.
pub number_first : (given : Refusal) (a b : ℕ) → First (plain given (¬ (a < b)) ∷ []) (cond (ltb a b) none (some given))
number_first given a b = told_first given (¬ (a < b)) (ltb a b) (λ f l. omega (arith, ltb-false a b f)) (λ p f. f (ltb-true a b p))

total_first : (total pulses : ℕ) → First (plain PulseTotal (TotalAbove (some total) pulses) ∷ []) (large_total (total + pulses))
total_first total pulses =
    told_first PulseTotal (TotalAbove (some total) pulses) (leb (total + pulses) total_limit) (leb-false (total + pulses) total_limit)
    (λ p l. omega (arith, l, leb-true (total + pulses) total_limit p))

-- 15, and 16 and 19 after it, whatever a loaded channel holds beside its total.
module _ {X : Type 0} (total : X → ℕ) where
  pub empty_first : (o : Option X) → First (plain ChannelEmpty (map_option total o ≡ none) ∷ []) (empty_refusal o)
  unfolding First
  empty_first none = inl (ChannelEmpty, (refl, refl), refl)
  empty_first (some x) = inr (λ r m. some-ne-none (total x) m.0, refl)

  pub on_event_first :
      (K : Content X Occurrence (Reading ℕ)) (n : ℕ) → ((x : X) (i : Occurrence) → occurrence_refusal n (total x) i ≡ K.event_refusal x i) →
      (o : Option X) (i : Occurrence) →
      First (plain ChannelEmpty (map_option total o ≡ none) ∷ plain EventNumber (¬ (i.event < n)) ∷ plain PulseTotal (TotalAbove
      (map_option total o) i.pulses) ∷ []) (on_event K o i)
  unfolding First
  on_event_first K n same none i = inl (ChannelEmpty, (refl, refl), refl)
  on_event_first K n same (some x) i =
      inr (
        λ r m. some-ne-none (total x) m.0,
        subst (First (plain EventNumber (¬ (i.event < n)) ∷ plain PulseTotal (TotalAbove (some (total x)) i.pulses) ∷ [])) (same x i)
            (first_append (plain EventNumber (¬ (i.event < n)) ∷ []) (plain PulseTotal (TotalAbove (some (total x)) i.pulses) ∷ []) (large_event n i.event)
            (large_total (total x + i.pulses)) (number_first EventNumber i.event n) (total_first (total x) i.pulses)),
      )

pub no_conditions : First [] none
unfolding First
no_conditions = refl

-- 14, and what comes after it.
pub after_14 : (c : ℕ) (cs : List Condition) (later : Option Refusal) → First cs later → First (channel_condition c ∷ cs) (or_else (channel_refusal c) later)
after_14 c cs later h = first_append (channel_condition c ∷ []) cs (channel_refusal c) later (number_first ChannelNumber c channel_limit) h

-- 25 of a tool, and of a load: `Others n` says that the other channels have n rows, and only as many as they have.
pub rows_first : (n : ℕ) → First (plain RowTotal (row_limit < n) ∷ []) (rows_refusal n)
rows_first n = told_first RowTotal (row_limit < n) (leb n row_limit) (leb-false n row_limit) (λ p l. omega (arith, l, leb-true n row_limit p))

module _ (s : Setup) (ok : setup_refusal s ≡ none) (rule : List ℕ) (Others : ℕ → Type 0) (others : ℕ) (have : Others others)
    (only : (n : ℕ) → Others n → n ≡ others) where
  load_rows_first : rule_judged s rule ≡ none → First (rows_condition s Others rule ∷ []) (rows_refusal (others + states_of_rule s rule))
  load_rows_first fine = told_first RowTotal _ (leb (others + states_of_rule s rule) row_limit) met unmet
    where
      met : leb (others + states_of_rule s rule) row_limit ≡ false → OfFormula (node_bytes s.kind) rule (RowsAbove s Others)
      met f = (
        formula_of s.kind rule,
        accepted_code s rule fine,
        record {
          others = others;
          have = have;
          states = states_of_rule s rule;
          table = table_of_rule s rule;
          is_table = is_table_of s rule ok fine;
          above = leb-false (others + states_of_rule s rule) row_limit f;
        },
      )

      unmet : leb (others + states_of_rule s rule) row_limit ≡ true → ¬ OfFormula (node_bytes s.kind) rule (RowsAbove s Others)
      unmet p (φ, code, m) =
          let e = formula_of_only s.kind rule φ code in
          let n =
          one_count (SetupValue s) (setup_meet s) (setup_top s) s.events (formula_of s.kind rule) (rule_well_formed s rule ok fine) m.states
          (states_of_rule s rule) m.table (table_of_rule s rule)
          (subst (λ φ. IsTableOf (setup_meet s) (setup_top s) s.events φ m.states m.table) e m.is_table) (is_table_of s rule ok fine) in
          omega (arith, m.above, n, only m.others m.have, leb-true (others + states_of_rule s rule) row_limit p)

  -- 14, 5 to 10, then 25.
  pub load_first :
      (c : ℕ) →
      First (channel_condition c ∷ (rule_conditions_of s rule ++ (rows_condition s Others rule ∷ [])))
      (or_else (channel_refusal c) (or_else (rule_judged s rule) (rows_refusal (others + states_of_rule s rule))))
  load_first c =
      after_14 c (rule_conditions_of s rule ++ (rows_condition s Others rule ∷ [])) _
      (first_then (rule_conditions_of s rule) (rows_condition s Others rule ∷ []) (rule_judged s rule) _ (rule_first s rule ok) load_rows_first)

-- 17 and 25, and what comes after them.
module _ (t : Store) where
  after_faults :
      (call : Call Occurrence) (cs : List Condition) (later : Option Refusal) → (setup_test (tool_setup_of t) ≡ true → First cs later) →
      First (fault_condition t call ∷ store_condition t ∷ cs) (or_else (fault_refusal t call) later)
  after_faults call cs later h =
      let test = tool_test t call in
      first_then (fault_condition t call ∷ store_condition t ∷ []) cs (fault_refusal t call) later
      (first_append (fault_condition t call ∷ []) (store_condition t ∷ []) (plain_unless test ToolContents) (rows_refusal (all_rows (rows t)))
      (plain_first ToolContents (ToolFault t call) test (fault_of t call) (tool_tested t call).0) (rows_first (all_rows (rows t))))
      (λ e.
      h
      (and_left (setup_test (tool_setup_of t)) (named_test t call)
      (plain_none test ToolContents (or_else_none (plain_unless test ToolContents) (rows_refusal (all_rows (rows t))) e).0)))

abbrev held_total : Loaded ℕ → ℕ
held_total x = x.total

call_first : (t : Store) (call : Call Occurrence) → First (call_conditions t call) (tool_refusal t call)
unfolding call_conditions
call_first t (load c r) =
    after_faults t (load c r) _ _
    (λ h.
    load_first (setup_of t) (values_accepted (tool_setup_of t) (accepted_of_test (tool_setup_of t) h)) r (λ n. other_rows c (rows t) ≡ n)
    (other_rows c (rows t)) refl (λ n e. sym e) c)
call_first t (event c i) =
    after_faults t (event c i) (channel_condition c ∷ empty_condition t c ∷ event_condition t i.event ∷ total_condition t c i.pulses ∷ [])
    (or_else (channel_refusal c) (on_event (content t) (channels t c) i))
    (λ h.
    after_14 c (empty_condition t c ∷ event_condition t i.event ∷ total_condition t c i.pulses ∷ []) (on_event (content t) (channels t c) i)
    (on_event_first held_total (content t) t.setup.events (λ x i. refl) (channels t c) i))
call_first t (restart c) =
    after_faults t (restart c) (channel_condition c ∷ empty_condition t c ∷ []) (or_else (channel_refusal c) (empty_refusal (channels t c)))
    (λ h. after_14 c (empty_condition t c ∷ []) (empty_refusal (channels t c)) (empty_first held_total (channels t c)))
call_first t restart_all = after_faults t restart_all [] none (λ h. no_conditions)
call_first t (clear c) = after_faults t (clear c) (channel_condition c ∷ []) (channel_refusal c) (λ h. number_first ChannelNumber c channel_limit)

pub call_refusals : CallRefusalClaim
unfolding call_conditions condition_numbers right_places has_place part_of order
call_refusals t (load c r) = judged _ _ (call_first t (load c r)) refl refl
call_refusals t (event c i) = judged _ _ (call_first t (event c i)) refl refl
call_refusals t (restart c) = judged _ _ (call_first t (restart c)) refl refl
call_refusals t restart_all = judged _ _ (call_first t restart_all) refl refl
call_refusals t (clear c) = judged _ _ (call_first t (clear c)) refl refl

-- 16 of a sequence, and 13.
word_at : (n : ℕ) (word : List ℕ) → Word n word → (i : ℕ) → i < length word → get_or word i 0 < n
word_at n [] w i l = absurd (omega arith)
word_at n (e ∷ word) w zero l = w.0
word_at n (e ∷ word) w (suc i) l = word_at n word w.1 i (omega arith)

word_of : (n : ℕ) (word : List ℕ) → ((i : ℕ) → i < length word → get_or word i 0 < n) → Word n word
word_of n [] h = tt
word_of n (e ∷ word) h = (h zero (omega arith), word_of n word (λ i l. h (suc i) (omega (arith, l))))

word_first : (n : ℕ) (word : List ℕ) → First (plain EventNumber (¬ Word n word) ∷ []) (plain_unless (word_test n word) EventNumber)
word_first n word = plain_first EventNumber (¬ Word n word) (word_test n word) large fits
  where
    large : word_test n word ≡ false → ¬ Word n word
    large f w =
        let x = every_some (length word) (λ i. ltb (get_or word i 0) n) f in
        omega (arith, word_at n word w x.0 x.1, ltb-false (get_or word x.0 0) n x.2)

    fits : word_test n word ≡ true → ¬ ¬ Word n word
    fits p f = f (word_of n word (λ i l. ltb-true (get_or word i 0) n (every_at (length word) (λ i. ltb (get_or word i 0) n) p i l)))

room_first : (a b : ℕ) → First (plain BufferLength (b < a) ∷ []) (plain_unless (leb a b) BufferLength)
room_first a b = plain_first BufferLength (b < a) (leb a b) (λ f. leb-false a b f) (λ p l. omega (arith, leb-true a b p))

-- 19 of a sequence.
pulses_first : (o : Option (Loaded ℕ)) (pulses : ℕ) → First (plain PulseTotal (TotalAbove (map_option held_total o) pulses) ∷ []) (pulses_refusal o pulses)
unfolding First
pulses_first none pulses = inr (λ r m. m.0, refl)
pulses_first (some x) pulses = total_first x.total pulses

replay_first :
    (t : Store) (c : ℕ) (word : List Occurrence) (buffer : List ℕ) → First (replay_conditions t c word buffer) (replay_refusal t c word buffer)
unfolding replay_conditions
replay_first t c word buffer =
    let n = t.setup.events in
    let O = plain_unless (word_test n (events_of word)) EventNumber in
    let P = pulses_refusal (channels t c) (all_pulses word) in
    let F = plain_unless (leb (length word) (length buffer)) BufferLength in
    let large = plain EventNumber (¬ Word n (events_of word)) in
    let heavy = total_condition t c (all_pulses word) in
    let short = plain BufferLength (length buffer < length word) in
    after_faults t (restart c) (channel_condition c ∷ empty_condition t c ∷ large ∷ heavy ∷ short ∷ [])
    (or_else (channel_refusal c) (or_else (empty_refusal (channels t c)) (or_else O (or_else P F))))
    (λ h.
    after_14 c (empty_condition t c ∷ large ∷ heavy ∷ short ∷ []) (or_else (empty_refusal (channels t c)) (or_else O (or_else P F)))
    (first_append (empty_condition t c ∷ []) (large ∷ heavy ∷ short ∷ []) (empty_refusal (channels t c)) (or_else O (or_else P F))
    (empty_first held_total (channels t c))
    (first_append (large ∷ []) (heavy ∷ short ∷ []) O (or_else P F) (word_first n (events_of word))
    (first_append (heavy ∷ []) (short ∷ []) P F (pulses_first (channels t c) (all_pulses word)) (room_first (length word) (length buffer))))))

pub replay_refusals : ReplayRefusalClaim
unfolding replay_conditions condition_numbers right_places has_place part_of order
replay_refusals t c word buffer = judged _ _ (replay_first t c word buffer) refl refl
