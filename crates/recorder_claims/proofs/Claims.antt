-- The claims of `specs/Claims.antt`.
use mathlib.Core.{Path.{◌≡◌, refl, sym, ◌∙◌, ap, subst, subst⁻¹, fun_ext}, Logic.{⊎_elim}, Bool.{Bool, true, false, false≢true}, List.{List}}
use mathlib.Core.Option.{Option, none, some, some-ne-none}
use Prim.Native.Nat.{ℕ, ◌≤◌}
use native.Mathlib.Omega.{arith}
use borrow.Author.Tests.{ltb-true, ltb-false}
use lib.{Dec.{T, eqb, ltb, eqb→eq, eqb_refl}, ListN.{take, replicate, length-replicate}}
use Rattle.theory.specs.ValueSetTests.{every}
use Rattle.theory.proofs.ValueSets.{and_left, and_right, and_failed, and_cases, every_at, every_some}
use Rattle.limits.specs.Limits.{meet_limit, channel_limit, row_limit, store_limit}
use Rattle.refusal.specs.{declared.Refusal.{Refusal}, declared.Refusal.TheVariants.{ToolContents}}
use Rattle.refusal.specs.Refusal.{First}
use Rattle.refusal.specs.RefusalAnswers.{or_else, plain_unless}
use Rattle.values.specs.declared.ValueKind.{ValueKind}
use Rattle.values.specs.declared.ValueKind.TheVariants.{Numbered, Register}
use Rattle.values.specs.Setup.{SetupValue, setup_of_kind, setup_meet, setup_top}
use Rattle.values.specs.SetupInOrder.{KindInLimits}
use Rattle.values.specs.SetupTests.{setup_refusal, events_test}
use Rattle.values.proofs.Setups.{setup_accepted, square_small}
use Rattle.formulas.specs.RuleRefusal.{formula_of}
use Rattle.synthesis.proofs.{LentTable.{laws}, StatePlaces.{getD_zeros}}
use Rattle.channel_log.specs.Calls.{Call, load, event, restart, restart_all, clear, all_empty, Loaded, concerns}
use Rattle.channel_log.specs.{CallSteps.{call_refusal}, Distance.{Occurrence}, Log.{rows_refusal}, Rows.{sum_below, all_rows}}
use Rattle.channel_log.proofs.Record.{record_claim, own_calls_claim, other_rows_claim}
use Rattle.recorder.specs.Store.{Store, ToolSetup, tool_setup, tool_setup_conditions, meet_part, tool_setup_of, channels, rows}
use Rattle.recorder_claims.specs.Claims.{LooksAt, table_states, ToolRecordClaim, ToolOwnCallsClaim, ToolOtherRowsClaim, BlankClaim, ToolTestClaim, ReplayClaim}
use Rattle.recorder.specs.Store.{ToolFault, setup_fails, channel_fails}
use Rattle.recorder.specs.ToolTests.{passed, tool_setup_refusal, setup_test, channel_test, test_of, named_test, tool_test}
use Rattle.recorder.specs.{CompiledRule.{rule_judged, states_of_rule, loaded_rule}, Splicing.{row_count}}
use Rattle.recorder.specs.{Called.{content, called, filled, empty_store, meet_cells, new_store, blank}}
use Rattle.recorder.proofs.Rows.{take_filled}
use Rattle.recorder.proofs.Held.{held_above, held_empty, accepted_of_test, values_accepted, in_order_of_test, test_of_in_order}
use Rattle.recorder.proofs.{Decided.{table_of, state_of, total_of, refused_call}, Replays.{word_readings, length_readings, accepted_of, repeated}}
use Rattle.recorder_claims.proofs.{SetUps.{tool_setup_judged}, LoadedRules.{rule_well_formed, rule_table_is, judged_not_17}, Keeps.{Sound, keeps}}

-- A meet table as it is kept and read.
kept_meet : (kind : ValueKind) (meet : List ℕ) → KindInLimits kind meet → meet_part kind (meet_cells kind meet) ≡ meet
kept_meet (Numbered n) meet w =
    ap (λ k. take k (filled meet_limit meet)) (sym w.whole)
    ∙ take_filled meet_limit meet (omega (arith, w.whole, square_small {values = n} w.few_values))
kept_meet (Register lines) meet w = refl

module _ (s : ToolSetup) (ok : tool_setup_refusal s ≡ none) where
  values_ok : setup_refusal s.values ≡ none
  values_ok = values_accepted s ok

  store_setup : tool_setup_of (new_store s) ≡ s
  unfolding new_store empty_store
  store_setup =
      ap (λ m. tool_setup (setup_of_kind s.values.events s.values.kind s.values.top m) s.wheel)
      (kept_meet s.values.kind s.values.meet ((setup_accepted s.values).0 values_ok).of_kind)

  nothing_loaded : channels (new_store s) ≡ all_empty
  unfolding new_store empty_store
  nothing_loaded = fun_ext λ d. held_empty d _ s.values.events _ _ _ _ _ (getD_zeros channel_limit d)

  no_rows : row_count (replicate channel_limit 0) ≤ row_limit
  unfolding sum_below
  no_rows = omega arith

  pub sound : Sound s (new_store s)
  unfolding new_store empty_store
  sound =
      record {
        setup_is = store_setup;
        accepted = ok;
        states_length = length-replicate {A = ℕ} channel_limit 0;
        current_length = length-replicate {A = ℕ} channel_limit 0;
        total_length = length-replicate {A = ℕ} channel_limit 0;
        value_length = length-replicate {A = ℕ} store_limit 0;
        next_length = length-replicate {A = ℕ} store_limit 0;
        in_order = λ d. ap (λ N. channel_test s.values.events s.values.kind (N d)) nothing_loaded;
        rows_fit = no_rows;
      }

-- The log counts the rows of an accepted rule's table.
counts_rows : (s : ToolSetup) (r : List ℕ) → table_states s (formula_of s.values.kind r) ≡ (loaded_rule s.values r).states
unfolding states_of_rule
counts_rows s r = refl

-- Demand 3, and the independence of channels.
pub tool_record : ToolRecordClaim
tool_record s ok =
    let v = s.values in
    let fine = values_ok s ok in
    record_claim (SetupValue v) (setup_meet v) (setup_top v) (laws v fine) v.events s.wheel (rule_judged v) (formula_of v.kind) (table_states s)
    (loaded_rule v) (λ r h. rule_well_formed v r fine h) (λ r h. rule_table_is v r fine h) (λ r h. counts_rows s r) (λ r. judged_not_17 v r fine)
    called channels (Sound s) (keeps s) (new_store s) (sound s ok) (nothing_loaded s ok)

pub tool_own_calls : ToolOwnCallsClaim
tool_own_calls s ok =
    let v = s.values in
    let fine = values_ok s ok in
    own_calls_claim (SetupValue v) (setup_meet v) (setup_top v) (laws v fine) v.events s.wheel (rule_judged v) (formula_of v.kind) (table_states s)
    (loaded_rule v) (λ r h. rule_well_formed v r fine h) (λ r h. rule_table_is v r fine h) (λ r h. counts_rows s r) (λ r. judged_not_17 v r fine)
    called channels (Sound s) (keeps s) (new_store s) (sound s ok) (nothing_loaded s ok)

pub tool_other_rows : ToolOtherRowsClaim
tool_other_rows s ok =
    let v = s.values in
    let fine = values_ok s ok in
    other_rows_claim (SetupValue v) (setup_meet v) (setup_top v) (laws v fine) v.events s.wheel (rule_judged v) (formula_of v.kind) (table_states s)
    (loaded_rule v) (λ r h. rule_well_formed v r fine h) (λ r h. rule_table_is v r fine h) (λ r h. counts_rows s r) (λ r. judged_not_17 v r fine)
    called channels (Sound s) (keeps s) (new_store s) (sound s ok) (nothing_loaded s ok)

blank_test : (kind : ValueKind) → setup_test (tool_setup_of (blank kind)) ≡ false
unfolding blank empty_store setup_test tool_setup_refusal setup_refusal events_test or_else plain_unless
blank_test (Numbered n) = refl
blank_test (Register lines) = refl

pub blank_refused : BlankClaim
unfolding or_else plain_unless
blank_refused kind x =
    refused_call (blank kind) x ToolContents
    (ap
    (λ b.
    or_else (or_else (plain_unless b ToolContents) (rows_refusal (all_rows (rows (blank kind))))) (call_refusal (content (blank kind)) (channels
    (blank kind)) x))
    (and_failed (named_test (blank kind) x) (blank_test kind)))

-- The test of a set-up fails where it meets 1 to 3 or 18, and only there.
refusal_of_test : (s : ToolSetup) → setup_test s ≡ false → (refusal : Refusal) × First (tool_setup_conditions s) (some refusal)
unfolding setup_test
refusal_of_test s h = go (tool_setup_refusal s) refl
  where
    go : (o : Option Refusal) → tool_setup_refusal s ≡ o → (refusal : Refusal) × First (tool_setup_conditions s) (some refusal)
    go none e = absurd (false≢true (sym h ∙ ap passed e))
    go (some refusal) e = (refusal, subst (First (tool_setup_conditions s)) e (tool_setup_judged s).first)

no_refusal : (s : ToolSetup) → setup_test s ≡ true → (refusal : Refusal) → First (tool_setup_conditions s) (some refusal) → ⊥
no_refusal s h refusal f = some-ne-none refusal ((tool_setup_judged s).only (some refusal) f ∙ accepted_of_test s h)

-- The tests of 17 decide the printed condition.
module _ (t : Store) where
  all_pass : every channel_limit (test_of t) ≡ true → (c : ℕ) → test_of t c ≡ true
  all_pass h c = go (ltb c channel_limit) refl
    where
      go : (i : Bool) → ltb c channel_limit ≡ i → test_of t c ≡ true
      go true p = every_at channel_limit (test_of t) h c (ltb-true c channel_limit p)
      go false p =
          ap (channel_test t.setup.events t.setup.kind) (held_above c _ t.setup.events _ _ _ t.value t.next (ltb-false c channel_limit p))

  named_at : (c d : ℕ) → T (eqb d c) → c ≡ d
  named_at c d h = sym (eqb→eq d c h)

  looked : (call : Call Occurrence) (c : ℕ) → T (concerns c call) → LooksAt call c
  looked (load d r) c h = named_at c d h
  looked (event d i) c h = named_at c d h
  looked (restart d) c h = named_at c d h
  looked restart_all c h = tt
  looked (clear d) c h = named_at c d h

  named_back : (c d : ℕ) → c ≡ d → T (eqb d c)
  named_back c d e = subst⁻¹ (λ k. T (eqb d k)) e (eqb_refl d)

  looked_back : (call : Call Occurrence) (c : ℕ) → LooksAt call c → T (concerns c call)
  looked_back (load d r) c e = named_back c d e
  looked_back (event d i) c e = named_back c d e
  looked_back (restart d) c e = named_back c d e
  looked_back restart_all c e = tt
  looked_back (clear d) c e = named_back c d e

  looked_passes : (call : Call Occurrence) → named_test t call ≡ true → (c : ℕ) → LooksAt call c → test_of t c ≡ true
  looked_passes (load d r) h c e = subst⁻¹ (λ c. test_of t c ≡ true) e h
  looked_passes (event d i) h c e = subst⁻¹ (λ c. test_of t c ≡ true) e h
  looked_passes (restart d) h c e = subst⁻¹ (λ c. test_of t c ≡ true) e h
  looked_passes restart_all h c e = all_pass h c
  looked_passes (clear d) h c e = subst⁻¹ (λ c. test_of t c ≡ true) e h

  looked_fails : (call : Call Occurrence) → named_test t call ≡ false → (c : ℕ) × LooksAt call c × (test_of t c ≡ false)
  looked_fails (load d r) h = (d, refl, h)
  looked_fails (event d i) h = (d, refl, h)
  looked_fails (restart d) h = (d, refl, h)
  looked_fails restart_all h = let f = every_some channel_limit (test_of t) h in (f.0, tt, f.2)
  looked_fails (clear d) h = (d, refl, h)

  pub fault_of : (call : Call Occurrence) → tool_test t call ≡ false → ToolFault t call
  fault_of call h =
      ⊎_elim (λ f. let r = refusal_of_test (tool_setup_of t) f in setup_fails r.0 r.1)
      (λ f. let x = looked_fails call f in go x.0 x.1 (channels t x.0) refl x.2)
      (and_cases (setup_test (tool_setup_of t)) (named_test t call) h)
    where
      go : (c : ℕ) → LooksAt call c → (o : Option (Loaded ℕ)) → channels t c ≡ o → channel_test t.setup.events t.setup.kind o ≡ false → ToolFault t call
      go c l none e f = absurd (false≢true (sym f))
      go c l (some x) e f =
          channel_fails c x (looked_back call c l) e
          (λ g. absurd (false≢true (sym f ∙ test_of_in_order t.setup.events t.setup.kind x g)))

  no_fault : (call : Call Occurrence) → tool_test t call ≡ true → ToolFault t call → ⊥
  no_fault call h (setup_fails refusal f) =
      no_refusal (tool_setup_of t) (and_left (setup_test (tool_setup_of t)) (named_test t call) h) refusal f
  no_fault call h (channel_fails c x l e f) =
      f
      (in_order_of_test t.setup.events t.setup.kind x
      (subst (λ o. channel_test t.setup.events t.setup.kind o ≡ true) e
      (looked_passes call (and_right (setup_test (tool_setup_of t)) (named_test t call) h) c (looked call c l))))

pub tool_tested : ToolTestClaim
tool_tested t call = (no_fault t call, λ f. go (tool_test t call) refl f)
  where
    go : (b : Bool) → tool_test t call ≡ b → ¬ ToolFault t call → tool_test t call ≡ true
    go true e f = e
    go false e f = absurd (f (fault_of t call e))

-- No event call of an accepted sequence is refused: each returns its value.
pub replay_repeated : ReplayClaim
replay_repeated t l k c word buffer h =
    let a = accepted_of t c word buffer h in (
      word_readings t.wheel (table_of t c) (state_of t c) (total_of t c) word,
      (repeated word t c a.ready l k a.word_in a.small).0,
      length_readings t.wheel (table_of t c) (state_of t c) (total_of t c) word,
    )
