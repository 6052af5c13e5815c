-- Document 01's log by its own sentences is the computed log: the tool's replies are its replies, and its only ones.
use mathlib.Core.{Path.{◌≡◌, refl, sym, ◌∙◌, ap, ap₂, subst, subst⁻¹}, Bool.{Bool, true, false, cond}, List.{List, [], ◌∷◌, ◌++◌}}
use mathlib.Core.Option.{Option, none, some, some-ne-none}
use Prim.Native.Nat.{ℕ, ◌+◌, ◌<◌}
use lib.Dec.{eqb}
use Rattle.limits.specs.Limits.{channel_limit}
use Rattle.theory.specs.{Formula.{Formula}, FormulaClasses.{WellFormed}, MealyMachine.{Machine}, ReachableStates.{IsTableOf}}
use Rattle.theory.proofs.Claims.{answers}
use Rattle.refusal.specs.{declared.Refusal.{Refusal}, declared.Refusal.TheVariants.{ChannelNumber}}
use Rattle.refusal.specs.Refusal.{First}
use Rattle.refusal.proofs.Refusals.{first_unique, or_else_none}
use Rattle.values.specs.{Setup.{Setup, SetupValue, setup_meet, setup_top}, SetupTests.{setup_refusal}}
use Rattle.formulas.specs.RuleRefusal.{formula_of}
use Rattle.formulas.proofs.RuleClaims.{formula_of_only}
use Rattle.synthesis.proofs.CompileClaims.{one_count}
use Rattle.channel_log.specs.Calls.{Call, load, event, restart, restart_all, clear, Reply, accepted, returned, refused, Channels, all_empty, with_channel}
use Rattle.channel_log.specs.Calls.{map_option, History, replies, final}
use Rattle.channel_log.specs.CallSteps.{Content, channel_refusal, empty_refusal, on_event, call_refusal, event_reply, accepted_reply, effect, settled, step}
use Rattle.channel_log.proofs.Simulation.{second_none}
use Rattle.channel_log.specs.{Distance.{Occurrence, Reading, reading}, Rows.{rows_in, all_rows, other_rows}}
use Rattle.recorder.specs.{Store.{Store, ToolSetup}, ToolTests.{tool_setup_refusal}, Called.{called, new_store}}
use Rattle.recorder.specs.CompiledRule.{rule_judged, states_of_rule, table_of_rule}
use Rattle.recorder.proofs.{Held.{values_accepted}, RowTotals.{sum_same}}
use Rattle.recorder_claims.specs.ChannelLog.{history, begun, RowsOf, OthersHave, log_conditions, Takes, refuses, loads, returns, restarts, restarts_all, clears}
use Rattle.recorder_claims.specs.{ChannelLog.{Logs, no_calls, one_more}, Claims.{table_states, setup_log, PrintedRecordClaim}}
use Rattle.recorder_claims.proofs.{LoadedRules.{accepted_code, rule_well_formed, is_table_of}, Keeps.{Sound, keeps}, Claims.{sound, tool_record}}
use Rattle.recorder_claims.proofs.CallRefusals.{number_first, empty_first, on_event_first, no_conditions, after_14, load_first}

-- The rows of the others go by the rows of each channel.
same_others : (c : ℕ) (f g : Channels ℕ) → ((d : ℕ) → d < channel_limit → f d ≡ g d) → other_rows c f ≡ other_rows c g
unfolding other_rows all_rows
same_others c f g h =
    sum_same channel_limit (λ d. rows_in (with_channel c none f d)) (λ d. rows_in (with_channel c none g d))
    (λ d l. ap (λ n. rows_in (cond (eqb d c) none n)) (h d l))

module _ (s : ToolSetup) (ok : tool_setup_refusal s ≡ none) where
  abbrev K : Content (History ℕ) Occurrence (Reading ℕ)
  K = setup_log s

  -- Its value set.
  abbrev v : Setup
  v = s.values

  fine : setup_refusal v ≡ none
  fine = values_accepted s ok

  -- A channel's total in the log.
  abbrev logged_total : History ℕ → ℕ
  logged_total h = h.total

  -- Every rule in the log is well-formed, and its rows are counted.
  pub record GoodRule (φ : Formula ℕ) : Type 0 where
    pub well : WellFormed v.events (SetupValue v) φ
    pub table : Machine ℕ ℕ
    pub is_table : IsTableOf (setup_meet v) (setup_top v) v.events φ (table_states s φ) table

  abbrev Good : Option (History ℕ) → Type 0
  Good none = Unit {0}
  Good (some h) = GoodRule h.rule

  abbrev AllGood : Channels (History ℕ) → Type 0
  AllGood L = (d : ℕ) → Good (L d)

  good_with : (c : ℕ) (x : Option (History ℕ)) (L : Channels (History ℕ)) → Good x → AllGood L → AllGood (with_channel c x L)
  good_with c x L g a d = go (eqb d c)
    where
      go : (t : Bool) → Good (cond t x (L d))
      go true = g
      go false = a d

  good_moved : (o : Option (History ℕ)) (i : Occurrence) → Good o → Good (map_option (λ h. K.moved h i) o)
  good_moved none i g = tt
  good_moved (some h) i g = g

  good_restarted : (o : Option (History ℕ)) → Good o → Good (map_option K.restarted o)
  good_restarted none g = tt
  good_restarted (some h) g = g

  accepted_load : (L : Channels (History ℕ)) (c : ℕ) (r : List ℕ) → call_refusal K L (load c r) ≡ none → rule_judged v r ≡ none
  accepted_load L c r e = (or_else_none (rule_judged v r) _ (second_none (channel_refusal c) (K.load_refusal L c r) e)).0

  good_loaded : (r : List ℕ) → rule_judged v r ≡ none → GoodRule (formula_of v.kind r)
  unfolding states_of_rule
  good_loaded r e = record { well = rule_well_formed v r fine e; table = table_of_rule v r; is_table = is_table_of v r fine e }

  -- The rows of channels, and that the log has no others.
  abbrev rows_logged : Channels (History ℕ) → Channels ℕ
  rows_logged L d = map_option (λ h. table_states s h.rule) (L d)

  rows_there : (o : Option (History ℕ)) → Good o → RowsOf v o (map_option (λ h. table_states s h.rule) o)
  rows_there none g = tt
  rows_there (some h) g = (g.table, g.is_table)

  rows_only : (o : Option (History ℕ)) (n : Option ℕ) → Good o → RowsOf v o n → n ≡ map_option (λ h. table_states s h.rule) o
  rows_only none none g r = refl
  rows_only none (some n) g r = absurd r
  rows_only (some h) none g r = absurd r
  rows_only (some h) (some n) g r =
      ap some
      (one_count (SetupValue v) (setup_meet v) (setup_top v) v.events h.rule g.well n (table_states s h.rule) r.0 g.table r.1
      g.is_table)

  others_only : (L : Channels (History ℕ)) (c n : ℕ) → AllGood L → OthersHave s L c n → n ≡ other_rows c (rows_logged L)
  others_only L c n a (rows, each, e) = sym e ∙ same_others c rows (rows_logged L) (λ d l. rows_only (L d) (rows d) (a d) (each d l))

  good_effect : (L : Channels (History ℕ)) (call : Call Occurrence) → call_refusal K L call ≡ none → AllGood L → AllGood (effect K L call)
  good_effect L (load c r) e a =
      good_with c (some (K.loaded r)) L (good_loaded r (accepted_load L c r e)) a
  good_effect L (event c i) e a = good_with c (map_option (λ h. K.moved h i) (L c)) L (good_moved (L c) i (a c)) a
  good_effect L (restart c) e a = good_with c (map_option K.restarted (L c)) L (good_restarted (L c) (a c)) a
  good_effect L restart_all e a = λ d. good_restarted (L d) (a d)
  good_effect L (clear c) e a = good_with c none L tt a

  good_step : (L : Channels (History ℕ)) (call : Call Occurrence) → AllGood L → AllGood (step K call L).1
  good_step L call a = go (call_refusal K L call) refl
    where
      go : (o : Option Refusal) → call_refusal K L call ≡ o → AllGood (settled K o (accepted_reply K L call) (effect K L call) L).1
      go none e = good_effect L call e a
      go (some r) e = a

  -- The list of refusals gives the computed refusal.
  log_first : (L : Channels (History ℕ)) (call : Call Occurrence) → AllGood L → First (log_conditions s L call) (call_refusal K L call)
  unfolding states_of_rule
  log_first L (load c r) a =
      load_first v fine r (OthersHave s L c) (other_rows c (rows_logged L)) (rows_logged L, λ d l. rows_there (L d) (a d), refl)
      (λ n h. others_only L c n a h) c
  log_first L (event c i) a = after_14 c _ (on_event K (L c) i) (on_event_first logged_total K v.events (λ h i. refl) (L c) i)
  log_first L (restart c) a = after_14 c _ (empty_refusal (L c)) (empty_first logged_total (L c))
  log_first L restart_all a = no_conditions
  log_first L (clear c) a = number_first ChannelNumber c channel_limit

  -- What the computed log replies and has after a call with a refusal or none.
  abbrev reply_by : Channels (History ℕ) → Call Occurrence → Option Refusal → Reply (Reading ℕ)
  reply_by L call o = (settled K o (accepted_reply K L call) (effect K L call) L).0

  abbrev log_by : Channels (History ℕ) → Call Occurrence → Option Refusal → Channels (History ℕ)
  log_by L call o = (settled K o (accepted_reply K L call) (effect K L call) L).1

  -- The log takes each call as computed.
  take_event :
      (L : Channels (History ℕ)) (c : ℕ) (i : Occurrence) (o : Option (History ℕ)) → L c ≡ o → First (log_conditions s L (event c i)) none →
      on_event K o i ≡ none → Good o →
      Takes s L (event c i) (event_reply K o i) (with_channel c (map_option (λ h. K.moved h i) o) L)
  take_event L c i none p f n g = absurd (some-ne-none _ n)
  take_event L c i (some h) p f n g =
      returns c i h _ f p ((answers (SetupValue v) (setup_meet v) (setup_top v) v.events h.rule g.well h.events i.event _).1 refl)

  take_restart :
      (L : Channels (History ℕ)) (c : ℕ) (o : Option (History ℕ)) → L c ≡ o → First (log_conditions s L (restart c)) none →
      empty_refusal o ≡ none → Takes s L (restart c) accepted (with_channel c (map_option K.restarted o) L)
  take_restart L c none p f n = absurd (some-ne-none _ n)
  take_restart L c (some h) p f n = restarts c h f p

  take_accepted :
      (L : Channels (History ℕ)) (call : Call Occurrence) → AllGood L → call_refusal K L call ≡ none → First (log_conditions s L call) none →
      Takes s L call (accepted_reply K L call) (effect K L call)
  take_accepted L (load c r) a e f =
      loads c r (formula_of v.kind r) f (accepted_code v r (accepted_load L c r e))
  take_accepted L (event c i) a e f = take_event L c i (L c) refl f (second_none (channel_refusal c) (on_event K (L c) i) e) (a c)
  take_accepted L (restart c) a e f = take_restart L c (L c) refl f (second_none (channel_refusal c) (empty_refusal (L c)) e)
  take_accepted L restart_all a e f = restarts_all
  take_accepted L (clear c) a e f = clears c f

  take_step : (L : Channels (History ℕ)) (call : Call Occurrence) → AllGood L → Takes s L call (step K call L).0 (step K call L).1
  take_step L call a = go (call_refusal K L call) refl (log_first L call a)
    where
      go : (o : Option Refusal) → call_refusal K L call ≡ o → First (log_conditions s L call) o → Takes s L call (reply_by L call o) (log_by L call o)
      go none e f = take_accepted L call a e f
      go (some r) e f = refuses call r f

  -- And in no other way.
  abbrev Computed : Channels (History ℕ) → Call Occurrence → Reply (Reading ℕ) → Channels (History ℕ) → Option Refusal → Type 0
  Computed L call reply M o = (reply ≡ reply_by L call o) × (M ≡ log_by L call o)

  by_refusal :
      (L : Channels (History ℕ)) (call : Call Occurrence) (reply : Reply (Reading ℕ)) (M : Channels (History ℕ)) (o : Option Refusal) → AllGood L →
      First (log_conditions s L call) o → Computed L call reply M o → Computed L call reply M (call_refusal K L call)
  by_refusal L call reply M o a f h =
      subst (Computed L call reply M) (first_unique (log_conditions s L call) o (call_refusal K L call) f (log_first L call a)) h

  only_step :
      (L : Channels (History ℕ)) (call : Call Occurrence) (reply : Reply (Reading ℕ)) (M : Channels (History ℕ)) → AllGood L → Takes s L call reply M →
      (reply ≡ (step K call L).0) × (M ≡ (step K call L).1)
  only_step L call reply M a (refuses x r f) = by_refusal L x (refused r) L (some r) a f (refl, refl)
  only_step L call reply M a (loads c r φ f e) =
      by_refusal L (load c r) accepted (with_channel c (some (begun φ)) L) none a f
      (refl, ap (λ φ. with_channel c (some (begun φ)) L) (formula_of_only v.kind r φ e))
  only_step L call reply M a (returns c i h b f p x) =
      let total = h.total + i.pulses in
      let h' = history h.rule (h.events ++ (i.event ∷ [])) total in
      by_refusal L (event c i) (returned (reading s.wheel b total)) (with_channel c (some h') L) none a f
      (subst⁻¹
      (λ o.
      (returned (reading s.wheel b total) ≡ event_reply K o i)
      × (with_channel c (some h') L ≡ with_channel c (map_option (λ h. K.moved h i) o) L))
      p (
        ap (λ b. returned (reading s.wheel b total))
            ((answers (SetupValue v) (setup_meet v) (setup_top v) v.events h.rule (subst Good p (a c)).well h.events i.event b).0 x),
        refl,
      ))
  only_step L call reply M a (restarts c h f p) =
      by_refusal L (restart c) accepted (with_channel c (some (begun h.rule)) L) none a f
      (refl, ap (λ o. with_channel c (map_option K.restarted o) L) (sym p))
  only_step L call reply M a restarts_all = (refl, refl)
  only_step L call reply M a (clears c f) = by_refusal L (clear c) accepted (with_channel c none L) none a f (refl, refl)

  -- The same for a list of calls.
  take_all :
      (calls : List (Call Occurrence)) (L : Channels (History ℕ)) → AllGood L → Logs s L calls (replies (step K) calls L) (final (step K) calls L)
  take_all [] L a = no_calls
  take_all (x ∷ xs) L a = one_more (take_step L x a) (take_all xs (step K x L).1 (good_step L x a))

  only_all :
      (L : Channels (History ℕ)) (calls : List (Call Occurrence)) (rs : List (Reply (Reading ℕ))) (N : Channels (History ℕ)) → AllGood L → Logs s L calls rs N →
      (rs ≡ replies (step K) calls L) × (N ≡ final (step K) calls L)
  only_all L calls rs N a no_calls = (refl, refl)
  only_all L calls rs N a (one_more {M = M} {call = x} {calls = xs} {reply = y} {rs = ys} t l) =
      let o = only_step L x y M a t in
      let r = only_all M xs ys N (subst⁻¹ AllGood o.1 (good_step L x a)) l in
      (ap₂ ◌∷◌ o.0 (r.0 ∙ ap (replies (step K) xs) o.1), r.1 ∙ ap (final (step K) xs) o.1)

-- A list of calls keeps a tool sound.
pub sound_after : (s : ToolSetup) (calls : List (Call Occurrence)) (t : Store) → Sound s t → Sound s (final called calls t)
sound_after s [] t g = g
sound_after s (x ∷ xs) t g = sound_after s xs (called x t).1 (keeps s x t g).1

pub printed_record : PrintedRecordClaim
printed_record s ok calls =
    let r = tool_record s ok calls in
    let N = final (step (setup_log s)) calls all_empty in
    record {
      log = N;
      logged = subst⁻¹ (λ rs. Logs s all_empty calls rs N) r.same_replies (take_all s ok calls all_empty (λ d. tt));
      only = λ rs M l.
          let o = only_all s ok all_empty calls rs M (λ d. tt) l in
          (o.0 ∙ sym r.same_replies, λ c. ap (λ N. N c) o.1);
      same_set_up = (sound_after s calls (new_store s) (sound s ok)).setup_is;
      stands = r.stands;
    }
