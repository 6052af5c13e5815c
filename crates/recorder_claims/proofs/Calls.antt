-- Each public entry on tools by what it replies and hands back: judged by its conditions, and a tool's record from the set-up on.
use mathlib.Core.{Path.{◌≡◌, refl, sym, ◌∙◌, ap, subst⁻¹}, Bool.{true}, List.{List, [], ◌∷◌, map}, Option.{Option, none, some}}
use Prim.Native.Nat.{ℕ, ◌≤◌}
use lib.ListN.{length}
use Rattle.refusal.specs.{declared.Refusal.{Refusal}, declared.Refusal.TheVariants.{ToolContents}}
use Rattle.refusal.specs.Refusal.{Judged, JudgedCall, put}
use Rattle.refusal.specs.RefusalAnswers.{plain_unless, put_unless}
use Rattle.refusal.proofs.Refusals.{or_else_none, plain_none}
use Rattle.theory.proofs.ValueSets.{and_left}
use Rattle.limits.specs.Limits.{row_limit}
use Rattle.channel_log.specs.Distance.{Occurrence, Reading}
use Rattle.channel_log.specs.Calls.{Call, load, event, restart, restart_all, clear, returned, refused, reply_refusal, Channels, replies, final}
use Rattle.channel_log.specs.Calls.{event_calls, last_returned, accepted_on, replies_on}
use Rattle.channel_log.specs.{CallSteps.{Content, call_refusal, event_reply, accepted_reply}, Log.{rows_refusal}, Rows.{all_rows, other_rows}}
use Rattle.recorder.specs.Store.{Store, AllCells, ToolSetup, tool_setup_conditions, tool_setup_of, channels, rows, call_conditions, replay_conditions}
use Rattle.recorder.specs.{ToolTests.{tool_setup_refusal, setup_test, named_test, tool_test}, Splicing.{row_count}}
use Rattle.recorder.specs.Called.{content, fault_refusal, tool_refusal, effect_on, settled_store, called, new_store, set_up_answer, set_up_called}
use Rattle.recorder.specs.Replay.{all_returned, replay_refusal, replay_settled, replayed}
use Rattle.recorder.proofs.{Decided.{refused_call, accepted_call, rows_fitting}, Replays.{returned_back}}
use Rattle.recorder_claims.specs.ChannelLog.{AsLogged}
use Rattle.recorder_claims.proofs.Claims.{sound, tool_own_calls, tool_other_rows, blank_refused, replay_repeated}
use Rattle.recorder_claims.proofs.CallRefusals.{call_refusals, replay_refusals}
use Rattle.recorder_claims.proofs.{SetUps.{tool_setup_judged}, Keeps.{Sound}, PrintedLog.{sound_after, printed_record}}

-- What an accepted call replies is no refusal.
event_accepted : {X : Type 0} (K : Content X Occurrence (Reading ℕ)) (o : Option X) (i : Occurrence) → reply_refusal (event_reply K o i) ≡ none
event_accepted K none i = refl
event_accepted K (some x) i = refl

call_accepted : {X : Type 0} (K : Content X Occurrence (Reading ℕ)) (L : Channels X) (call : Call Occurrence) → reply_refusal (accepted_reply K L call) ≡ none
call_accepted K L (load c r) = refl
call_accepted K L (event c i) = event_accepted K (L c) i
call_accepted K L (restart c) = refl
call_accepted K L restart_all = refl
call_accepted K L (clear c) = refl

pub call_refused : (t : Store) (call : Call Occurrence) → reply_refusal (called call t).0 ≡ tool_refusal t call
unfolding called
call_refused t call = go (tool_refusal t call)
  where
    go : (o : Option Refusal) → reply_refusal (settled_store o (accepted_reply (content t) (channels t) call) (effect_on t call) t).0 ≡ o
    go none = call_accepted (content t) (channels t) call
    go (some r) = refl

-- What an accepted call on any tool has: a set-up in order, rows that fit, none of the refusals behind 17 and 25, and what it
-- comes to.
pub record Went (t : Store) (call : Call Occurrence) : Type 0 where
  pub set_up_passes : setup_test (tool_setup_of t) ≡ true
  pub fits : row_count t.states ≤ row_limit
  pub unrefused : call_refusal (content t) (channels t) call ≡ none
  pub outcome : called call t ≡ (accepted_reply (content t) (channels t) call, effect_on t call)

pub went_of : (t : Store) (call : Call Occurrence) → reply_refusal (called call t).0 ≡ none → Went t call
went_of t call e =
    let none_met : tool_refusal t call ≡ none = sym (call_refused t call) ∙ e in
    let seventeen = plain_unless (tool_test t call) ToolContents in
    let over = rows_refusal (all_rows (rows t)) in
    let a = or_else_none (fault_refusal t call) (call_refusal (content t) (channels t) call) none_met in
    let b = or_else_none seventeen over a.0 in
    record {
      set_up_passes = and_left (setup_test (tool_setup_of t)) (named_test t call) (plain_none (tool_test t call) ToolContents b.0);
      fits = rows_fitting t b.1;
      unrefused = a.1;
      outcome = accepted_call t call none_met;
    }

-- Every call is judged, and beside a refusal the tool is as before.
pub calls_judged : (t : Store) (call : Call Occurrence) → JudgedCall (call_conditions t call) (reply_refusal (called call t).0) t (called call t).1
calls_judged t call =
    record {
      judged = subst⁻¹ (Judged (call_conditions t call)) (call_refused t call) (call_refusals t call);
      kept = λ r e. ap (λ a. a.1) (refused_call t call r (sym (call_refused t call) ∙ e));
    }

-- So is a sequence of events.
last_accepted : (rs : List (Reading ℕ)) → reply_refusal (last_returned rs) ≡ none
last_accepted [] = refl
last_accepted (r ∷ []) = refl
last_accepted (r ∷ (x ∷ rs)) = last_accepted (x ∷ rs)

module _ (t : Store) (c : ℕ) (word : List Occurrence) (old : List ℕ) where
  replay_refused : reply_refusal (replayed t c word old).0.0 ≡ replay_refusal t c word old
  unfolding replayed
  replay_refused = go (replay_refusal t c word old)
    where
      go : (o : Option Refusal) → reply_refusal (replay_settled t c word old o).0.0 ≡ o
      go none = last_accepted (all_returned (replies called (event_calls c word) t))
      go (some r) = refl

  pub replay_judged :
      JudgedCall {M = Store × List ℕ} (replay_conditions t c word old) (reply_refusal (replayed t c word old).0.0) (t, old)
      ((replayed t c word old).0.1, (replayed t c word old).1)
  unfolding replayed put_unless
  replay_judged =
      record {
        judged = subst⁻¹ (Judged (replay_conditions t c word old)) replay_refused (replay_refusals t c word old);
        kept = λ r e. ap (λ o. ((replay_settled t c word old o).0.1, (replay_settled t c word old o).1)) (sym replay_refused ∙ e);
      }

-- An accepted one is its event calls: each returns a value and a distance, the last is the reply, and the values are put into the buffer.
pub replay_events :
    (t : Store) → AllCells t → (c : ℕ) (word : List Occurrence) (old : List ℕ) → reply_refusal (replayed t c word old).0.0 ≡ none →
    (readings : List (Reading ℕ)) × (replies called (event_calls c word) t ≡ map returned readings) × (length readings ≡ length word)
    × ((replayed t c word old).0 ≡ (last_returned readings, final called (event_calls c word) t))
    × ((replayed t c word old).1 ≡ put (map (λ r. r.value) readings) old)
unfolding replayed put_unless
replay_events t cells c word old e =
    let fine : replay_refusal t c word old ≡ none = sym (replay_refused t c word old) ∙ e in
    let r = replay_repeated t cells.current_are cells.totals_are c word old fine in (
      r.0,
      r.1,
      r.2,
      ap (λ o. (replay_settled t c word old o).0) fine
          ∙ ap (λ rs. (last_returned rs, final called (event_calls c word) t)) (ap all_returned r.1 ∙ returned_back r.0),
      ap (λ o. (replay_settled t c word old o).1) fine
          ∙ ap (λ rs. put (map (λ r. r.value) rs) old) (ap all_returned r.1 ∙ returned_back r.0),
    )

-- A set-up.
module _ (s : ToolSetup) where
  set_up_refused : reply_refusal (set_up_called s).0 ≡ tool_setup_refusal s
  set_up_refused = go (tool_setup_refusal s)
    where
      go : (o : Option Refusal) → reply_refusal (set_up_answer s o).0 ≡ o
      go none = refl
      go (some r) = refl

  pub set_up_judged : Judged (tool_setup_conditions s) (reply_refusal (set_up_called s).0)
  set_up_judged = subst⁻¹ (Judged (tool_setup_conditions s)) set_up_refused (tool_setup_judged s)

  -- Every call on what a refused one hands back is 17.
  pub refused_set_up :
      (r : Refusal) → reply_refusal (set_up_called s).0 ≡ some r → (call : Call Occurrence) →
      called call (set_up_called s).1 ≡ (refused ToolContents, (set_up_called s).1)
  refused_set_up r e call =
      subst⁻¹ (λ o. called call (set_up_answer s o).1 ≡ (refused ToolContents, (set_up_answer s o).1)) (sym set_up_refused ∙ e)
      (blank_refused s.values.kind call)

  module _ (ok : reply_refusal (set_up_called s).0 ≡ none) where
    set_up_fine : tool_setup_refusal s ≡ none
    set_up_fine = sym set_up_refused ∙ ok

    -- What an accepted one hands back is the tool of the set-up.
    new_tool : (set_up_called s).1 ≡ new_store s
    new_tool = ap (λ o. (set_up_answer s o).1) set_up_fine

    -- Every list of calls leaves the tool sound.
    pub tool_sound : (calls : List (Call Occurrence)) → Sound s (final called calls (set_up_called s).1)
    tool_sound calls = subst⁻¹ (λ t. Sound s (final called calls t)) new_tool (sound_after s calls (new_store s) (sound s set_up_fine))

    -- Demand 3 from the set-up on.
    pub record_of_calls :
        (calls : List (Call Occurrence)) →
        AsLogged s calls (replies called calls (set_up_called s).1) (tool_setup_of (final called calls (set_up_called s).1))
        (channels (final called calls (set_up_called s).1))
    record_of_calls calls =
        subst⁻¹ (λ t. AsLogged s calls (replies called calls t) (tool_setup_of (final called calls t)) (channels (final called calls t))) new_tool
        (printed_record s set_up_fine calls)

    -- What was accepted on a channel decides it; a load goes by the rows of the others.
    pub own_calls :
        (c : ℕ) (calls others : List (Call Occurrence)) →
        accepted_on c calls (replies called calls (set_up_called s).1) ≡ accepted_on c others (replies called others (set_up_called s).1) →
        (replies_on c calls (replies called calls (set_up_called s).1) ≡ replies_on c others (replies called others (set_up_called s).1))
        × (channels (final called calls (set_up_called s).1) c ≡ channels (final called others (set_up_called s).1) c)
        × ((i : Occurrence) →
        (called (event c i) (final called calls (set_up_called s).1)).0 ≡ (called (event c i) (final called others (set_up_called s).1)).0)
    own_calls =
        subst⁻¹
        (λ t.
        (c : ℕ) (calls others : List (Call Occurrence)) →
        accepted_on c calls (replies called calls t) ≡ accepted_on c others (replies called others t) →
        (replies_on c calls (replies called calls t) ≡ replies_on c others (replies called others t))
        × (channels (final called calls t) c ≡ channels (final called others t) c)
        × ((i : Occurrence) → (called (event c i) (final called calls t)).0 ≡ (called (event c i) (final called others t)).0))
        new_tool
        (λ c calls others e. let r = tool_own_calls s set_up_fine c calls others e in (r.same_replies, r.same_channel, r.same_events))

    pub other_rows_decide :
        (c : ℕ) (rule : List ℕ) (calls others : List (Call Occurrence)) →
        other_rows c (rows (final called calls (set_up_called s).1)) ≡ other_rows c (rows (final called others (set_up_called s).1)) →
        (called (load c rule) (final called calls (set_up_called s).1)).0 ≡ (called (load c rule) (final called others (set_up_called s).1)).0
    other_rows_decide =
        subst⁻¹
        (λ t.
        (c : ℕ) (rule : List ℕ) (calls others : List (Call Occurrence)) →
        other_rows c (rows (final called calls t)) ≡ other_rows c (rows (final called others t)) →
        (called (load c rule) (final called calls t)).0 ≡ (called (load c rule) (final called others t)).0)
        new_tool (tool_other_rows s set_up_fine)
