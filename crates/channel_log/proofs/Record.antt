-- Demand 3 and independence for any tool whose calls take its channels as `recorded` says, over compiled tables that are the rules'.
use mathlib.Core.{Path.{◌≡◌, refl, sym, ◌∙◌, ap, ap₂, subst, subst⁻¹, fun_ext}, Bool.{Bool, true, false, cond, true≢false}}
use mathlib.Core.{Logic.{⊎_elim}, List.{List, [], ◌∷◌}}
use mathlib.Core.Option.{Option, none, some, some-ne-none}
use Prim.Native.Nat.{ℕ, zero, ◌+◌, ◌≤◌, ◌<◌}
use native.Mathlib.Omega.{arith}
use lib.Dec.{ltb, leb, eqb}
use borrow.Author.Tests.{ltb-true, leb-true, eqb-false}
use Rattle.theory.specs.ValueSets.{MeetSemilattice}
use Rattle.theory.specs.Formula.{Formula}
use Rattle.theory.specs.FormulaClasses.{WellFormed}
use Rattle.theory.specs.MealyMachine.{Word, after}
use Rattle.theory.specs.ReachableStates.{IsTableOf}
use Rattle.theory.proofs.{SemanticsEquality.{only_answer}, WordOrder.{word_append}, ReachableStates.{after_append}, Claims.{table_values}}
use Rattle.refusal.specs.{declared.Refusal.{Refusal}, declared.Refusal.TheVariants.{ChannelNumber, EventNumber, PulseTotal, RowTotal}}
use Rattle.limits.specs.Limits.{channel_limit, total_limit, row_limit}
use Rattle.refusal.specs.Refusal.{Condition, plain, at_lowest, PlacedRefusal, at_place, form_place, fields_place}
use Rattle.refusal.specs.Refusal.{tree_place, unbound_place, unprotected_place, Gives, First, part_of, condition_numbers}
use Rattle.refusal.specs.Refusal.{refusal_number}
use Rattle.refusal.specs.RefusalAnswers.{or_else}
use Rattle.refusal.proofs.Refusals.{or_else_none}
use Rattle.channel_log.specs.Calls.{Call, load, event, restart, restart_all, clear, Reply, accepted, returned, refused, Channels, all_empty}
use Rattle.channel_log.specs.CallSteps.{channel_refusal, Content, empty_refusal, on_event, call_refusal, event_reply, accepted_reply, effect, settled, step}
use Rattle.channel_log.specs.Calls.{replies, final, History, Loaded, map_option, accepted_on, replies_on, StandsAs}
use Rattle.channel_log.specs.Distance.{Wheel, Occurrence, Reading, reading}
use Rattle.channel_log.specs.Log.{large_event, large_total, occurrence_refusal, rows_refusal, load_rows_refusal, value_after, log}
use Rattle.channel_log.specs.Recorded.{recorded}
use Rattle.channel_log.specs.Rows.{other_rows}
use Rattle.channel_log.specs.Claims.{Never, RecordClaim, OwnCallsClaim, OtherRowsClaim}
use Rattle.channel_log.proofs.Simulation.{run_related, Related, AllRelated, Matches, step_related}
use Rattle.channel_log.proofs.Independence.{channel_after, channel_replies, runs_alone, same_event, same_load}

-- A test passed where its refusal is not met.
pub test_passed : (t : Bool) (r : Refusal) → cond t none (some r) ≡ none → t ≡ true
test_passed true r h = refl
test_passed false r h = absurd (some-ne-none r h)

-- 16, and 19.
pub not_large : (events e : ℕ) → large_event events e ≡ none → e < events
not_large events e h = ltb-true e events (test_passed (ltb e events) EventNumber h)

pub total_fits : (total : ℕ) → large_total total ≡ none → total ≤ total_limit
total_fits total h = leb-true total total_limit (test_passed (leb total total_limit) PulseTotal h)

-- An occurrence that 16 and 19 do not refuse has an event below the count.
pub event_fits : (events total : ℕ) (i : Occurrence) → occurrence_refusal events total i ≡ none → i.event < events
event_fits events total i h =
    not_large events i.event (or_else_none (large_event events i.event) (large_total (total + i.pulses)) h).0

-- The refusal, if any, has another refusal-number.
abbrev pub Not : ℕ → Option Refusal → Type 0
Not n none = Unit {0}
Not n (some r) = ¬ (refusal_number r ≡ n)

-- A refusal-number that is not in a list is not the first there, nor in the rest.
absent : (n m : ℕ) (ms : List ℕ) → part_of (n ∷ []) (m ∷ ms) ≡ false → (¬ (m ≡ n)) × (part_of (n ∷ []) ms ≡ false)
unfolding part_of
absent n m ms h = go (eqb n m) refl h
  where
    go : (b : Bool) → eqb n m ≡ b → cond b true (part_of (n ∷ []) ms) ≡ false → (¬ (m ≡ n)) × (part_of (n ∷ []) ms ≡ false)
    go true e h = absurd (true≢false h)
    go false e h = (λ q. eqb-false n m e (sym q), h)

-- A refusal has one number at whatever place.
place_number : (given : PlacedRefusal) (p : ℕ) → refusal_number (at_place given p) ≡ refusal_number (at_place given 0)
place_number form_place p = refl
place_number fields_place p = refl
place_number tree_place p = refl
place_number unbound_place p = refl
place_number unprotected_place p = refl

-- A condition gives refusals of one refusal-number.
given_number :
    (C : Condition) (cs : List Condition) →
    (m : ℕ) × (condition_numbers (C ∷ cs) ≡ m ∷ condition_numbers cs) × ((r : Refusal) → Gives C r → refusal_number r ≡ m)
unfolding condition_numbers
given_number (plain m Met) cs = (refusal_number m, refl, λ r met. ap refusal_number met.1)
given_number (at_lowest m Met) cs = (refusal_number (at_place m 0), refl, λ r met. ap refusal_number met.2 ∙ place_number m met.0)

-- Where no condition of a list has a refusal-number, what the list gives has another.
pub first_not : (n : ℕ) (cs : List Condition) (a : Option Refusal) → part_of (n ∷ []) (condition_numbers cs) ≡ false → First cs a → Not n a
unfolding First
first_not n [] a h e = subst⁻¹ (Not n) e tt
first_not n (C ∷ cs) a h x =
    let g = given_number C cs in
    let p = absent n g.0 (condition_numbers cs) (subst (λ l. part_of (n ∷ []) l ≡ false) g.1 h) in
    ⊎_elim (λ y. subst⁻¹ (Not n) y.2 (λ q. p.0 (sym (g.2 y.0 y.1) ∙ q))) (λ y. first_not n cs a p.1 y.1) x

plain_not_17 : (t : Bool) (given : Refusal) → ¬ (refusal_number given ≡ 17) → Not 17 (cond t none (some given))
plain_not_17 true given h = tt
plain_not_17 false given h = h

first_not_17 : (a b : Option Refusal) → Not 17 a → Not 17 b → Not 17 (or_else a b)
unfolding or_else
first_not_17 none b p q = q
first_not_17 (some r) b p q = p

module _ {B : Type 0} (In : B → Type 0) (meet : B → B → B) (top : B) (laws : MeetSemilattice In meet top) (events : ℕ) (wheel : Wheel)
    (judged : List ℕ → Option Refusal) (formula_of : List ℕ → Formula B) (states_of : Formula B → ℕ) (table_of : List ℕ → Loaded B)
    (good : (r : List ℕ) → judged r ≡ none → WellFormed events In (formula_of r))
    (compiled : (r : List ℕ) → judged r ≡ none → IsTableOf meet top events (formula_of r) (table_of r).states (table_of r).table)
    (counted : (r : List ℕ) → judged r ≡ none → states_of (formula_of r) ≡ (table_of r).states)
    (not_17 : (r : List ℕ) → Not 17 (judged r)) where
  abbrev logged : Content (History B) Occurrence (Reading B)
  logged = log meet top events wheel judged formula_of states_of

  abbrev channel : Content (Loaded B) Occurrence (Reading B)
  channel = recorded events wheel judged table_of

  -- A channel stands as its history says.
  pub record Stands (h : History B) (x : Loaded B) : Type 0 where
    pub rule : WellFormed events In h.rule
    pub word : Word events h.events
    pub table : IsTableOf meet top events h.rule x.states x.table
    pub state : x.current ≡ after x.table zero h.events
    pub total : x.total ≡ h.total
    pub rows : states_of h.rule ≡ x.states

  same_value :
      (h : History B) (x : Loaded B) (e : ℕ) → Stands h x → e < events →
      value_after meet top events wheel judged formula_of states_of h e ≡ x.table.value x.current e
  same_value h x e s l =
      sym (ap (λ q. x.table.value q e) s.state
      ∙ only_answer In meet top events h.rule s.rule h.events e (x.table.value (after x.table zero h.events) e)
      ((table_values In meet top events laws h.rule s.rule x.states x.table s.table).2 h.events s.word e l))

  same_refusal :
      (h : History B) (x : Loaded B) (i : Occurrence) → Stands h x → occurrence_refusal events h.total i ≡ occurrence_refusal events x.total i
  same_refusal h x i s = ap (λ n. occurrence_refusal events n i) (sym s.total)

  same_output :
      (h : History B) (x : Loaded B) (i : Occurrence) → Stands h x → occurrence_refusal events h.total i ≡ none →
      reading wheel (value_after meet top events wheel judged formula_of states_of h i.event) (h.total + i.pulses)
      ≡ reading wheel (x.table.value x.current i.event) (x.total + i.pulses)
  same_output h x i s a =
      ap₂ (reading wheel) (same_value h x i.event s (event_fits events h.total i a)) (ap (λ n. n + i.pulses) (sym s.total))

  -- A load is judged alike: the rows of every channel are the same.
  abbrev log_rows : Channels (History B) → Channels ℕ
  log_rows L d = map_option (λ h. states_of h.rule) (L d)

  abbrev channel_rows : Channels (Loaded B) → Channels ℕ
  channel_rows N d = map_option (λ x. x.states) (N d)

  same_rows : (h : Option (History B)) (x : Option (Loaded B)) → Related Stands h x → map_option (λ h. states_of h.rule) h ≡ map_option (λ x. x.states) x
  same_rows none none r = refl
  same_rows none (some x) r = absurd r
  same_rows (some h) none r = absurd r
  same_rows (some h) (some x) r = ap some r.rows

  same_load_refusal :
      (L : Channels (History B)) (N : Channels (Loaded B)) (c : ℕ) (r : List ℕ) → AllRelated logged channel Stands L N →
      logged.load_refusal L c r ≡ channel.load_refusal N c r
  unfolding or_else
  same_load_refusal L N c r a =
      ap (λ rows. or_else (judged r) (load_rows_refusal c rows (states_of (formula_of r)))) (fun_ext (λ d. same_rows (L d) (N d) (a d)))
      ∙ go (judged r) refl
    where
      go :
          (o : Option Refusal) → judged r ≡ o →
          or_else o (load_rows_refusal c (channel_rows N) (states_of (formula_of r))) ≡ or_else o (load_rows_refusal c (channel_rows N) (table_of r).states)
      go none e = ap (λ n. or_else none (load_rows_refusal c (channel_rows N) n)) (counted r e)
      go (some x) e = refl

  accepted_load : (L : Channels (History B)) (c : ℕ) (r : List ℕ) → logged.load_refusal L c r ≡ none → judged r ≡ none
  accepted_load L c r a = (or_else_none (judged r) (load_rows_refusal c (log_rows L) (states_of (formula_of r))) a).0

  matches : Matches logged channel Stands
  matches =
      record {
        load_refusal = same_load_refusal;
        event_refusal = same_refusal;
        loaded = λ L c r a.
            let j = accepted_load L c r a in
            record { rule = good r j; word = tt; table = compiled r j; state = refl; total = refl; rows = counted r j };
        output = same_output;
        moved = λ h x i s a.
            record {
              rule = s.rule;
              word = word_append events h.events (i.event ∷ []) s.word (event_fits events h.total i a, tt);
              table = s.table;
              state =
                  ap (λ q. x.table.next q i.event) s.state ∙ sym (after_append x.table zero h.events (i.event ∷ []));
              total = ap (λ n. n + i.pulses) s.total;
              rows = s.rows;
            };
        restarted = λ h x s. record { rule = s.rule; word = tt; table = s.table; state = refl; total = refl; rows = s.rows };
      }

  -- 17 never arises in the log.
  event_not_17 : (h : Option (History B)) (i : Occurrence) → Not 17 (on_event logged h i)
  event_not_17 none i = λ q. omega arith
  event_not_17 (some h) i =
      first_not_17 (large_event events i.event) (large_total (h.total + i.pulses)) (plain_not_17 (ltb i.event events) EventNumber (λ q. omega arith))
      (plain_not_17 (leb (h.total + i.pulses) total_limit) PulseTotal (λ q. omega arith))

  empty_not_17 : (h : Option (History B)) → Not 17 (empty_refusal h)
  empty_not_17 none = λ q. omega arith
  empty_not_17 (some h) = tt

  channel_not_17 : (c : ℕ) → Not 17 (channel_refusal c)
  channel_not_17 c = plain_not_17 (ltb c channel_limit) ChannelNumber (λ q. omega arith)

  refusal_not_17 : (L : Channels (History B)) (call : Call Occurrence) → Not 17 (call_refusal logged L call)
  refusal_not_17 L (load c r) =
      first_not_17 (channel_refusal c) (logged.load_refusal L c r) (channel_not_17 c)
      (first_not_17 (judged r) (load_rows_refusal c (log_rows L) (states_of (formula_of r))) (not_17 r)
      (plain_not_17 (leb (other_rows c (log_rows L) + states_of (formula_of r)) row_limit) RowTotal (λ q. omega arith)))
  refusal_not_17 L (event c i) = first_not_17 (channel_refusal c) (on_event logged (L c) i) (channel_not_17 c) (event_not_17 (L c) i)
  refusal_not_17 L (restart c) = first_not_17 (channel_refusal c) (empty_refusal (L c)) (channel_not_17 c) (empty_not_17 (L c))
  refusal_not_17 L restart_all = tt
  refusal_not_17 L (clear c) = channel_not_17 c

  abbrev NotRefused : Reply (Reading B) → Type 0
  NotRefused accepted = Unit {0}
  NotRefused (returned v) = Unit {0}
  NotRefused (refused r) = ⊥

  event_not_refused : (h : Option (History B)) (i : Occurrence) → NotRefused (event_reply logged h i)
  event_not_refused none i = tt
  event_not_refused (some h) i = tt

  reply_not_refused : (L : Channels (History B)) (call : Call Occurrence) → NotRefused (accepted_reply logged L call)
  reply_not_refused L (load c r) = tt
  reply_not_refused L (event c i) = event_not_refused (L c) i
  reply_not_refused L (restart c) = tt
  reply_not_refused L restart_all = tt
  reply_not_refused L (clear c) = tt

  never_cons : (a : Reply (Reading B)) (rs : List (Reply (Reading B))) → NotRefused a → Never 17 rs → Never 17 (a ∷ rs)
  never_cons accepted rs p q = q
  never_cons (returned v) rs p q = q
  never_cons (refused r) rs p q = absurd p

  never_settled :
      (o : Option Refusal) (a : Reply (Reading B)) (E L : Channels (History B)) (rs : List (Reply (Reading B))) → NotRefused a → Not 17 o → Never 17 rs →
      Never 17 ((settled logged o a E L).0 ∷ rs)
  never_settled none a E L rs p q h = never_cons a rs p h
  never_settled (some r) a E L rs p q h = (q, h)

  log_never : (calls : List (Call Occurrence)) (L : Channels (History B)) → Never 17 (replies (step logged) calls L)
  log_never [] L = tt
  log_never (x ∷ xs) L =
      never_settled (call_refusal logged L x) (accepted_reply logged L x) (effect logged L x) L
      (replies (step logged) xs (step logged x L).1) (reply_not_refused L x) (refusal_not_17 L x)
      (log_never xs (step logged x L).1)

  -- Any tool whose calls keep it sound and take its channels as `recorded` says, from a sound one with all channels empty.
  module _ {Tool : Type 0} (call : Call Occurrence → Tool → Reply (Reading B) × Tool) (channels : Tool → Channels (Loaded B)) (Sound : Tool → Type 0)
      (keeps :
      (x : Call Occurrence) (t : Tool) → Sound t →
      ((call x t).0 ≡ (step channel x (channels t)).0) × Sound (call x t).1 × (channels (call x t).1 ≡ (step channel x (channels t)).1))
      (tool : Tool) (sound : Sound tool) (fresh : channels tool ≡ all_empty) where
    abbrev Follows : Tool → Channels (History B) → Type 0
    Follows t L = Sound t × AllRelated logged channel Stands L (channels t)

    tool_step :
        (x : Call Occurrence) (t : Tool) (L : Channels (History B)) → Follows t L →
        ((call x t).0 ≡ (step logged x L).0) × Follows (call x t).1 (step logged x L).1
    tool_step x t L r =
        let k = keeps x t r.0 in
        let o = step_related logged channel Stands matches x L (channels t) r.1 in
        (k.0 ∙ sym o.0, (k.1, subst⁻¹ (AllRelated logged channel Stands (step logged x L).1) k.2 o.1))

    start : Follows tool all_empty
    start = (sound, subst⁻¹ (AllRelated logged channel Stands all_empty) fresh (λ c. tt))

    run :
        (calls : List (Call Occurrence)) →
        (replies call calls tool ≡ replies (step logged) calls all_empty)
        × Follows (final call calls tool) (final (step logged) calls all_empty)
    run calls = run_related call (step logged) Follows tool_step calls tool all_empty start

    as_printed : (h : Option (History B)) (x : Option (Loaded B)) → Related Stands h x → StandsAs meet top events x h
    as_printed none none r = tt
    as_printed none (some x) r = absurd r
    as_printed (some h) none r = absurd r
    as_printed (some h) (some x) r = (r.table, r.state, r.total)

    pub record_claim : RecordClaim call channels logged (StandsAs meet top events) tool
    record_claim calls =
        let r = run calls in
        record {
          same_replies = r.0;
          never_17 = subst⁻¹ (Never 17) r.0 (log_never calls all_empty);
          stands = λ c l. as_printed (final (step logged) calls all_empty c) (channels (final call calls tool) c) (r.1.1 c);
        }

    -- The tool's channels go as `recorded` says, so that independence is that of one step of calls.
    follows_recorded :
        (calls : List (Call Occurrence)) →
        (replies call calls tool ≡ replies (step channel) calls all_empty)
        × (Sound (final call calls tool) × (channels (final call calls tool) ≡ final (step channel) calls all_empty))
    follows_recorded calls =
        run_related call (step channel) (λ t N. Sound t × (channels t ≡ N))
        (λ x t N r.
        let k = keeps x t r.0 in
        (k.0 ∙ ap (λ y. (step channel x y).0) r.1, (k.1, k.2 ∙ ap (λ y. (step channel x y).1) r.1)))
        calls tool all_empty (sound, fresh)

    abbrev Stand : Option (Loaded B) → Option (History B) → Type 0
    Stand = StandsAs meet top events

    pub own_calls_claim : OwnCallsClaim call channels logged Stand tool
    own_calls_claim c calls others e =
        let p = follows_recorded calls in
        let q = follows_recorded others in
        let a = runs_alone channel c calls all_empty in
        let b = runs_alone channel c others all_empty in
        let kept = sym (ap (accepted_on c calls) p.0) ∙ e ∙ ap (accepted_on c others) q.0 in
        let same =
        ap (λ N. N c) p.1.1 ∙ a.0 ∙ ap (λ xs. channel_after channel xs none) kept ∙ sym b.0 ∙ sym (ap (λ N. N c) q.1.1)
        in
        record {
          same_replies =
              ap (replies_on c calls) p.0 ∙ a.1 ∙ ap (λ xs. channel_replies channel xs none) kept
              ∙ sym b.1 ∙ sym (ap (replies_on c others) q.0);
          same_channel = same;
          same_events = λ i.
              (keeps (event c i) (final call calls tool) p.1.0).0
              ∙ same_event channel c i (channels (final call calls tool)) (channels (final call others tool)) same
              ∙ sym (keeps (event c i) (final call others tool) q.1.0).0;
        }

    pub other_rows_claim : OtherRowsClaim call channels logged Stand tool (λ x. x.states)
    other_rows_claim c bytes calls others e =
        let p = follows_recorded calls in
        let q = follows_recorded others in
        (keeps (load c bytes) (final call calls tool) p.1.0).0
        ∙ same_load channel (λ x. x.states) (λ L N d r h. ap (λ n. or_else (judged r) (rows_refusal (n + (table_of r).states))) h) c bytes
        (channels (final call calls tool)) (channels (final call others tool)) e
        ∙ sym (keeps (load c bytes) (final call others tool) q.1.0).0
