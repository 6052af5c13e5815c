-- A channel goes by its own accepted calls alone; a load goes by the rows of the others (document 02, F-12).
use mathlib.Core.{Path.{◌≡◌, refl, sym, ◌∙◌, ap, ap₂, subst⁻¹}, Bool.{Bool, true, false, false≢true, ◌&&◌, cond}, List.{List, [], ◌∷◌}}
use mathlib.Core.Option.{Option, none, some}
use Prim.Native.Nat.{ℕ}
use lib.Dec.{eqb}
use borrow.Author.Tests.{eqb-true, eqb-false, eq-eqb, ne_eqb}
use Rattle.refusal.specs.{declared.Refusal.{Refusal}, RefusalAnswers.{or_else}}
use Rattle.channel_log.specs.Calls.{Call, load, event, restart, restart_all, clear, Reply, accepted, Channels, all_empty, with_channel}
use Rattle.channel_log.specs.Calls.{map_option, replies, final, concerns, is_accepted, accepted_on, replies_on}
use Rattle.channel_log.specs.CallSteps.{channel_refusal, Content, on_event, call_refusal, event_reply, accepted_reply, effect, settled, step}
use Rattle.channel_log.specs.Rows.{other_rows}

pub put_at : {X : Type 0} (c : ℕ) (x : Option X) (L : Channels X) → with_channel c x L c ≡ x
put_at c x L = ap (λ t. cond t x (L c)) (eq-eqb c c refl)

put_own : {X : Type 0} (d c : ℕ) (x : Option X) (L : Channels X) → eqb d c ≡ true → with_channel d x L c ≡ x
put_own d c x L e = ap (λ t. cond t x (L c)) (eq-eqb c d (sym (eqb-true d c e)))

put_other : {X : Type 0} (d c : ℕ) (x : Option X) (L : Channels X) → eqb d c ≡ false → with_channel d x L c ≡ L c
put_other d c x L e = ap (λ t. cond t x (L c)) (ne_eqb c d (λ p. eqb-false d c e (sym p)))

pub put_apart : {X : Type 0} (c d : ℕ) (x : Option X) (L : Channels X) → ¬ (d ≡ c) → with_channel c x L d ≡ L d
put_apart c d x L n = ap (λ t. cond t x (L d)) (ne_eqb d c n)

module _ {X Input Output : Type 0} (K : Content X Input Output) where
  -- What an accepted call makes of the channel that it concerns, and what it replies.
  abbrev acts : Call Input → Option X → Option X
  acts (load d r) o = some (K.loaded r)
  acts (event d i) o = map_option (λ x. K.moved x i) o
  acts (restart d) o = map_option K.restarted o
  acts restart_all o = map_option K.restarted o
  acts (clear d) o = none

  abbrev replied : Call Input → Option X → Reply Output
  replied (load d r) o = accepted
  replied (event d i) o = event_reply K o i
  replied (restart d) o = accepted
  replied restart_all o = accepted
  replied (clear d) o = accepted

  -- A channel after accepted calls on it, and its replies to them.
  abbrev pub channel_after : List (Call Input) → Option X → Option X
  channel_after [] o = o
  channel_after (x ∷ xs) o = channel_after xs (acts x o)

  abbrev pub channel_replies : List (Call Input) → Option X → List (Reply Output)
  channel_replies [] o = []
  channel_replies (x ∷ xs) o = replied x o ∷ channel_replies xs (acts x o)

  event_accepted : (o : Option X) (i : Input) → is_accepted (event_reply K o i) ≡ true
  event_accepted none i = refl
  event_accepted (some x) i = refl

  -- What an accepted call replies is no refusal.
  reply_accepted : (L : Channels X) (x : Call Input) → is_accepted (accepted_reply K L x) ≡ true
  reply_accepted L (load d r) = refl
  reply_accepted L (event d i) = event_accepted (L d) i
  reply_accepted L (restart d) = refl
  reply_accepted L restart_all = refl
  reply_accepted L (clear d) = refl

  module _ (c : ℕ) where
    other : (L : Channels X) (x : Call Input) → concerns c x ≡ false → effect K L x c ≡ L c
    other L (load d r) e = put_other d c (some (K.loaded r)) L e
    other L (event d i) e = put_other d c (map_option (λ x. K.moved x i) (L d)) L e
    other L (restart d) e = put_other d c (map_option K.restarted (L d)) L e
    other L restart_all e = absurd (false≢true (sym e))
    other L (clear d) e = put_other d c none L e

    own : (L : Channels X) (x : Call Input) → concerns c x ≡ true → effect K L x c ≡ acts x (L c)
    own L (load d r) e = put_own d c (some (K.loaded r)) L e
    own L (event d i) e =
        put_own d c (map_option (λ x. K.moved x i) (L d)) L e ∙ ap (λ d. map_option (λ x. K.moved x i) (L d)) (eqb-true d c e)
    own L (restart d) e = put_own d c (map_option K.restarted (L d)) L e ∙ ap (λ d. map_option K.restarted (L d)) (eqb-true d c e)
    own L restart_all e = refl
    own L (clear d) e = put_own d c none L e

    own_reply : (L : Channels X) (x : Call Input) → concerns c x ≡ true → accepted_reply K L x ≡ replied x (L c)
    own_reply L (load d r) e = refl
    own_reply L (event d i) e = ap (λ d. event_reply K (L d) i) (eqb-true d c e)
    own_reply L (restart d) e = refl
    own_reply L restart_all e = refl
    own_reply L (clear d) e = refl

    abbrev kept : List (Call Input) → Channels X → List (Call Input)
    kept xs L = accepted_on c xs (replies (step K) xs L)

    abbrev Runs : List (Call Input) → Channels X → Type 0
    Runs xs L =
        (final (step K) xs L c ≡ channel_after (kept xs L) (L c))
        × (replies_on c xs (replies (step K) xs L) ≡ channel_replies (kept xs L) (L c))

    -- After any list, whatever calls named the others.
    pub runs_alone : (calls : List (Call Input)) (L : Channels X) → Runs calls L
    runs_alone [] L = (refl, refl)
    runs_alone (x ∷ xs) L = go (concerns c x) refl (call_refusal K L x) (runs_alone xs)
      where
        Goal : Bool → Reply Output → Channels X → Type 0
        Goal t a N =
            (final (step K) xs N c ≡ channel_after (cond t (x ∷ kept xs N) (kept xs N)) (L c))
            × (cond t (a ∷ replies_on c xs (replies (step K) xs N)) (replies_on c xs (replies (step K) xs N))
            ≡ channel_replies (cond t (x ∷ kept xs N) (kept xs N)) (L c))

        Next : Bool → Reply Output × Channels X → Type 0
        Next t s = Goal (t && is_accepted s.0) s.0 s.1

        go :
            (t : Bool) → concerns c x ≡ t → (o : Option Refusal) → ((N : Channels X) → Runs xs N) →
            Next t (settled K o (accepted_reply K L x) (effect K L x) L)
        go true e (some r) rest = rest L
        go false e (some r) rest = rest L
        go true e none rest =
            let N = effect K L x in
            let r = rest N in
            subst⁻¹ (λ t. Goal t (accepted_reply K L x) N) (reply_accepted L x) (
              r.0 ∙ ap (channel_after (kept xs N)) (own L x e),
              ap₂ ◌∷◌ (own_reply L x e) (r.1 ∙ ap (channel_replies (kept xs N)) (own L x e)),
            )
        go false e none rest =
            let N = effect K L x in
            let r = rest N in
            (r.0 ∙ ap (channel_after (kept xs N)) (other L x e), r.1 ∙ ap (channel_replies (kept xs N)) (other L x e))

  -- A reply goes by the refusal and by what is replied otherwise.
  settled_reply : (o : Option Refusal) (a : Reply Output) (E L : Channels X) → (settled K o a E L).0 ≡ (settled K o a all_empty all_empty).0
  settled_reply none a E L = refl
  settled_reply (some r) a E L = refl

  same_reply :
      (x : Call Input) (L N : Channels X) → call_refusal K L x ≡ call_refusal K N x → accepted_reply K L x ≡ accepted_reply K N x →
      (step K x L).0 ≡ (step K x N).0
  same_reply x L N e f =
      settled_reply (call_refusal K L x) (accepted_reply K L x) (effect K L x) L
      ∙ ap₂ (λ o a. (settled K o a all_empty all_empty).0) e f
      ∙ sym (settled_reply (call_refusal K N x) (accepted_reply K N x) (effect K N x) N)

  -- An event goes by its channel.
  pub same_event : (c : ℕ) (i : Input) (L N : Channels X) → L c ≡ N c → (step K (event c i) L).0 ≡ (step K (event c i) N).0
  same_event c i L N e =
      same_reply (event c i) L N (ap (λ o. or_else (channel_refusal c) (on_event K o i)) e) (ap (λ o. event_reply K o i) e)

  -- A load goes by the rows of the others, where its refusals look at nothing else of the channels.
  module _ (rows : X → ℕ) where
    abbrev others_have : ℕ → Channels X → ℕ
    others_have c L = other_rows c (λ d. map_option rows (L d))

    pub same_load :
        ((L N : Channels X) (c : ℕ) (r : List ℕ) → others_have c L ≡ others_have c N → K.load_refusal L c r ≡ K.load_refusal N c r) →
        (c : ℕ) (r : List ℕ) (L N : Channels X) → others_have c L ≡ others_have c N → (step K (load c r) L).0 ≡ (step K (load c r) N).0
    same_load by c r L N e = same_reply (load c r) L N (ap (or_else (channel_refusal c)) (by L N c r e)) refl
