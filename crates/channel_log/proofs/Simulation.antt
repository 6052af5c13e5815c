-- Two kinds of contents that are related answer alike: a call keeps the relation and gives the same reply, and so does a list.
use mathlib.Core.{Path.{◌≡◌, refl, ap, ap₂, subst}, Bool.{Bool, true, false, cond}, List.{List, [], ◌∷◌}, Option.{Option, none, some}}
use Prim.Native.Nat.{ℕ}
use lib.Dec.{eqb}
use Rattle.refusal.specs.declared.Refusal.{Refusal}
use Rattle.refusal.specs.RefusalAnswers.{or_else}
use Rattle.channel_log.specs.Calls.{Call, load, event, restart, restart_all, clear, returned, Channels, with_channel, map_option, replies, final}
use Rattle.channel_log.specs.CallSteps.{channel_refusal, Content, empty_refusal, on_event, call_refusal, event_reply, accepted_reply, effect, settled, step}

-- One step after another: related, with equal replies.
pub run_related :
    {C S L A : Type 0} (f : C → S → A × S) (g : C → L → A × L) (R : S → L → Type 0) →
    ((c : C) (s : S) (l : L) → R s l → ((f c s).0 ≡ (g c l).0) × R (f c s).1 (g c l).1) →
    (cs : List C) (s : S) (l : L) → R s l → (replies f cs s ≡ replies g cs l) × R (final f cs s) (final g cs l)
run_related f g R one [] s l r = (refl, r)
run_related f g R one (c ∷ cs) s l r =
    let x = one c s l r in
    let y = run_related f g R one cs (f c s).1 (g c l).1 x.1 in
    (ap₂ ◌∷◌ x.0 y.0, y.1)

-- Both are empty, or both are loaded and related.
abbrev pub Related : {X Y : Type 0} → (X → Y → Type 0) → Option X → Option Y → Type 0
Related R none none = Unit {0}
Related R none (some y) = ⊥
Related R (some x) none = ⊥
Related R (some x) (some y) = R x y

abbrev IsSome : {A : Type 0} → Option A → Type 0
IsSome none = ⊥
IsSome (some a) = Unit {0}

pub second_none : (a b : Option Refusal) → or_else a b ≡ none → b ≡ none
unfolding or_else
second_none none b e = e
second_none (some x) b e = absurd (subst IsSome e tt)

module _ {X Y Input Output : Type 0} (K : Content X Input Output) (J : Content Y Input Output) (R : X → Y → Type 0) where
  abbrev pub AllRelated : Channels X → Channels Y → Type 0
  AllRelated L N = (c : ℕ) → Related R (L c) (N c)

  -- What the two contents owe each other.
  pub record Matches : Type 0 where
    pub load_refusal :
        (L : Channels X) (N : Channels Y) (c : ℕ) (r : List ℕ) → AllRelated L N → K.load_refusal L c r ≡ J.load_refusal N c r
    pub event_refusal : (x : X) (y : Y) (i : Input) → R x y → K.event_refusal x i ≡ J.event_refusal y i
    pub loaded : (L : Channels X) (c : ℕ) (r : List ℕ) → K.load_refusal L c r ≡ none → R (K.loaded r) (J.loaded r)
    pub output : (x : X) (y : Y) (i : Input) → R x y → K.event_refusal x i ≡ none → K.output x i ≡ J.output y i
    pub moved : (x : X) (y : Y) (i : Input) → R x y → K.event_refusal x i ≡ none → R (K.moved x i) (J.moved y i)
    pub restarted : (x : X) (y : Y) → R x y → R (K.restarted x) (J.restarted y)

  related_with :
      (c : ℕ) (x : Option X) (y : Option Y) (L : Channels X) (N : Channels Y) → Related R x y → AllRelated L N →
      AllRelated (with_channel c x L) (with_channel c y N)
  related_with c x y L N h a d = go (eqb d c)
    where
      go : (t : Bool) → Related R (cond t x (L d)) (cond t y (N d))
      go true = h
      go false = a d

  module _ (M : Matches) where
    empty_same : (x : Option X) (y : Option Y) → Related R x y → empty_refusal x ≡ empty_refusal y
    empty_same none none h = refl
    empty_same none (some y) h = absurd h
    empty_same (some x) none h = absurd h
    empty_same (some x) (some y) h = refl

    event_same : (x : Option X) (y : Option Y) (i : Input) → Related R x y → on_event K x i ≡ on_event J y i
    event_same none none i h = refl
    event_same none (some y) i h = absurd h
    event_same (some x) none i h = absurd h
    event_same (some x) (some y) i h = M.event_refusal x y i h

    refusal_same : (L : Channels X) (N : Channels Y) (call : Call Input) → AllRelated L N → call_refusal K L call ≡ call_refusal J N call
    refusal_same L N (load c r) a = ap (or_else (channel_refusal c)) (M.load_refusal L N c r a)
    refusal_same L N (event c i) a = ap (or_else (channel_refusal c)) (event_same (L c) (N c) i (a c))
    refusal_same L N (restart c) a = ap (or_else (channel_refusal c)) (empty_same (L c) (N c) (a c))
    refusal_same L N restart_all a = refl
    refusal_same L N (clear c) a = refl

    event_reply_same :
        (x : Option X) (y : Option Y) (i : Input) → Related R x y → on_event K x i ≡ none → event_reply K x i ≡ event_reply J y i
    event_reply_same none none i h e = refl
    event_reply_same none (some y) i h e = absurd h
    event_reply_same (some x) none i h e = absurd h
    event_reply_same (some x) (some y) i h e = ap returned (M.output x y i h e)

    reply_same :
        (L : Channels X) (N : Channels Y) (call : Call Input) → AllRelated L N → call_refusal K L call ≡ none →
        accepted_reply K L call ≡ accepted_reply J N call
    reply_same L N (load c r) a e = refl
    reply_same L N (event c i) a e =
        event_reply_same (L c) (N c) i (a c) (second_none (channel_refusal c) (on_event K (L c) i) e)
    reply_same L N (restart c) a e = refl
    reply_same L N restart_all a e = refl
    reply_same L N (clear c) a e = refl

    moved_related :
        (x : Option X) (y : Option Y) (i : Input) → Related R x y → on_event K x i ≡ none →
        Related R (map_option (λ z. K.moved z i) x) (map_option (λ z. J.moved z i) y)
    moved_related none none i h e = tt
    moved_related none (some y) i h e = absurd h
    moved_related (some x) none i h e = absurd h
    moved_related (some x) (some y) i h e = M.moved x y i h e

    restarted_related :
        (x : Option X) (y : Option Y) → Related R x y →
        Related R (map_option K.restarted x) (map_option J.restarted y)
    restarted_related none none h = tt
    restarted_related none (some y) h = absurd h
    restarted_related (some x) none h = absurd h
    restarted_related (some x) (some y) h = M.restarted x y h

    effect_related :
        (L : Channels X) (N : Channels Y) (call : Call Input) → AllRelated L N → call_refusal K L call ≡ none →
        AllRelated (effect K L call) (effect J N call)
    effect_related L N (load c r) a e =
        related_with c (some (K.loaded r)) (some (J.loaded r)) L N
        (M.loaded L c r (second_none (channel_refusal c) (K.load_refusal L c r) e)) a
    effect_related L N (event c i) a e =
        related_with c (map_option (λ z. K.moved z i) (L c)) (map_option (λ z. J.moved z i) (N c)) L N
        (moved_related (L c) (N c) i (a c) (second_none (channel_refusal c) (on_event K (L c) i) e)) a
    effect_related L N (restart c) a e =
        related_with c (map_option K.restarted (L c)) (map_option J.restarted (N c)) L N
        (restarted_related (L c) (N c) (a c)) a
    effect_related L N restart_all a e = λ d. restarted_related (L d) (N d) (a d)
    effect_related L N (clear c) a e = related_with c none none L N tt a

    settled_related :
        (L : Channels X) (N : Channels Y) (call : Call Input) → AllRelated L N →
        (o : Option Refusal) → call_refusal K L call ≡ o →
        ((settled K o (accepted_reply K L call) (effect K L call) L).0 ≡ (settled J o (accepted_reply J N call) (effect J N call) N).0)
        × AllRelated (settled K o (accepted_reply K L call) (effect K L call) L).1 (settled J o (accepted_reply J N call) (effect J N call) N).1
    settled_related L N call a none e = (reply_same L N call a e, effect_related L N call a e)
    settled_related L N call a (some x) e = (refl, a)

    -- One call: the same reply, and the channels related again.
    pub step_related :
        (call : Call Input) (L : Channels X) (N : Channels Y) → AllRelated L N →
        ((step K call L).0 ≡ (step J call N).0) × AllRelated (step K call L).1 (step J call N).1
    step_related call L N a =
        subst
        (λ o. ((step K call L).0 ≡ (settled J o (accepted_reply J N call) (effect J N call) N).0)
        × AllRelated (step K call L).1 (settled J o (accepted_reply J N call) (effect J N call) N).1)
        (refusal_same L N call a)
        (settled_related L N call a (call_refusal K L call) refl)
