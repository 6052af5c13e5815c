-- The search over the queue is breadth-first exploration: it stops at the first failing word, or has looked at all pairs and knows whether
-- some word ends in different values.
use mathlib.Core.{Path.{◌≡◌, refl, sym, ◌∙◌, ap, ap₂, subst}, Bool.{Bool, true, false, not, cond, ◌&&◌, and_assoc, and-true}, List.{List, [], ◌∷◌}}
use mathlib.Core.Option.{Option, none, some}
use Prim.Native.Nat.{ℕ, zero, suc, ◌+◌, ◌*◌, ◌-◌, ◌≤◌, ◌<◌}
use native.Mathlib.{Numerals.{add-one}, Omega.{arith}}
use borrow.Author.Tests.{eqb-true, eqb-false, lt-ltb, le-ltb}
use lib.{Dec.{eqb}, ListN.{length, get_or, drop, drop_of_length-le}, Seq.{drop-cons}}
use Rattle.theory.specs.Exploration.{reached, add_events, explore, explored}
use Rattle.theory.specs.ConformanceCheck.{same_pair, next_pair, bad_event, first_found, first_bad, bad_pair, is_none, in_play_order}
use Rattle.theory.proofs.{Exploration.{Grows, explore_grows}, Conformance.{same_pair_iff, few_pairs}}
use Rattle.conformance.specs.Trial.{TrialInput, device_machine, table_machine}
use Rattle.conformance.specs.TrialAnswer.{below, first_failure, ends_same}
use Rattle.conformance.specs.declared.{Queue.{Queue}}
use Rattle.conformance.specs.PairQueue.{pair_at, HoldsPairs, Ready, pair_after, below_on, equal_on, BadOn, GoodOn, successors, Expandable, Expanded, FailsAt}
use Rattle.conformance.proofs.{Places.{product_bounded}, Successors.{part_grows}}

-- What exploration and the first bad word compute, step by step.
module _ {S : Type 0} (next : S → ℕ → S) (start : S) (bad : S → ℕ → Bool) where
  abbrev Fine : List ℕ → ℕ → Type 0
  Fine w e = bad (reached next start w) e ≡ false

  -- No event is bad after w.
  bad_none : (c e : ℕ) (w : List ℕ) → ((a : ℕ) → e ≤ a → a < e + c → Fine w a) → bad_event next start bad c e w ≡ none
  bad_none zero e w f = refl
  bad_none (suc c) e w f =
      ap (λ b. cond b (some (e ∷ w)) (bad_event next start bad c (suc e) w)) (f e (omega arith) (omega arith))
      ∙ bad_none c (suc e) w (λ a h k. f a (omega arith) (omega arith))

  -- Event r is the first that is.
  bad_first :
      (r : ℕ) (w : List ℕ) → bad (reached next start w) r ≡ true → (c e : ℕ) → e ≤ r → r < e + c → ((a : ℕ) → e ≤ a → a < r → Fine w a) →
      bad_event next start bad c e w ≡ some (r ∷ w)
  bad_first r w t zero e h k f = absurd (omega arith)
  bad_first r w t (suc c) e h k f = go (eqb e r) refl (λ x y z. bad_first r w t c (suc e) x y z)
    where
      later : List ℕ → Option (List ℕ)
      later v = bad_event next start bad c (suc e) v

      go :
          (b : Bool) → eqb e r ≡ b → (suc e ≤ r → r < suc e + c → ((a : ℕ) → suc e ≤ a → a < r → Fine w a) → later w ≡ some (r ∷ w)) →
          cond (bad (reached next start w) e) (some (e ∷ w)) (later w) ≡ some (r ∷ w)
      go true z g =
          let same : e ≡ r = eqb-true e r z in
          ap (λ b. cond b (some (e ∷ w)) (later w)) (ap (bad (reached next start w)) same ∙ t) ∙ ap (λ x. some (x ∷ w)) same
      go false z g =
          let other : ¬ (e ≡ r) = eqb-false e r z in
          ap (λ b. cond b (some (e ∷ w)) (later w)) (f e (omega arith) (omega arith))
          ∙ g (omega arith) (omega arith) (λ a x y. f a (omega arith) y)

  -- Some event is.
  bad_some :
      (a : ℕ) (w : List ℕ) → bad (reached next start w) a ≡ true → (c e : ℕ) → e ≤ a → a < e + c → is_none (bad_event next start bad c e w) ≡ false
  bad_some a w t zero e h k = absurd (omega arith)
  bad_some a w t (suc c) e h k = go (bad (reached next start w) e) refl (λ x y. bad_some a w t c (suc e) x y)
    where
      go :
          (b : Bool) → bad (reached next start w) e ≡ b →
          (suc e ≤ a → a < suc e + c → is_none (bad_event next start bad c (suc e) w) ≡ false) →
          is_none (cond b (some (e ∷ w)) (bad_event next start bad c (suc e) w)) ≡ false
      go true z g = refl
      go false z g = g (by_case (eqb e a) refl) (omega arith)
        where
          by_case : (b : Bool) → eqb e a ≡ b → suc e ≤ a
          by_case true y =
              let c : ◌≡◌ {A = Bool} false true = sym z ∙ ap (bad (reached next start w)) (eqb-true e a y) ∙ t in absurd cc
          by_case false y = let other : ¬ (e ≡ a) = eqb-false e a y in omega arith

  -- The words from number i on.
  module _ (events : ℕ) (Q : List (List ℕ)) (i : ℕ) (i_in : i < length Q) where
    first_at :
        first_bad next start bad events (drop i Q)
        ≡ first_found (bad_event next start bad events zero (get_or Q i [])) (first_bad next start bad events (drop (suc i) Q))
    first_at = ap (first_bad next start bad events) (drop-cons Q i [] i_in)

-- Nothing is found first where nothing is found in either.
none_found : (o r : Option (List ℕ)) → is_none (first_found o r) ≡ (is_none o && is_none r)
none_found none r = refl
none_found (some w) r = refl

none_in_play_order : (o : Option (List ℕ)) → is_none (in_play_order o) ≡ is_none o
none_in_play_order none = refl
none_in_play_order (some w) = refl

module _ {S : Type 0} (same : S → S → Bool) (next : S → ℕ → S) (start : S) (events : ℕ) where
  explore_step :
      (limit i : ℕ) (P : List (List ℕ)) → i < length P → i < limit →
      explore same next start events (limit - i) i P
      ≡ explore same next start events (limit - suc i) (suc i) (add_events same next start events zero P (get_or P i []))
  explore_step limit i P h l =
      let z : limit - i ≡ suc (limit - suc i) = omega arith in
      ap (λ c. explore same next start events c i P) z
      ∙ ap (λ b. cond b (explore same next start events (limit - suc i) (suc i) (add_events same next start events zero P (get_or P i []))) P)
      (lt-ltb i (length P) h)

  explore_end : (c i : ℕ) (P : List (List ℕ)) → length P ≤ i → explore same next start events c i P ≡ P
  explore_end zero i P h = refl
  explore_end (suc c) i P h =
      ap (λ b. cond b (explore same next start events c (suc i) (add_events same next start events zero P (get_or P i []))) P)
      (le-ltb i (length P) h)

-- What holds when i pairs have been taken from the queue and none of them failed.
module _ {size : ℕ} {x : TrialInput} {a₀ : Queue size} (ready : Ready size x) (held₀ : HoldsPairs x ([] ∷ []) a₀) where
  abbrev limit : ℕ
  limit = x.device_states * x.states

  abbrev next : ℕ × ℕ → ℕ → ℕ × ℕ
  next = next_pair (device_machine x) (table_machine x)

  abbrev start : ℕ × ℕ
  start = (x.device_start, zero)

  abbrev bad : (ℕ → ℕ → Bool) → ℕ × ℕ → ℕ → Bool
  bad related = bad_pair related (device_machine x) (table_machine x)

  abbrev Q : List (List ℕ)
  Q = explored same_pair next start x.set_up.events limit

  -- The first of the words after which a test of two values fails.
  abbrev first_from : (ℕ → ℕ → Bool) → List (List ℕ) → Option (List ℕ)
  first_from related P = first_bad next start (bad related) x.set_up.events P

  pub record Progress (i : ℕ) (same : Bool) (a : Queue size) : Type 0 where
    pub words : List (List ℕ)
    pub held : HoldsPairs x words a
    pub at_most : i ≤ a.count
    pub on_way : explore same_pair next start x.set_up.events (limit - i) i words ≡ Q
    pub passed : first_from (below x) (drop i Q) ≡ first_from (below x) Q
    pub graded : is_none (first_from eqb Q) ≡ (same && is_none (first_from eqb (drop i Q)))

  Q_few : length Q ≤ limit
  Q_few =
      few_pairs x.set_up.events x.device_states x.states (device_machine x) (table_machine x) ready.device_nexts ready.table_nexts
      x.device_start zero ready.start_in ready.some_states

  grows : (c i : ℕ) (P : List (List ℕ)) → Grows P (explore same_pair next start x.set_up.events c i P)
  grows c i P = explore_grows same_pair same_pair_iff next start x.set_up.events c i P

  pub progress_start : Progress zero true a₀
  progress_start =
      let z : limit - zero ≡ limit = omega arith in
      record {
        words = [] ∷ [];
        held = held₀;
        at_most = omega arith;
        on_way = ap (λ c. explore same_pair next start x.set_up.events c zero ([] ∷ [])) z;
        passed = refl;
        graded = refl;
      }

  module _ (i : ℕ) (same : Bool) (a : Queue size) (p : Progress i same a) where
    words_grow : Grows p.words Q
    words_grow = subst (Grows p.words) p.on_way (grows (limit - i) i p.words)

    words_few : length p.words ≤ limit
    words_few = omega (arith, words_grow.0, Q_few)

    -- No pair is left.
    pub found_none : a.count ≤ i → (first_failure x ≡ none) × (same ≡ ends_same x)
    unfolding first_failure ends_same
    found_none h =
        let z : length p.words ≤ i = omega (arith, p.held.counted) in
        let is : p.words ≡ Q = sym (explore_end same_pair next start x.set_up.events (limit - i) i p.words z) ∙ p.on_way in
        let rest : drop i Q ≡ [] = ap (drop i) (sym is) ∙ drop_of_length-le p.words z in (
          ap in_play_order (sym p.passed ∙ ap (first_from (below x)) rest),
          sym (none_in_play_order (first_from eqb Q) ∙ p.graded ∙ ap (λ l. same && is_none (first_from eqb l)) rest ∙ and-true same),
        )

    module _ (h : i < a.count) where
      i_in : i < length p.words
      i_in = subst (λ c. i < c) p.held.counted h

      pub taken_small : i < size
      taken_small = omega (arith, i_in, words_few, ready.few_pairs)

      pub taken_few : i < 65536
      taken_few = omega (arith, i_in, words_few, product_bounded ready.few_device_states ready.few_table_states)

      abbrev after : List (List ℕ)
      after = successors x p.words i

      step_way : explore same_pair next start x.set_up.events (limit - suc i) (suc i) after ≡ Q
      step_way = sym (explore_step same_pair next start x.set_up.events limit i p.words i_in (omega (arith, i_in, words_few))) ∙ p.on_way

      after_grow : Grows after Q
      after_grow = subst (Grows after) step_way (grows (limit - suc i) (suc i) after)

      pub expandable : Expandable x a i
      expandable = record { words = p.words; held = p.held; taken = i_in; room = omega (arith, after_grow.0, Q_few) }

      module _ (s t : ℕ) (s_is : s ≡ (pair_at a.pairs i).device) (t_is : t ≡ (pair_at a.pairs i).table) where
        pub s_small : s < 256
        s_small = omega (arith, s_is, p.held.device_in i i_in, ready.few_device_states)

        pub t_small : t < 256
        t_small = omega (arith, t_is, p.held.table_in i i_in, ready.few_table_states)

        abbrev w : List ℕ
        w = get_or p.words i []

        bad_is :
            (related : ℕ → ℕ → Bool) (e : ℕ) (b : Bool) → related ((device_machine x).value s e) ((table_machine x).value t e) ≡ b →
            bad related (pair_after x w) e ≡ not b
        bad_is related e b z =
            ap (λ p. bad related p e) (sym (p.held.reached i i_in))
            ∙ ap₂ (λ u v. not (related ((device_machine x).value u e) ((table_machine x).value v e))) (sym s_is) (sym t_is)
            ∙ ap not z

        taken_word : get_or Q i [] ≡ w
        taken_word = words_grow.1 i i_in

        -- What a test finds on the events of the pair.
        abbrev on_pair : (ℕ → ℕ → Bool) → Option (List ℕ)
        on_pair related = bad_event next start (bad related) x.set_up.events zero w

        here : (related : ℕ → ℕ → Bool) → first_from related (drop i Q) ≡ first_found (on_pair related) (first_from related (drop (suc i) Q))
        here related =
            first_at next start (bad related) x.set_up.events Q i (omega (arith, i_in, words_grow.0))
            ∙ ap (λ u. first_found (bad_event next start (bad related) x.set_up.events zero u) (first_from related (drop (suc i) Q))) taken_word

        -- The pair fails.
        pub found_at :
            (e : ℕ) → BadOn x.set_up.events (below_on x s t) (equal_on x s t) e → FailsAt x (record { place = i; event = e }) a
        unfolding below_on first_failure
        found_at e judged =
            record {
              reaches =
                  record {
                    words = p.words;
                    linked = p.held.linked;
                    room = omega (arith, words_few, ready.few_pairs, p.held.sized.pairs_size);
                    has = i_in;
                  };
              few = omega (arith, words_few, ready.few_pairs);
              event_in = judged.event_in;
              is_first =
                  ap in_play_order
                  (sym p.passed ∙ here (below x)
                  ∙ ap (λ o. first_found o (first_from (below x) (drop (suc i) Q)))
                  (bad_first next start (bad (below x)) e w (bad_is (below x) e false judged.bad) x.set_up.events zero (omega arith)
                  (omega (arith, judged.event_in)) (λ c u v. bad_is (below x) c true (judged.before c v))));
            }

        module _ (all_equal : Bool) (judged : GoodOn x.set_up.events (below_on x s t) (equal_on x s t) all_equal) where
          equal_here : is_none (on_pair eqb) ≡ all_equal
          unfolding equal_on
          equal_here = go all_equal judged.all_same judged.some_differ
            where
              go :
                  (b : Bool) → (b ≡ true → (c : ℕ) → c < x.set_up.events → equal_on x s t c ≡ true) →
                  (b ≡ false → (c : ℕ) × (c < x.set_up.events) × (equal_on x s t c ≡ false)) → is_none (on_pair eqb) ≡ b
              go true f g =
                  ap is_none (bad_none next start (bad eqb) x.set_up.events zero w (λ c u v. bad_is eqb c true (f refl c (omega arith))))
              go false f g =
                  let d = g refl in
                  bad_some next start (bad eqb) d.0 w (bad_is eqb d.0 false d.2) x.set_up.events zero (omega arith) (omega (arith, d.1))

          -- It does not, and its successors are pushed.
          pub progress_next : (b : Queue size) → Expanded x a i b → Progress (i + 1) (same && all_equal) b
          unfolding below_on expandable
          progress_next b f =
              let g = f expandable in
              subst (λ c. Progress c (same && all_equal) b) (sym (add-one i)) (record {
                words = after;
                held = g;
                at_most = omega (arith, g.counted, i_in, more);
                on_way = step_way;
                passed =
                    sym (here (below x)
                    ∙ ap (λ o. first_found o (first_from (below x) (drop (suc i) Q)))
                    (bad_none next start (bad (below x)) x.set_up.events zero w (λ c u v. bad_is (below x) c true (judged.allowed c (omega arith)))))
                    ∙ p.passed;
                graded =
                    p.graded
                    ∙ ap (λ o. same && o) (ap is_none (here eqb) ∙ none_found (on_pair eqb) later ∙ ap (λ o. o && is_none later) equal_here)
                    ∙ sym (and_assoc same all_equal (is_none later));
              })
            where
              later : Option (List ℕ)
              later = first_from eqb (drop (suc i) Q)

              more : length p.words ≤ length after
              more = part_grows same_pair next start p.words w x.set_up.events
