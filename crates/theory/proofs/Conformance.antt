-- The check of one table against another, for any test of two values: no word is found exactly where the values are so related on every
-- word; a word that is found is the first where they are not, of at least one and at most n × k events.
use mathlib.Core.{Path.{◌≡◌, refl, ◌∙◌, ap, subst, subst⁻¹}, Bool.{Bool, true, false, not}, Logic.{◌↔◌}}
use mathlib.Core.{List.{List, [], ◌∷◌, ◌++◌, reverse, reverse-cons, reverse-reverse, reverse-append}, Option.{Option, none, some}}
use Prim.Native.Nat.{ℕ, ◌+◌, ◌*◌, ◌≤◌, ◌<◌}
use native.Mathlib.{Nat.{mul-le-mul_right, suc-mul}, Omega.{arith}}
use lib.{Dec.{T, eqb, eqb→eq, eqb_refl, T_not, not_T}, ListN.{length, length-reverse}}
use mir.Facts.{and_yes, yes_and}
use Rattle.theory.specs.ValueSets.{AtOrBelow}
use Rattle.theory.specs.MealyMachine.{Machine, Word, after, States, Runs, NoLater, FirstCounterexample}
use Rattle.theory.specs.MachineRuns.{RelatedOnWords}
use Rattle.theory.specs.Exploration.{reached, explored}
use Rattle.theory.specs.ConformanceCheck.{first_bad, next_pair, bad_pair, same_pair, in_play_order, counterexample}
use Rattle.theory.proofs.{Numbers.{digits_equal, pigeonhole}, WordOrder.{word_reverse, word_left, word_right, no_later_iff_number}}
use Rattle.theory.proofs.{Exploration.{at, Kept, invariant}, ReachableStates.{reached_reverse}, FirstBad.{Answer, answer}}

pub same_pair_iff : (x y : ℕ × ℕ) → T (same_pair x y) ↔ (x ≡ y)
same_pair_iff x y = (
  (λ h. λ i. (eqb→eq x.0 y.0 (both h).0 i, eqb→eq x.1 y.1 (both h).1 i)),
  λ e. subst (λ z. T (same_pair x z)) e (self x),
)
  where
    both : T (same_pair x y) → T (eqb x.0 y.0) × T (eqb x.1 y.1)
    both h = and_yes (eqb x.0 y.0) (eqb x.1 y.1) h

    self : (z : ℕ × ℕ) → T (same_pair z z)
    self z = yes_and (eqb z.0 z.0) (eqb z.1 z.1) (eqb_refl z.0) (eqb_refl z.1)

-- There are no more pairs of states than n × k, where the events lead from states to states.
module _ {B : Type 0} (events n k : ℕ) (m q : Machine ℕ B) (m_in : (s e : ℕ) → s < n → e < events → m.next s e < n)
    (q_in : (t e : ℕ) → t < k → e < events → q.next t e < k) (s t : ℕ) (s_in : s < n) (t_in : t < k) where
  abbrev pair_of : List ℕ → ℕ × ℕ
  pair_of w = reached (next_pair m q) (s, t) w

  abbrev words : List (List ℕ)
  words = explored same_pair (next_pair m q) (s, t) events (n * k)

  pair_in : (w : List ℕ) → Word events w → ((pair_of w).0 < n) × ((pair_of w).1 < k)
  pair_in [] v = (s_in, t_in)
  pair_in (e ∷ w) v =
      let r : ((pair_of w).0 < n) × ((pair_of w).1 < k) = pair_in w v.1 in
      (m_in (pair_of w).0 e r.0 v.0, q_in (pair_of w).1 e r.1 v.0)

  pub few_pairs : length words ≤ n * k
  few_pairs = pigeonhole (n * k) (length words) number in_range different
    where
      number : ℕ → ℕ
      number l = (pair_of (at words l)).0 * k + (pair_of (at words l)).1

      inv : Kept same_pair same_pair_iff (next_pair m q) (s, t) events words
      inv = invariant same_pair same_pair_iff (next_pair m q) (s, t) events (n * k)

      at_in : (l : ℕ) → l < length words → ((pair_of (at words l)).0 < n) × ((pair_of (at words l)).1 < k)
      at_in l h = pair_in (at words l) (inv.1.words l h)

      in_range : (l : ℕ) → l < length words → number l < n * k
      in_range l h =
          let r = at_in l h in
          omega (arith, r.1, mul-le-mul_right k r.0, suc-mul (pair_of (at words l)).0 k)

      different : (j l : ℕ) → j < l → l < length words → ¬ (number j ≡ number l)
      different j l u h e =
          let d = digits_equal k (pair_of (at words j)).0 (pair_of (at words l)).0 (pair_of (at words j)).1 (pair_of (at words l)).1
          (at_in j (omega arith)).1 (at_in l h).1 e in
          inv.1.different j l u h (λ i. (d.0 i, d.1 i))

-- For any relation of two values that is decided.
module _ {B : Type 0} (In : B → Type 0) (Related : B → B → Type 0) (related : B → B → Bool)
    (decides : (b c : B) → T (related b c) ↔ Related b c) (events n : ℕ) (m : Machine ℕ B) (k : ℕ) (q : Machine ℕ B)
    (runs_m : Runs events In (States n) m) (runs_q : Runs events In (States k) q) where
  not_related_iff : (b c : B) → T (not (related b c)) ↔ (¬ Related b c)
  not_related_iff b c = (
    (λ x y. T_not (related b c) x ((decides b c).1 y)),
    λ f. not_T (related b c) (λ x. f ((decides b c).0 x)),
  )

  related_if_not_not : (b c : B) → ¬ (¬ Related b c) → Related b c
  related_if_not_not b c f = (decides b c).0 (stable (related b c) (λ x. f ((not_related_iff b c).0 x)))
    where
      stable : (b : Bool) → (T (not b) → ⊥) → T b
      stable true f = tt
      stable false f = f tt

  module _ (s t : ℕ) (s_in : s < n) (t_in : t < k) where
    abbrev pair_after : List ℕ → ℕ × ℕ
    pair_after w = reached (next_pair m q) (s, t) w

    pair_after_is : (w : List ℕ) → pair_after w ≡ (reached m.next s w, reached q.next t w)
    pair_after_is [] = refl
    pair_after_is (e ∷ w) = ap (λ x. next_pair m q x e) (pair_after_is w)

    abbrev P : List (List ℕ)
    P = explored same_pair (next_pair m q) (s, t) events (n * k)

    few : length P ≤ n * k
    few =
        few_pairs events n k m q (λ l e h i. runs_m.next_in l h e i) (λ l e h i. runs_q.next_in l h e i) s t s_in t_in

    -- A word in order of play: the test strikes exactly where the values are not related.
    abbrev RelatedAfter : List ℕ → ℕ → Type 0
    RelatedAfter w e = Related (m.value (after m s w) e) (q.value (after q t w) e)

    pair_in_play_order : (w : List ℕ) → pair_after (reverse w) ≡ (after m s w, after q t w)
    pair_in_play_order w = pair_after_is (reverse w) ∙ (λ i. (reached_reverse m s w i, reached_reverse q t w i))

    bad_iff : (w : List ℕ) (e : ℕ) → T (bad_pair related m q (pair_after (reverse w)) e) ↔ (¬ RelatedAfter w e)
    bad_iff w e =
        subst⁻¹ (λ x. T (bad_pair related m q x e) ↔ (¬ RelatedAfter w e)) (pair_in_play_order w)
        (not_related_iff (m.value (after m s w) e) (q.value (after q t w) e))

    bad_iff_reversed : (w : List ℕ) (e : ℕ) → T (bad_pair related m q (pair_after w) e) ↔ (¬ RelatedAfter (reverse w) e)
    bad_iff_reversed w e =
        subst (λ x. T (bad_pair related m q (pair_after x) e) ↔ (¬ RelatedAfter (reverse w) e)) (reverse-reverse w) (bad_iff (reverse w) e)

    -- u, last event first, is the first word after whose last event the values are not related.
    pub record FirstUnrelated (u : List ℕ) : Type 0 where
      pub before : List ℕ
      pub last : ℕ
      pub ends : u ≡ last ∷ before
      pub events_of : Word events u
      pub unrelated : ¬ RelatedAfter (reverse before) last
      pub few_events : length u ≤ n * k
      pub first : (w : List ℕ) (e : ℕ) → Word events (w ++ (e ∷ [])) → ¬ RelatedAfter w e → NoLater (reverse u) (w ++ (e ∷ []))

    -- What each answer of the check says.
    unfoldable pub Says : Option (List ℕ) → Type 0
    Says none = RelatedOnWords events Related m q s t
    Says (some u) = FirstUnrelated u

    abbrev PairAnswer : Option (List ℕ) → Type 0
    PairAnswer o =
        Answer (next_pair m q) (s, t) (bad_pair related m q) events same_pair same_pair_iff (n * k) o

    says : (o : Option (List ℕ)) → PairAnswer o → Says o
    unfolding Answer Says
    says none f = λ w v a l. related_if_not_not (m.value (after m s w) a) (q.value (after q t w) a)
        (λ g. f (reverse w) a (word_reverse events w v) l ((bad_iff w a).1 g))
    says (some u) f =
        record {
          before = f.0;
          last = f.1;
          ends = f.2;
          events_of = f.3;
          unrelated = (bad_iff_reversed f.0 f.1).0 f.4;
          few_events = omega (arith, f.5, few);
          first = λ w e h g.
              let p : reverse (w ++ (e ∷ [])) ≡ e ∷ reverse w = reverse-append w (e ∷ []) in
              (no_later_iff_number events (reverse u) (w ++ (e ∷ [])) (word_reverse events u f.3) h).1
              (rw (reverse-reverse u, p)
              (f.6 (reverse w) e (word_reverse events w (word_left events w (e ∷ []) h)) (word_right events w (e ∷ []) h).0 ((bad_iff w e).1 g)));
        }

    abbrev found : Option (List ℕ)
    found = first_bad (next_pair m q) (s, t) (bad_pair related m q) events P

    pub found_says : Says found
    found_says = says found (answer (next_pair m q) (s, t) (bad_pair related m q) events same_pair same_pair_iff (n * k) few)

    -- No word is found exactly where the values are related on every word.
    pub none_iff_related : (counterexample related m q events n k s t ≡ none) ↔ RelatedOnWords events Related m q s t
    unfolding Says
    none_iff_related = go found found_says
      where
        go : (o : Option (List ℕ)) → Says o → (in_play_order o ≡ none) ↔ RelatedOnWords events Related m q s t
        go none f = ((λ e. f), λ b. refl)
        go (some u) f = (
          (λ e. let z : ◌≡◌ {A = ℕ} 0 1 = cc in absurd (omega arith)),
          λ b. let h : Word events (f.last ∷ f.before) = subst (Word events) f.ends f.events_of in
              absurd (f.unrelated (b (reverse f.before) (word_reverse events f.before h.1) f.last h.0)),
        )

-- For the order of values: a word that is found is the first counterexample.
module _ {B : Type 0} (In : B → Type 0) (meet : B → B → B) (at_or_below : B → B → Bool)
    (decides : (b c : B) → T (at_or_below b c) ↔ AtOrBelow meet b c) (events n : ℕ) (m : Machine ℕ B) (k : ℕ) (q : Machine ℕ B)
    (runs_m : Runs events In (States n) m) (runs_q : Runs events In (States k) q) (s t : ℕ) (s_in : s < n) (t_in : t < k) where
  abbrev Unrelated : List ℕ → Type 0
  Unrelated = FirstUnrelated In (AtOrBelow meet) at_or_below decides events n m k q runs_m runs_q s t s_in t_in

  first_counterexample : (u : List ℕ) → Unrelated u → FirstCounterexample events meet m q s t (reverse u)
  first_counterexample u f =
      record {
        fails = record {
          events_of = word_reverse events u f.events_of;
          before = reverse f.before;
          last = f.last;
          ends = ap reverse f.ends ∙ reverse-cons f.last f.before;
          not_below = f.unrelated;
        };
        first = λ other c. subst⁻¹ (NoLater (reverse u)) c.ends
            (f.first c.before c.last (subst (Word events) c.ends c.events_of) c.not_below);
      }

  pub first_shown :
      (word : List ℕ) → counterexample at_or_below m q events n k s t ≡ some word →
      FirstCounterexample events meet m q s t word × (0 < length word) × (length word ≤ n * k)
  unfolding Says
  first_shown word e =
      go (found In (AtOrBelow meet) at_or_below decides events n m k q runs_m runs_q s t s_in t_in)
      (found_says In (AtOrBelow meet) at_or_below decides events n m k q runs_m runs_q s t s_in t_in) e
    where
      go :
          (o : Option (List ℕ)) → Says In (AtOrBelow meet) at_or_below decides events n m k q runs_m runs_q s t s_in t_in o → in_play_order o ≡ some word →
          FirstCounterexample events meet m q s t word × (0 < length word) × (length word ≤ n * k)
      go none f e = let z : ◌≡◌ {A = ℕ} 0 1 = cc in absurd (omega arith)
      go (some u) f e = let p : reverse u ≡ word = cc in
          subst (λ x. FirstCounterexample events meet m q s t x × (0 < length x) × (length x ≤ n * k)) p (
            first_counterexample u f,
            omega (arith, length-reverse u, ap length f.ends),
            omega (arith, length-reverse u, f.few_events),
          )
