-- Walks over the nodes of a set, the last first: over the set bits of a word, over the words of marked nodes, and what all of them
-- together have done; and how marks are made.
use mathlib.Core.{Path.{◌≡◌, refl, sym, ◌∙◌, ap, ap₂, subst}, Bool.{Bool, true, false, ◌&&◌, ◌||◌, true≢false, and-true, and-false, or-false}, List.{List}}
use Prim.Native.Nat.{ℕ, zero, suc, ◌+◌, ◌*◌, ◌-◌, ◌/◌, ◌%◌, ◌^◌, ◌≤◌, ◌<◌}
use native.Mathlib.{Decide.{dec_lt, ℕ_discrete}, Nat.{mod-lt, mod-eq_of_lt, div-eq_of_lt, zero-div}, Omega.{arith}}
use borrow.Author.Tests.{lt-ltb, le-ltb, ltb-true, eq-eqb, ne_eqb}
use lib.{Bits.{bit_and, bit_or}, Dec.{eqb, ltb}, ListN.{length, get_or, set}, Pow.{pow_pos, mod-mod-pow}}
use Rattle.limits.specs.Limits.{node_limit}
use Rattle.theory.specs.{ReachableStates.{NodeSet}, DemandSets.{empty, union, only}}
use Rattle.formulas.specs.NodeWalks.{field}
use Rattle.synthesis.specs.{NodeWords.{set_words, bit_at, set_of}, Exploring.{for_event}}
use Rattle.synthesis.specs.MarkedNodes.{LastSet, word_set, Marks, marked_in, Came, none_yet, not_in, node_in}
use Rattle.synthesis.proofs.{Bits.{low_bits, no_rest, and_bit}, NodeWords.{in_words, no_words, set_insert}}

-- ---- walks

module _ {A : Type 0} {step : ℕ → A → A → Type 0} {m : ℕ} {before : A} where
  came_low : {D : NodeSet} {n : ℕ} {l : A} → Came step D m before n l → n ≤ m
  came_low none_yet = omega arith
  came_low (not_in e c) = omega (arith, came_low c)
  came_low (node_in e s c) = omega (arith, came_low c)

  -- Nodes that are not in the set are passed over.
  skip_by :
      {D : NodeSet} {l : A} (d r : ℕ) → ((j : ℕ) → r ≤ j → j < r + d → D j ≡ false) →
      Came step D m before (r + d) l → Came step D m before r l
  skip_by {D} {l} zero r f c = let z : r + zero ≡ r = omega arith in subst (λ x. Came step D m before x l) z c
  skip_by {D} {l} (suc d) r f c =
      let z : r + suc d ≡ suc r + d = omega arith in
      not_in (f r (omega arith) (omega arith))
      (skip_by d (suc r) (λ j h u. f j (omega arith) (omega arith)) (subst (λ x. Came step D m before x l) z c))

  came_skip :
      {D : NodeSet} {l : A} (n r : ℕ) → r ≤ n → ((j : ℕ) → r ≤ j → j < n → D j ≡ false) →
      Came step D m before n l → Came step D m before r l
  came_skip {D} {l} n r h f c =
      let z : n ≡ r + (n - r) = omega arith in
      skip_by (n - r) r (λ j u v. f j u (omega arith)) (subst (λ x. Came step D m before x l) z c)

-- After one walk another one, over a set that agrees with the first walk's.
came_more :
    {A : Type 0} {step : ℕ → A → A → Type 0} {D E : NodeSet} {m n : ℕ} {before between : A} {k : ℕ} {l : A} →
    ((j : ℕ) → k ≤ j → j < n → D j ≡ E j) → Came step E m before n between → Came step D n between k l → Came step E m before k l
came_more f old none_yet = old
came_more {k = k} f old (not_in e c) =
    not_in (sym (f k (omega arith) (came_low c)) ∙ e) (came_more (λ j h u. f j (omega arith) u) old c)
came_more {k = k} f old (node_in e s c) =
    node_in (sym (f k (omega arith) (came_low c)) ∙ e) s (came_more (λ j h u. f j (omega arith) u) old c)

-- ---- the set bits of a word

-- The nodes from bit `end` of a word on came, and `rest` is what is left of it.
pub record WordWalk {A : Type 0} (step : ℕ → A → A → Type 0) (word base : ℕ) (before : A) (rest end : ℕ) (l : A) : Type 0 where
  pub high : end ≤ 64
  pub left : rest ≡ word % 2 ^ end
  pub came : Came step (word_set word base) (base + 64) before (base + end) l

module _ {A : Type 0} (step : ℕ → A → A → Type 0) (word base : ℕ) (before : A) where
  pub walk_start : word < 2 ^ 64 → WordWalk step word base before word 64 before
  walk_start h = record { high = omega arith; left = sym (mod-eq_of_lt h); came = none_yet }

  none_there : (j : ℕ) → bit_at word (j - base) ≡ 0 → word_set word base j ≡ false
  unfolding word_set
  none_there j e = ap (λ x. eqb x 1) e

  module _ (rest end : ℕ) (l : A) (walk : WordWalk step word base before rest end l) where
    -- The last set bit of what is left.
    module _ (r : ℕ) (last : LastSet rest r) where
      pub walk_less : r < end
      walk_less = go (dec_lt r end)
        where
          small : rest < 2 ^ end
          small = rw walk.left (mod-lt word (pow_pos end))

          go : Dec (r < end) → r < end
          go (yes h) = h
          go (no h) = absurd (omega (arith, last.here, no_rest rest end r (div-eq_of_lt small) (omega arith)))

      same_low : (j : ℕ) → j < end → bit_at rest j ≡ bit_at word j
      same_low j h = ap (λ x. bit_at x j) walk.left ∙ low_bits word end j h

      left_below : rest % 2 ^ r ≡ word % 2 ^ r
      left_below =
          let z : end ≡ (end - r) + r = omega (arith, walk_less) in
          ap (λ x. x % 2 ^ r) (walk.left ∙ ap (λ x. word % 2 ^ x) z) ∙ mod-mod-pow word (end - r) r

      last_there : word_set word base (base + r) ≡ true
      unfolding word_set
      last_there =
          let z : base + r - base ≡ r = omega arith in
          ap (λ x. eqb (bit_at word x) 1) z ∙ eq-eqb (bit_at word r) 1 (sym (same_low r walk_less) ∙ last.here)

      -- Its node comes, and it is taken off.
      pub walk_next :
          (p : ℕ) (after : A) → p ≡ 2 ^ r → step (base + r) l after → WordWalk step word base before (rest % p) r after
      walk_next p after e s =
          record {
            high = omega (arith, last.low);
            left = ap (λ x. rest % x) e ∙ left_below;
            came = node_in last_there s
                (came_skip (base + end) (suc (base + r)) (omega (arith, walk_less))
                (λ j h u. none_there j
                (sym (same_low (j - base) (omega arith)) ∙ last.after (j - base) (omega arith) (omega (arith, walk.high)))) walk.came);
          }

    -- Nothing is left.
    pub walk_done : rest ≡ 0 → Came step (word_set word base) (base + 64) before base l
    unfolding bit_at
    walk_done e =
        came_skip (base + end) base (omega arith)
        (λ j h u. none_there j
        (sym (low_bits word end (j - base) (omega arith)) ∙ ap (λ x. bit_at x (j - base)) (sym walk.left ∙ e) ∙ no_bit (j - base)))
        walk.came
      where
        no_bit : (j : ℕ) → bit_at 0 j ≡ 0
        no_bit j = ap (λ x. x % 2) (zero-div (2 ^ j))

-- ---- the words of a set

module _ {A : Type 0} (step : ℕ → A → A → Type 0) (set marks : List ℕ) (before : A) where
  word_marked :
      (v j : ℕ) → v < set_words → v * 64 ≤ j → j < v * 64 + 64 →
      word_set (bit_and (get_or set v 0) (get_or marks v 0)) (v * 64) j ≡ marked_in (set_of set) marks j
  unfolding word_set
  word_marked v j h u l =
      let d : j / 64 ≡ v = omega arith in
      let m : j % 64 ≡ j - v * 64 = omega arith in
      and_bit (get_or set v 0) (get_or marks v 0) (j - v * 64)
      ∙ ap₂ ◌&&◌
      (sym (in_words set j (omega arith) ∙ ap₂ (λ x y. eqb (bit_at (get_or set x 0) y) 1) d m))
      (sym (in_words marks j (omega arith) ∙ ap₂ (λ x y. eqb (bit_at (get_or marks x 0) y) 1) d m))

  -- One word more.
  pub words_next :
      (w : ℕ) (l after : A) → 0 < w → w ≤ set_words →
      Came step (marked_in (set_of set) marks) node_limit before (w * 64) l →
      Came step (word_set (bit_and (get_or set (w - 1) 0) (get_or marks (w - 1) 0)) ((w - 1) * 64)) ((w - 1) * 64 + 64) l ((w - 1) * 64) after →
      Came step (marked_in (set_of set) marks) node_limit before ((w - 1) * 64) after
  words_next w l after some few old new =
      let z : w * 64 ≡ (w - 1) * 64 + 64 = omega arith in
      came_more (λ j h u. word_marked (w - 1) j (omega arith) h u)
      (subst (λ x. Came step (marked_in (set_of set) marks) node_limit before x l) z old) new

  -- No word is left.
  pub words_done :
      (w : ℕ) (l : A) → w ≡ 0 → Came step (marked_in (set_of set) marks) node_limit before (w * 64) l →
      Came step (marked_in (set_of set) marks) node_limit before 0 l
  words_done w l e c = subst (λ x. Came step (marked_in (set_of set) marks) node_limit before (x * 64) l) e c

-- ---- all marked nodes of a set

hit_no : (d k f : Bool) → d && k ≡ false → d && (k && f) ≡ false
hit_no true true f e = absurd (true≢false e)
hit_no true false f e = refl
hit_no false k f e = refl

hit_yes : (d k f : Bool) → d && k ≡ true → d && (k && f) ≡ f
hit_yes true true f e = refl
hit_yes true false f e = absurd (true≢false (sym e))
hit_yes false k f e = absurd (true≢false (sym e))

below_mark : (d b k : Bool) → d && (b && k) ≡ true → b ≡ true
below_mark true true k e = refl
below_mark true false k e = absurd (true≢false (sym e))
below_mark false b k e = absurd (true≢false (sym e))

-- What holds from `count` on, and one node more each time, holds from node 0 on, after all marked nodes came: P n is that it holds from n on.
module _ {A : Type 0} (kinds firsts : List ℕ) (count k : ℕ) (marks : List ℕ) (marked : Marks kinds count k marks) (D : NodeSet)
    (step : ℕ → A → A → Type 0) (before : A) (P : ℕ → A → Type 0)
    (pass : (n : ℕ) (l : A) → n < count → ((e : ℕ) → D n && for_event kinds firsts k e n ≡ false) → P (suc n) l → P n l)
    (come : (n : ℕ) (l after : A) → n < count → ((e : ℕ) → D n && for_event kinds firsts k e n ≡ eqb (field firsts n) e) →
    step n l after → P (suc n) l → P n after) where
  abbrev upto : ℕ → ℕ
  upto n = n - (n - count)

  is_marked : (n : ℕ) (t : Bool) → n < node_limit → marked_in D marks n ≡ t → D n && (ltb n count && eqb (field kinds n) k) ≡ t
  is_marked n t h e = ap (λ b. D n && b) (sym (marked.there n h)) ∙ e

  in_kind : (n : ℕ) (t : Bool) → n < count → D n && (ltb n count && eqb (field kinds n) k) ≡ t → D n && eqb (field kinds n) k ≡ t
  in_kind n t h e = ap (λ b. D n && (b && eqb (field kinds n) k)) (sym (lt-ltb n count h)) ∙ e

  pass_one : (n : ℕ) (l : A) → n < node_limit → marked_in D marks n ≡ false → P (upto (suc n)) l → P (upto n) l
  unfolding for_event
  pass_one n l u e x = one (dec_lt n count)
    where
      one : Dec (n < count) → P (upto n) l
      one (yes h) =
          let z : n ≡ upto n = omega arith in
          let y : upto (suc n) ≡ suc n = omega arith in
          subst (λ i. P i l) z
          (pass n l h (λ v. hit_no (D n) (eqb (field kinds n) k) (eqb (field firsts n) v) (in_kind n false h (is_marked n false u e)))
          (subst (λ i. P i l) y x))
      one (no h) = let z : upto (suc n) ≡ upto n = omega arith in subst (λ i. P i l) z x

  come_one :
      (n : ℕ) (l after : A) → n < node_limit → marked_in D marks n ≡ true → step n l after → P (upto (suc n)) l → P (upto n) after
  unfolding for_event
  come_one n l after u e s x =
      let t = is_marked n true u e in
      let h : n < count = ltb-true n count (below_mark (D n) (ltb n count) (eqb (field kinds n) k) t) in
      let z : n ≡ upto n = omega arith in
      let y : upto (suc n) ≡ suc n = omega arith in
      subst (λ i. P i after) z
      (come n l after h (λ v. hit_yes (D n) (eqb (field kinds n) k) (eqb (field firsts n) v) (in_kind n true h t)) s (subst (λ i. P i l) y x))

  go : {n : ℕ} {l : A} → P count before → Came step (marked_in D marks) node_limit before n l → P (upto n) l
  go start none_yet = let z : count ≡ upto node_limit = omega (arith, marked.few) in subst (λ i. P i before) z start
  go start (not_in {n} {a} e c) = pass_one n a (came_low c) e (go start c)
  go start (node_in {n} {a} {b} e s c) = come_one n a b (came_low c) e s (go start c)

  pub all_marked : (l : A) → P count before → Came step (marked_in D marks) node_limit before 0 l → P 0 l
  all_marked l start c = let z : upto 0 ≡ 0 = omega arith in subst (λ x. P x l) z (go start c)

-- ---- marks made one by one

module _ (kinds : List ℕ) (k : ℕ) (marks : List ℕ) where
  pub marks_none : ((w : ℕ) → w < set_words → get_or marks w 0 ≡ 0) → Marks kinds 0 k marks
  unfolding empty
  marks_none f =
      record {
        few = omega arith;
        there = λ j h. ap (λ D. D j) (no_words marks f) ∙ sym (ap (λ t. t && eqb (field kinds j) k) (le-ltb j 0 (omega arith)));
      }

  -- Node i: marked where it is of the kind.
  module _ (i : ℕ) (small : i < node_limit) (old : Marks kinds i k marks) where
    more :
        (after : List ℕ) → ((j : ℕ) → set_of after j ≡ set_of marks j || (eqb i j && eqb (field kinds i) k)) →
        Marks kinds (i + 1) k after
    more after f = record { few = omega arith; there = λ j h. f j ∙ ap (λ t. t || (eqb i j && eqb (field kinds i) k)) (old.there j h) ∙ one j }
      where
        one : (j : ℕ) → (ltb j i && eqb (field kinds j) k) || (eqb i j && eqb (field kinds i) k) ≡ ltb j (i + 1) && eqb (field kinds j) k
        one j = go (dec_lt j i) (ℕ_discrete i j)
          where
            go :
                Dec (j < i) → Dec (i ≡ j) →
                (ltb j i && eqb (field kinds j) k) || (eqb i j && eqb (field kinds i) k) ≡ ltb j (i + 1) && eqb (field kinds j) k
            go (yes u) q =
                rw (lt-ltb j i u, lt-ltb j (i + 1) (omega arith), ne_eqb i j (λ e. omega (arith, e))) (or-false (eqb (field kinds j) k))
            go (no u) (yes q) =
                rw (le-ltb j i (omega arith), lt-ltb j (i + 1) (omega arith), eq-eqb i j q) (ap (λ x. eqb (field kinds x) k) q)
            go (no u) (no q) = rw (le-ltb j i (omega arith), le-ltb j (i + 1) (omega (arith, q)), ne_eqb i j q)

    pub marks_with :
        (p : ℕ) → length marks ≡ set_words → p ≡ 2 ^ (i % 64) → field kinds i ≡ k →
        Marks kinds (i + 1) k (set marks (i / 64) (bit_or (get_or marks (i / 64) 0) p))
    unfolding union only
    marks_with p sized power here =
        more (set marks (i / 64) (bit_or (get_or marks (i / 64) 0) p))
        (λ j. ap (λ y. set_of (set marks (i / 64) (bit_or (get_or marks (i / 64) 0) y)) j) power
        ∙ ap (λ D. D j) (set_insert marks i small (omega arith))
        ∙ ap (λ t. set_of marks j || t) (sym (ap (λ t. eqb i j && t) (eq-eqb (field kinds i) k here) ∙ and-true (eqb i j))))

    pub marks_without : ¬ (field kinds i ≡ k) → Marks kinds (i + 1) k marks
    marks_without other =
        more marks
        (λ j. sym (ap (λ t. set_of marks j || t) (ap (λ t. eqb i j && t) (ne_eqb (field kinds i) k other) ∙ and-false (eqb i j))
        ∙ or-false (set_of marks j)))
