-- A search for the lowest place.
use mathlib.Core.{Path.{◌≡◌, refl, sym, ◌∙◌, ap, ap₂}, Bool.{Bool, true, false, cond}, Option.{Option, none, some}}
use Prim.Native.Nat.{ℕ, zero, suc, ◌+◌, ◌-◌, ◌≤◌, ◌<◌}
use native.Mathlib.Omega.{arith}
use lib.Dec.{eqb}
use borrow.Author.Tests.{eqb-true, eqb-false}
use Rattle.formulas.specs.RuleReading.{lowest_from}

module _ (test : ℕ → Bool) where
  lowest_by : (left i l : ℕ) → left ≡ suc l → lowest_from test left i ≡ cond (test i) (some i) (lowest_from test l (suc i))
  unfolding lowest_from
  lowest_by left i l e = ap (λ x. lowest_from test x i) e

  -- The test is true here.
  pub lowest_here : (count i : ℕ) → i < count → test i ≡ true → lowest_from test (count - i) i ≡ some i
  lowest_here count i h e =
      lowest_by (count - i) i (count - (i + 1)) (omega arith) ∙ ap (λ b. cond b (some i) (lowest_from test (count - (i + 1)) (suc i))) e

  -- It is false here.
  pub lowest_next : (count i : ℕ) → i < count → test i ≡ false → lowest_from test (count - i) i ≡ lowest_from test (count - (i + 1)) (i + 1)
  lowest_next count i h e =
      let s : suc i ≡ i + 1 = omega arith in
      lowest_by (count - i) i (count - (i + 1)) (omega arith)
      ∙ ap (λ b. cond b (some i) (lowest_from test (count - (i + 1)) (suc i))) e
      ∙ ap (lowest_from test (count - (i + 1))) s

  pub lowest_end : (left i : ℕ) → left ≡ 0 → lowest_from test left i ≡ none
  unfolding lowest_from
  lowest_end left i e = ap (λ x. lowest_from test x i) e

  -- A place and all later ones.
  here_or_later : (i j : ℕ) → test i ≡ false → (suc i ≤ j → test j ≡ false) → i ≤ j → test j ≡ false
  here_or_later i j t later l = go (eqb j i) refl
    where
      go : (b : Bool) → eqb j i ≡ b → test j ≡ false
      go true x = ap test (eqb-true j i x) ∙ t
      go false x = let ne : ¬ (j ≡ i) = eqb-false j i x in later (omega arith)

  -- Nothing is found: the test is false everywhere.
  clear_step :
      (b : Bool) (i j : ℕ) (rest : Option ℕ) → test i ≡ b → cond b (some i) rest ≡ none → (rest ≡ none → suc i ≤ j → test j ≡ false) → i ≤ j
      → test j ≡ false
  clear_step true i j rest t e later l = let z : ◌≡◌ {A = ℕ} 0 1 = cc in absurd (omega arith)
  clear_step false i j rest t e later l = here_or_later i j t (later e) l

  pub lowest_clear : (left i : ℕ) → lowest_from test left i ≡ none → (j : ℕ) → i ≤ j → j < i + left → test j ≡ false
  unfolding lowest_from
  lowest_clear zero i e j l h = absurd (omega arith)
  lowest_clear (suc left) i e j l h =
      clear_step (test i) i j (lowest_from test left (suc i)) refl e (λ d u. lowest_clear left (suc i) d j u (omega arith)) l

  -- A place is found: the test is true there, and false before.
  pub record FoundFrom (i left p : ℕ) : Type 0 where
    pub holds : test p ≡ true
    pub low : i ≤ p
    pub high : p < i + left
    pub before : (j : ℕ) → i ≤ j → j < p → test j ≡ false

  found_step :
      (b : Bool) (left i p : ℕ) (rest : Option ℕ) → test i ≡ b → cond b (some i) rest ≡ some p → (rest ≡ some p → FoundFrom (suc i) left p)
      → FoundFrom i (suc left) p
  found_step true left i p rest t e later =
      let q : i ≡ p = cc in
      record { holds = ap test (sym q) ∙ t; low = omega (arith, q); high = omega (arith, q); before = λ j l h. absurd (omega (arith, q)) }
  found_step false left i p rest t e later =
      let w : FoundFrom (suc i) left p = later e in
      record {
        holds = w.holds;
        low = omega (arith, w.low);
        high = omega (arith, w.high);
        before = λ j l h. here_or_later i j t (λ u. w.before j u h) l;
      }

  pub lowest_found : (left i p : ℕ) → lowest_from test left i ≡ some p → FoundFrom i left p
  unfolding lowest_from
  lowest_found zero i p e = let z : ◌≡◌ {A = ℕ} 0 1 = cc in absurd (omega arith)
  lowest_found (suc left) i p e =
      found_step (test i) left i p (lowest_from test left (suc i)) refl e (λ d. lowest_found left (suc i) p d)

-- Tests that agree find the same place.
pub lowest_same :
    (test other : ℕ → Bool) (left i : ℕ) → ((j : ℕ) → i ≤ j → j < i + left → test j ≡ other j) → lowest_from test left i ≡ lowest_from other left i
unfolding lowest_from
lowest_same test other zero i h = refl
lowest_same test other (suc left) i h =
    ap₂ (λ b o. cond b (some i) o) (h i (omega arith) (omega arith)) (lowest_same test other left (suc i) (λ j l u. h j (omega arith) (omega arith)))
