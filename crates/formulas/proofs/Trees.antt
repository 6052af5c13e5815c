-- The loop of 6 and 7: every node is tested, and those up to the end of the first formula are counted.
use mathlib.Core.{Path.{◌≡◌, refl, sym, ◌∙◌, ap}, Bool.{Bool, false}}
use Prim.Native.Nat.{ℕ, ◌+◌, ◌-◌, ◌≤◌, ◌<◌}
use native.Mathlib.Omega.{arith}
use Rattle.formulas.specs.RuleReading.{lowest_from, kind_of, awaited, end_fault}
use Rattle.formulas.proofs.{Search.{lowest_next}, Ends.{awaited_few, end_step}}

-- Before node i: the search from i on and the walk from `used` on find what those from 0 on do.
module _ (test : ℕ → Bool) (kind : ℕ → ℕ) (count : ℕ) where
  pub record TreeTo (parts used i : ℕ) : Type 0 where
    pub within : i ≤ count
    pub behind : used ≤ i
    pub few : parts ≤ used + 1
    pub together : 0 < parts → used ≡ i
    pub search : lowest_from test (count - i) i ≡ lowest_from test count 0
    pub walk : end_fault kind parts (count - used) used ≡ end_fault kind 1 count 0

  pub tree_start : TreeTo 1 0 0
  tree_start =
      let e : count - 0 ≡ count = omega arith in
      record {
        within = omega arith;
        behind = omega arith;
        few = omega arith;
        together = λ h. refl;
        search = ap (λ n. lowest_from test n 0) e;
        walk = ap (λ n. end_fault kind 1 n 0) e;
      }

  module _ (parts used i : ℕ) (t : TreeTo parts used i) (h : i < count) (e : test i ≡ false) where
    -- A node of the formula.
    pub tree_node : (p : ℕ) → 0 < parts → p ≡ awaited (kind_of (kind i)) (parts - 1) → TreeTo p (used + 1) (i + 1)
    tree_node p l q =
        let u : used ≡ i = t.together l in
        record {
          within = omega arith;
          behind = omega (arith, t.behind);
          few = omega (arith, q, awaited_few (kind_of (kind i)) (parts - 1), t.few);
          together = λ m. omega (arith, u);
          search = sym (lowest_next test count i h e) ∙ t.search;
          walk =
              ap (λ x. end_fault kind x (count - (used + 1)) (used + 1)) (q ∙ ap (λ x. awaited (kind_of (kind x)) (parts - 1)) (sym u))
              ∙ sym (end_step kind parts count used l (omega (arith, u)))
              ∙ t.walk;
        }

    -- A node past its end.
    pub tree_over : ¬ (0 < parts) → TreeTo parts used (i + 1)
    tree_over l =
        record {
          within = omega arith;
          behind = omega (arith, t.behind);
          few = t.few;
          together = λ m. absurd (l m);
          search = sym (lowest_next test count i h e) ∙ t.search;
          walk = t.walk;
        }
