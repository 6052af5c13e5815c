-- 7's walk over the kinds, one node after the other.
use mathlib.Core.{Path.{◌≡◌, ◌∙◌, ap}, Option.{none, some}}
use Prim.Native.Nat.{ℕ, zero, suc, ◌+◌, ◌-◌, ◌≤◌, ◌<◌}
use native.Mathlib.Omega.{arith}
use Rattle.std.specs.Prelude.{Option as StdOption, Some, None}
use Rattle.formulas.specs.declared.NodeKind.{NodeKind, TheVariants.{Truth, Variable, Transition, Output, Conjunction, Greatest}}
use Rattle.formulas.specs.RuleReading.{kind_of, awaited, end_fault}

-- At most one part more is awaited after a node than before it.
pub awaited_few : (k : StdOption NodeKind) (n : ℕ) → awaited k n ≤ n + 2
unfolding awaited
awaited_few (Some Truth) n = omega arith
awaited_few (Some Variable) n = omega arith
awaited_few (Some Transition) n = omega arith
awaited_few (Some Output) n = omega arith
awaited_few (Some Conjunction) n = omega arith
awaited_few (Some Greatest) n = omega arith
awaited_few None n = omega arith

module _ (kind : ℕ → ℕ) where
  step_by : (parts left i p l : ℕ) → parts ≡ suc p → left ≡ suc l → end_fault kind parts left i ≡ end_fault kind (awaited (kind_of (kind i)) p) l (suc i)
  unfolding end_fault
  step_by parts left i p l e d = ap (λ x. end_fault kind x left i) e ∙ ap (λ x. end_fault kind (suc p) x i) d

  -- One node, with `count` nodes in all.
  pub end_step :
      (parts count i : ℕ) → 0 < parts → i < count
      → end_fault kind parts (count - i) i ≡ end_fault kind (awaited (kind_of (kind i)) (parts - 1)) (count - (i + 1)) (i + 1)
  end_step parts count i h l =
      let s : suc i ≡ i + 1 = omega arith in
      step_by parts (count - i) i (parts - 1) (count - (i + 1)) (omega arith) (omega arith)
      ∙ ap (λ x. end_fault kind (awaited (kind_of (kind i)) (parts - 1)) (count - (i + 1)) x) s

  -- Nodes are left over.
  pub end_over : (parts left i : ℕ) → parts ≡ 0 → 0 < left → end_fault kind parts left i ≡ some i
  unfolding end_fault
  end_over parts zero i e h = absurd (omega arith)
  end_over parts (suc left) i e h = ap (λ x. end_fault kind x (suc left) i) e

  -- Nodes run out.
  pub end_short : (parts left i : ℕ) → 0 < parts → left ≡ 0 → end_fault kind parts left i ≡ some i
  unfolding end_fault
  end_short zero left i h e = absurd (omega arith)
  end_short (suc k) left i h e = ap (λ x. end_fault kind (suc k) x i) e

  -- Neither.
  pub end_none : (parts left i : ℕ) → parts ≡ 0 → left ≡ 0 → end_fault kind parts left i ≡ none
  unfolding end_fault
  end_none parts left i e d = ap (λ x. end_fault kind x left i) e ∙ ap (λ x. end_fault kind 0 x i) d
