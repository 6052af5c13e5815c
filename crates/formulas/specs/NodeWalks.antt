-- What a walk over nodes promises: its answer for every formula whose nodes stand there.
use mathlib.Core.{Path.{◌≡◌}, List.{List}, Option.{Option, none, some}}
use Rattle.std.specs.Prelude.{ℕ, ◌+◌, ◌≤◌, get_or, Option as StdOption, Some, None, Result}
use Rattle.theory.specs.Formula.{Formula, size}
use Rattle.refusal.specs.{RefusalAnswers.{judgement}}
use Rattle.formulas.specs.{NodeReading.{Reads}, RuleReading.{first_of, lowest_unbound, lowest_deep, lowest_unprotected}}
use Rattle.formulas.specs.RuleRefusal.{variables_refusal}
use Rattle.limits.specs.Limits.{binder_limit}
use Rattle.formulas.specs.declared.Faults.{Faults}
use Rattle.refusal.specs.declared.Refusal.{Refusal}

-- A note as a place.
unfoldable pub noted : StdOption ℕ → Option ℕ
noted None = none
noted (Some i) = some i

-- A note keeps the first place: what it is after a place was looked for, by what it was before.
abbrev pub Keeps : Option ℕ → StdOption ℕ → StdOption ℕ → Type 0
Keeps place before after = noted after ≡ first_of (noted before) place

-- `judge at φ`: the lowest node at fault in φ that stands at node `at`. For each formula that stands there, the walk's answer is the
-- node after it, and the lowest node at fault is noted.
unfoldable pub WalkJudged : (ℕ → ℕ) → (ℕ → ℕ) → (ℕ → ℕ) → (ℕ → Formula ℕ → Option ℕ) → ℕ → ℕ → StdOption ℕ → StdOption ℕ → ℕ → Type 0
WalkJudged kind first value judge at left before after r =
    (φ : Formula ℕ) → Reads kind first value at φ → size φ ≤ left → (r ≡ at + size φ) × Keeps (judge at φ) before after

-- The walk of 8, 23 and 9, with a note for each.
pub record Scanned (kind first : ℕ → ℕ) (depth near at left : ℕ) (before after : Faults) (r : ℕ) : Type 0 where
  pub low : at ≤ r
  pub high : r ≤ at + left
  pub unbound : (value : ℕ → ℕ) → WalkJudged kind first value (lowest_unbound depth) at left before.unbound after.unbound r
  pub deep : (value : ℕ → ℕ) → WalkJudged kind first value (lowest_deep binder_limit depth) at left before.too_deep after.too_deep r
  pub unprotected : (value : ℕ → ℕ) → WalkJudged kind first value (lowest_unprotected near) at left before.unprotected after.unprotected r

-- The answer of 8, 23 and 9, for the formula whose nodes these are.
unfoldable pub VariablesJudged : (ℕ → ℕ) → (ℕ → ℕ) → ℕ → Result (Unit {0}) Refusal → Type 0
VariablesJudged kind first count r =
    (value : ℕ → ℕ) (φ : Formula ℕ) → Reads kind first value 0 φ → size φ ≡ count → r ≡ judgement (variables_refusal φ)

-- Fields of nodes in lists, the field of node i at index i.
abbrev pub field : List ℕ → ℕ → ℕ
field fields i = get_or fields i 0
