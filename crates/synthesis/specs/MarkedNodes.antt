-- The nodes of one kind as marks, and walks over the nodes of a set, the last node first, a word of 64 at a time.
use mathlib.Core.{Path.{◌≡◌}, Bool.{true, false, ◌&&◌}, List.{List}}
use Rattle.std.specs.Prelude.{ℕ, suc, ◌-◌, ◌≤◌, ◌<◌, ltb, eqb}
use Rattle.limits.specs.Limits.{node_limit}
use Rattle.theory.specs.ReachableStates.{NodeSet}
use Rattle.formulas.specs.NodeWalks.{field}
use Rattle.synthesis.specs.NodeWords.{bit_at, set_of}

-- r is the last set bit of a word of 64 bits.
pub record LastSet (word r : ℕ) : Type 0 where
  pub low : r < 64
  pub here : bit_at word r ≡ 1
  pub after : (j : ℕ) → r < j → j < 64 → bit_at word j ≡ 0

-- The nodes of one word, the first of which is base.
unfoldable pub word_set : ℕ → ℕ → NodeSet
word_set word base j = eqb (bit_at word (j - base)) 1

-- The marked nodes are those of kind k among the first n.
pub record Marks (kinds : List ℕ) (n k : ℕ) (marks : List ℕ) : Type 0 where
  pub few : n ≤ node_limit
  pub there : (j : ℕ) → j < node_limit → set_of marks j ≡ ltb j n && eqb (field kinds j) k

-- The marked nodes of D.
abbrev pub marked_in : NodeSet → List ℕ → NodeSet
marked_in D marks j = D j && set_of marks j

-- From `before` the nodes of D below m came one by one, the last first, down to n; `step i` is what node i does.
pub data Came {A : Type 0} (step : ℕ → A → A → Type 0) (D : NodeSet) (m : ℕ) (before : A) : ℕ → A → Type 0 where
  none_yet : Came step D m before m before
  not_in : {n : ℕ} {a : A} → D n ≡ false → Came step D m before (suc n) a → Came step D m before n a
  node_in : {n : ℕ} {a b : A} → D n ≡ true → step n a b → Came step D m before (suc n) a → Came step D m before n b
