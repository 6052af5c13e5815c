-- The value of a set on an event, node by node, and entries by state and then event (document 01, "Table of a rule": "the meet of the
-- O values for that event (top if none)").
use mathlib.Core.{Path.{◌≡◌}, Bool.{◌&&◌, cond}, List.{List}}
use Rattle.std.specs.Prelude.{ℕ, zero, suc, ◌+◌, ◌*◌, ◌/◌, ◌%◌, ◌≤◌, ◌<◌}
use lib.{Dec.{eqb}, ListN.{length, get_or}}
use Rattle.theory.specs.ReachableStates.{NodeSet}
use Rattle.synthesis.specs.{NodeWords.{row}, Exploring.{for_event}}
use Rattle.formulas.specs.NodeWalks.{field}

module _ (meet : ℕ → ℕ → ℕ) (top : ℕ) (kinds firsts values : List ℕ) where
  -- The meet of the values of the O nodes of D for e, of the c nodes from i on.
  abbrev pub meet_from : NodeSet → ℕ → ℕ → ℕ → ℕ
  meet_from D e i zero = top
  meet_from D e i (suc c) =
      let rest = meet_from D e (suc i) c in
      cond (D i && for_event kinds firsts 3 e i) (meet (field values i) rest) rest

  -- The value of a state that is kept.
  abbrev pub state_value : ℕ → List (List ℕ) → ℕ → ℕ → ℕ
  state_value count states l e = meet_from (row states l) e 0 count

-- The first m entries are those of f.
abbrev pub EntriesTo : (ℕ → ℕ → ℕ) → ℕ → ℕ → List ℕ → Type 0
EntriesTo f events m to = (x : ℕ) → x < m → get_or to x 0 ≡ f (x / events) (x % events)

-- The first m entries of state l are f's, and all others are as before.
pub record RowTo (f : ℕ → ℕ) (events l m : ℕ) (before after : List ℕ) : Type 0 where
  pub sized : length after ≡ length before
  pub entries : (e : ℕ) → e < m → get_or after (l * events + e) 0 ≡ f e
  pub below : (x : ℕ) → x < l * events → get_or after x 0 ≡ get_or before x 0
  pub above : (x : ℕ) → l * events + m ≤ x → get_or after x 0 ≡ get_or before x 0

-- Node i came to the row of state l: its value was met with the entry of its event.
abbrev pub Met : (ℕ → ℕ → ℕ) → List ℕ → List ℕ → ℕ → ℕ → ℕ → List ℕ → List ℕ → Type 0
Met meet firsts values events l i before after =
    RowTo
    (λ e. cond (eqb (field firsts i) e) (meet (field values i) (get_or before (l * events + e) 0)) (get_or before (l * events + e) 0))
    events l events before after
