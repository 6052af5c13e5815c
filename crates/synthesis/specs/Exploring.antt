-- The machine of the rows, node by node, its sets as bits; and what the loops over states keep (document 01, "Table of a rule": the
-- states reached, and the next state of each).
use mathlib.Core.{Path.{◌≡◌}, Bool.{Bool, false, ◌&&◌, ◌||◌, cond}, List.{List, [], ◌∷◌}}
use Rattle.std.specs.Prelude.{ℕ, zero, suc, ◌+◌, ◌*◌, ◌/◌, ◌%◌, ◌≤◌, ◌<◌, Option as StdOption, Some, None}
use lib.{Dec.{eqb}, ListN.{length, get_or}}
use Rattle.limits.specs.Limits.{node_limit}
use Rattle.synthesis.specs.{NodeWords.{set_bits, row, bits_at}, MarkedNodes.{Marks}}
use Rattle.theory.specs.{ReachableStates.{NodeSet}, DemandSets.{union}, Exploration.{reached, add, explored, index, member, bits, same_bits}}
use Rattle.formulas.specs.NodeWalks.{field}

-- Some of the n numbers from i on.
abbrev pub some_in : (ℕ → Bool) → ℕ → ℕ → Bool
some_in p i zero = false
some_in p i (suc n) = p i || some_in p (suc i) n

-- Node i is of kind k, for event e.
unfoldable pub for_event : List ℕ → List ℕ → ℕ → ℕ → ℕ → Bool
for_event kinds firsts k e i = eqb (field kinds i) k && eqb (field firsts i) e

-- Node i is in D, a G for e, and its part demands node d.
abbrev pub brings : List ℕ → List ℕ → List (List ℕ) → NodeSet → ℕ → ℕ → ℕ → Bool
brings kinds firsts rows D e d i = (D i && for_event kinds firsts 2 e i) && row rows (suc i) d

-- The next set on e of what D has among the first n nodes.
unfoldable pub stepped : List ℕ → List ℕ → List (List ℕ) → ℕ → NodeSet → ℕ → NodeSet
stepped kinds firsts rows n D e d = some_in (brings kinds firsts rows D e d) 0 n

-- Node i was passed: the demands of its part came into the set of its event.
abbrev pub PassedStates : List ℕ → List (List ℕ) → ℕ → ℕ → List (List ℕ) → List (List ℕ) → Type 0
PassedStates firsts rows events i before after =
    (e : ℕ) → e < events → row after e ≡ cond (eqb (field firsts i) e) (union (row before e) (row rows (i + 1))) (row before e)

-- Set e of the sets is the next set of D on e, for each event, by each rule whose G nodes are marked.
abbrev pub NextSets : List ℕ → List ℕ → List (List ℕ) → NodeSet → ℕ → List (List ℕ) → Type 0
NextSets marks firsts rows D events sets =
    (kinds : List ℕ) (n : ℕ) → Marks kinds n 2 marks → (e : ℕ) → e < events → row sets e ≡ stepped kinds firsts rows n D e

unfoldable pub next_bits : List ℕ → List ℕ → List (List ℕ) → ℕ → List Bool → ℕ → List Bool
next_bits kinds firsts rows n L e = bits node_limit 0 (stepped kinds firsts rows n (member L) e)

-- The first of n states that is the set, or n.
pub record Found (states : List (List ℕ)) (n : ℕ) (set : List ℕ) (r : ℕ) : Type 0 where
  pub low : r ≤ n
  pub before : (j : ℕ) → j < r → bits_at states j ≡ set_bits set → ⊥
  pub here : r < n → bits_at states r ≡ set_bits set

module _ (next : List Bool → ℕ → List Bool) (start : List Bool) where
  -- The state that a sequence reaches, its last event first.
  abbrev pub state_of : List ℕ → List Bool
  state_of w = reached next start w

  -- P with the first c events after w.
  abbrev pub events_to : ℕ → List (List ℕ) → List ℕ → List (List ℕ)
  events_to zero P w = P
  events_to (suc c) P w = add same_bits next start (events_to c P w) (c ∷ w)

  module _ (events : ℕ) where
    -- Entry x, by state and then event, is the number of the next state.
    pub record Entry (P : List (List ℕ)) (n : ℕ) (nexts : List ℕ) (x : ℕ) : Type 0 where
      pub of_state : x / events < n
      pub to_state : get_or nexts x 0 < n
      pub number : index same_bits next start P (next (state_of (get_or P (x / events) [])) (x % events)) ≡ get_or nexts x 0

    -- The n states kept are those of the sequences, and the first m entries have their numbers.
    pub record Kept (P : List (List ℕ)) (n m : ℕ) (states : List (List ℕ)) (nexts : List ℕ) : Type 0 where
      pub count : length P ≡ n
      pub state : (j : ℕ) → j < n → bits_at states j ≡ state_of (get_or P j [])
      pub entry : (x : ℕ) → x < m → Entry P n nexts x

    -- n is the length where at most `limit` states are kept, and above the limit where there are more.
    pub record Counted (limit : ℕ) (P : List (List ℕ)) (n m : ℕ) (states : List (List ℕ)) (nexts : List ℕ) : Type 0 where
      pub at_most : n ≤ suc limit
      pub all : n ≤ limit → Kept P n m states nexts
      pub more : n ≡ suc limit → limit < length P

-- The count that an answer says: above the limit where it gives none.
abbrev pub said : ℕ → StdOption ℕ → ℕ
said limit None = suc limit
said limit (Some n) = n

-- All events after sequence i.
abbrev pub Expanded :
    (List Bool → ℕ → List Bool) → ℕ → ℕ → ℕ → ℕ → List (List ℕ) → List ℕ → ℕ → List (List ℕ) → List ℕ → Type 0
Expanded next events limit i n states nexts r states' nexts' =
    (start : List Bool) (P : List (List ℕ)) → Kept next start events P n (i * events) states nexts →
    Counted next start events limit (events_to next start events P (get_or P i [])) r (i * events + events) states' nexts'

-- The same for each rule whose G nodes are marked.
abbrev pub MarkedExpanded :
    List ℕ → List ℕ → List (List ℕ) → ℕ → ℕ → ℕ → ℕ → List (List ℕ) → List ℕ → ℕ → List (List ℕ) → List ℕ → Type 0
MarkedExpanded marks firsts rows events limit i n states nexts r states' nexts' =
    (kinds : List ℕ) (count : ℕ) → Marks kinds count 2 marks →
    Expanded (next_bits kinds firsts rows count) events limit i n states nexts r states' nexts'

-- The first sequence to each state, in order; more than `limit` where there are more.
unfoldable pub sequences : (List Bool → ℕ → List Bool) → List Bool → ℕ → ℕ → List (List ℕ)
sequences next start events limit = explored same_bits next start events limit
