-- From what the walks and loops answer to the formula's table.
use mathlib.Core.{Path.{◌≡◌, sym, ◌∙◌, ap, ap₂, subst, fun_ext}, Bool.{Bool}, List.{List, []}}
use Prim.Native.Nat.{ℕ, ◌*◌, ◌/◌, ◌%◌, ◌<◌, ◌≤◌}
use lib.ListN.{length, get_or}
use Rattle.limits.specs.Limits.{node_limit}
use Rattle.theory.specs.Formula.{Formula, size}
use Rattle.theory.specs.MealyMachine.{Machine}
use Rattle.theory.specs.ReachableStates.{value_of_set}
use Rattle.theory.specs.Exploration.{explored, numbered, member, bits, same_bits, bit_machine, first_bits}
use Rattle.formulas.specs.{NodeReading.{Reads}, NodeWalks.{field}, declared.Nodes.{Nodes}}
use Rattle.formulas.proofs.Walking.{size_positive}
use Rattle.synthesis.specs.{NodeWords.{set_bits, row, bits_at}, KeptDemands.{RowsKept, KeepsDemands}}
use Rattle.synthesis.specs.{Exploring.{next_bits, Kept, Counted, sequences}, TableEntries.{state_value, EntriesTo}}
use Rattle.synthesis.specs.{FormulaTable.{formula_states, formula_table}, MadeTable.{Tabled, Tables}}
use Rattle.synthesis.proofs.{NodeWords.{member_set_bits}, KeptSets.{kept_first}, Stepping.{stepped_moved}, TableEntries.{value_from}}

-- What the parts of the code answer, for some count of nodes.
pub record Parts (kinds firsts fields : List ℕ) (rows states : List (List ℕ)) (meet : ℕ → ℕ → ℕ) (top events limit n : ℕ)
    (values nexts : List ℕ) (count : ℕ) : Type 0 where
  pub counted :
      Counted (next_bits kinds firsts rows count) (bits_at rows 0) events limit
      (sequences (next_bits kinds firsts rows count) (bits_at rows 0) events limit) n (n * events) states nexts
  pub valued : n ≤ limit → EntriesTo (state_value meet top kinds firsts fields count states) events (n * events) values

module _ (kinds firsts fields : List ℕ) (rows states : List (List ℕ)) (meet : ℕ → ℕ → ℕ) (top events limit n : ℕ)
    (values nexts : List ℕ) (φ : Formula ℕ) (d : Reads (field kinds) (field firsts) (field fields) 0 φ) (kept : RowsKept rows φ)
    (p : Parts kinds firsts fields rows states meet top events limit n values nexts (size φ)) where
  abbrev next : List Bool → ℕ → List Bool
  next = next_bits kinds firsts rows (size φ)

  abbrev start : List Bool
  start = bits_at rows 0

  next_is : next ≡ (bit_machine node_limit meet top φ).next
  unfolding next_bits
  next_is =
      fun_ext λ L. fun_ext λ e.
      ap (bits node_limit 0) (stepped_moved kinds firsts rows (field fields) φ d kept (member L) e)

  start_is : start ≡ first_bits node_limit meet top φ
  unfolding set_bits
  start_is = ap (bits node_limit 0) (kept 0 (size_positive φ) ∙ kept_first [] 0 φ)

  abbrev m : Machine (List Bool) ℕ
  m = record { value = (bit_machine node_limit meet top φ).value; next = next }

  table_is : numbered same_bits m start (sequences next start events limit) ≡ formula_table meet top φ events limit
  unfolding sequences formula_table
  table_is =
      ap₂ (λ (h : List Bool → ℕ → List Bool) (x : List Bool).
      numbered same_bits (record { value = (bit_machine node_limit meet top φ).value; next = h }) x (explored same_bits h x events limit))
      next_is start_is

  length_is : length (sequences next start events limit) ≡ formula_states meet top φ events limit
  unfolding sequences formula_states
  length_is =
      ap₂ (λ (h : List Bool → ℕ → List Bool) (x : List Bool). length (explored same_bits h x events limit)) next_is start_is

  module _ (small : n ≤ limit) where
    k : Kept next start events (sequences next start events limit) n (n * events) states nexts
    k = p.counted.all small

    value_at : EntriesTo (formula_table meet top φ events limit).value events (n * events) values
    value_at x h =
        let l : x / events < n = (k.entry x h).of_state in
        p.valued small x h
        ∙ value_from meet top kinds firsts fields (row states (x / events)) (x % events) φ d
        ∙ ap (λ D. value_of_set meet top φ D (x % events))
        (sym (member_set_bits (get_or states (x / events) [])) ∙ ap member (k.state (x / events) l))
        ∙ ap (λ T. T.value (x / events) (x % events)) table_is

    next_at : EntriesTo (formula_table meet top φ events limit).next events (n * events) nexts
    next_at x h = sym (k.entry x h).number ∙ ap (λ T. T.next (x / events) (x % events)) table_is

  tabled : Tabled meet top φ events limit values nexts n
  tabled =
      record {
        at_most = p.counted.at_most;
        states = λ h. sym length_is ∙ (p.counted.all h).count;
        more = λ h. subst (λ x. limit < x) length_is (p.counted.more h);
        values_are = value_at;
        nexts_are = next_at;
      }

pub tables :
    (nodes : Nodes) (rows states : List (List ℕ)) (meet : ℕ → ℕ → ℕ) (top events limit n : ℕ) (values nexts : List ℕ) →
    KeepsDemands nodes.kinds nodes.firsts nodes.count rows →
    Counted (next_bits nodes.kinds nodes.firsts rows nodes.count) (bits_at rows 0) events limit
    (sequences (next_bits nodes.kinds nodes.firsts rows nodes.count) (bits_at rows 0) events limit) n (n * events) states nexts →
    (n ≤ limit → EntriesTo (state_value meet top nodes.kinds nodes.firsts nodes.values nodes.count states) events (n * events) values) →
    Tables nodes meet top events limit values nexts n
tables nodes rows states meet top events limit n values nexts keeps co va φ d q shallow closed guarded =
    tabled nodes.kinds nodes.firsts nodes.values rows states meet top events limit n values nexts φ d
    (keeps (field nodes.values) φ d q shallow closed guarded)
    (subst (Parts nodes.kinds nodes.firsts nodes.values rows states meet top events limit n values nexts) (sym q)
    (record { counted = co; valued = va }))
