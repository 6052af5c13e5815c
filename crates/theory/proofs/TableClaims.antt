-- Each machine has one numbering and one table; the computed table of a formula is the formula's, and has its values.
use mathlib.Core.Logic.Iff
use mathlib.Core.{Path.{subst, subst⁻¹}, Logic.{◌↔◌}}
use Prim.Native.Nat.{ℕ, zero, ◌≤◌}
use Rattle.theory.specs.ValueSets.{MeetSemilattice}
use Rattle.theory.specs.Formula.{Formula, size, Answers}
use Rattle.theory.specs.FormulaClasses.{WellFormed}
use Rattle.theory.specs.{DemandSets.{set_machine, first_set}, ReachableStates.{ReachesAtMost, IsTable}}
use Rattle.theory.specs.Exploration.{same_bits, bit_machine, first_bits, state_count, table_of}
use Rattle.theory.specs.Claims.{NumberingClaim, TableClaim, TableValuesClaim}
use Rattle.theory.specs.MealyMachine.{Runs}
use Rattle.theory.proofs.{NodeSets.{shown_in}, Demands.{shown_is_value}, SetMachine.{table_of_iff, states_at_most_iff}}
use Rattle.theory.proofs.DemandClaims.{set_answers}
use Rattle.theory.proofs.ReachableStates.{numbering_unique, table_unique, table_nonempty, table_runs, table_values}
use Rattle.theory.proofs.Transport.{SameStates, same_states_sym, transport_at_most, transport_table}
use Rattle.theory.proofs.{ExploredStates.{explored_at_most, explored_table}, BitSets.{same_bits_iff, same_as_bits}}

pub numbering_claim : {B : Type 0} (In : B → Type 0) (meet : B → B → B) (top : B) (events : ℕ) → NumberingClaim In meet top events
numbering_claim In meet top events S m start = (numbering_unique events m start, table_unique events m start)

-- Of any formula, whether well-formed or not.
module _ {B : Type 0} (meet : B → B → B) (top : B) (events : ℕ) (φ : Formula B) (width limit : ℕ) (wide : size φ ≤ width) where
  to_bits : SameStates events (set_machine meet top φ) (first_set φ) (bit_machine width meet top φ) (first_bits width meet top φ)
  to_bits = same_as_bits width meet top φ wide events

  found :
      (state_count width meet top φ events limit ≤ limit) ↔
      ReachesAtMost events (bit_machine width meet top φ) (first_bits width meet top φ) limit
  found = explored_at_most same_bits same_bits_iff events (bit_machine width meet top φ) (first_bits width meet top φ) limit

  states_at_most :
      (state_count width meet top φ events limit ≤ limit) ↔ ReachesAtMost events (set_machine meet top φ) (first_set φ) limit
  states_at_most = (
    (λ few. transport_at_most (same_states_sym to_bits) limit (found.0 few)),
    λ r. found.1 (transport_at_most to_bits limit r),
  )

  is_table_of :
      state_count width meet top φ events limit ≤ limit →
      IsTable events (set_machine meet top φ) (first_set φ) (state_count width meet top φ events limit) (table_of width meet top φ events limit)
  is_table_of few =
      transport_table (same_states_sym to_bits) (state_count width meet top φ events limit) (table_of width meet top φ events limit)
      (explored_table same_bits same_bits_iff events (bit_machine width meet top φ) (first_bits width meet top φ) limit few)

pub table_claim :
    {B : Type 0} (In : B → Type 0) (meet : B → B → B) (top : B) (events : ℕ) →
    TableClaim In meet top events
table_claim In meet top events φ g width limit wide = (
  Iff.trans (states_at_most meet top events φ width limit wide)
      (Iff.symm (states_at_most_iff meet top φ g.guarded events limit)),
  λ few. (table_of_iff meet top φ g.guarded events (state_count width meet top φ events limit)
      (table_of width meet top φ events limit)).1 (is_table_of meet top events φ width limit wide few),
)

-- The table of a formula runs on its states and has the formula's values.
module _ {B : Type 0} (In : B → Type 0) (meet : B → B → B) (top : B) (laws : MeetSemilattice In meet top) (events : ℕ) where
  set_machine_runs :
      (φ : Formula B) → WellFormed events In φ → Runs events In (λ D. Unit {0}) (set_machine meet top φ)
  set_machine_runs φ g =
      record {
        value_in = λ D u e l.
            subst In (shown_is_value In meet top laws events φ g.fits D e) (shown_in meet top In laws events D e zero φ g.fits);
        next_in = λ D u e l. tt;
      }

  pub table_values_claim : TableValuesClaim In meet top laws events
  table_values_claim φ g n t h =
      let x : IsTable events (set_machine meet top φ) (first_set φ) n t = (table_of_iff meet top φ g.guarded events n t).0 h in (
        table_nonempty events (set_machine meet top φ) (first_set φ) n t x,
        table_runs events (set_machine meet top φ) (first_set φ) n t x In (λ D. Unit {0}) (set_machine_runs φ g) tt,
        λ w v e l. subst⁻¹ (Answers meet top φ w e) (table_values events (set_machine meet top φ) (first_set φ) n t x w v e l)
            (set_answers In meet top laws events φ g w e),
      )
