-- The claim on the formula of a table (specs/Claims).
use mathlib.Core.{Path.{◌≡◌, sym}, Bool.{Bool}, List.{List, [], reverse}}
use Prim.Native.Nat.{ℕ, ◌≤◌, ◌<◌}
use native.Mathlib.Omega.{arith}
use lib.ListN.{length, get_or, length-map}
use Rattle.theory.specs.ValueSets.{MeetSemilattice}
use Rattle.theory.specs.Formula.{Formula, size}
use Rattle.theory.specs.FormulaClasses.{binders, WellFormed}
use Rattle.theory.specs.MealyMachine.{Machine, after}
use Rattle.theory.specs.ReachableStates.{state_at}
use Rattle.theory.specs.CharacteristicFormula.{Writes}
use Rattle.theory.specs.FormulaWriting.{written}
use Rattle.theory.specs.DemandSets.{set_machine, first_set}
use Rattle.theory.specs.{Exploration.{same_bits, bit_machine, first_bits, sequences_of, state_count}, Claims.{CharacteristicClaim}}
use Rattle.theory.proofs.{SemanticsEquality.{answers_claim}, SetMachine.{table_of_iff}}
use Rattle.theory.proofs.{ExploredStates.{in_order, explored_words, explored_different}, BitSets.{same_bits_iff, same_as_bits}}
use Rattle.theory.proofs.TableClaims.{table_claim}
use Rattle.theory.proofs.CharacteristicFormula.{writes_tree, writes_one, written_writes, root_position, writes_well_formed, writes_size}
use Rattle.theory.proofs.{CharacteristicValues.{writes_values}, CharacteristicTable.{states_at_most, table_count}}

module _ {B : Type 0} (In : B → Type 0) (meet : B → B → B) (top : B) (laws : MeetSemilattice In meet top) (events : ℕ) where
  -- Exploring a written formula finds no more states than it has V nodes, whatever the limit.
  module _ (m : Machine ℕ B) (s : ℕ) (φ : Formula B) (w : Writes m events [] s φ) (width limit : ℕ) (wide : size φ ≤ width) where
    abbrev q : Machine (List Bool) B
    q = bit_machine width meet top φ

    abbrev begin : List Bool
    begin = first_bits width meet top φ

    abbrev P : List (List ℕ)
    P = sequences_of width meet top φ events limit

    different :
        (j l : ℕ) → j < l → l < length (in_order P) →
        ¬ (state_at events (set_machine meet top φ) (first_set φ) (in_order P) j
        ≡ state_at events (set_machine meet top φ) (first_set φ) (in_order P) l)
    different j l u h e =
        explored_different same_bits same_bits_iff events q begin limit j l u h
        ((same_as_bits width meet top φ wide events).together (get_or (in_order P) j []) (get_or (in_order P) l [])
        (explored_words same_bits same_bits_iff events q begin limit j (omega arith))
        (explored_words same_bits same_bits_iff events q begin limit l h) e)

    pub written_few : state_count width meet top φ events limit ≤ binders φ
    written_few =
        omega (
          arith,
          length-map P reverse,
          states_at_most φ m events meet top (writes_tree m events w) (in_order P)
              (explored_words same_bits same_bits_iff events q begin limit) different,
        )

  pub characteristic_claim : CharacteristicClaim In meet top laws events
  characteristic_claim n last m ev runs s l =
      let φ : Formula B = written m n last s in
      let w : Writes m events [] s φ = written_writes m events In n runs last ev s l in
      let g : WellFormed events In φ = writes_well_formed m events In n runs w l in (
        w,
        (λ χ v. writes_one m events v w),
        g.closed,
        root_position m events (writes_tree m events w),
        g.fits,
        (λ v h e u. (answers_claim In meet top events φ g v e (m.value (after m s v) e)).1
            (sym (writes_values m events In n runs meet top laws w l v h e u))),
        writes_size m events w,
        (λ k t h. table_count m events meet top w k t ((table_of_iff meet top φ g.guarded events k t).0 h)),
        (table_claim In meet top events φ g (size φ) (binders φ) (omega arith)).0.0
            (written_few m s φ w (size φ) (binders φ) (omega arith)),
      )
