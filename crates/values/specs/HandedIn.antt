-- A set-up as it is handed in, and the values of an accepted one, as document 01 and 02 have them.
use mathlib.Core.{List.{List, []}, Path.{◌≡◌}}
use Rattle.std.specs.Prelude.{ℕ}
use Rattle.theory.specs.ValueSets.{pack, top_masks}
use Rattle.values.specs.{declared.SetUp.{SetUp}, declared.Values.{Values}, declared.ValueSet.{ValueSet}}
use Rattle.values.specs.declared.Values.TheVariants.{Numbered as NumberedValues, Register as RegisterValues}
use Rattle.values.specs.{declared.ValueKind.TheVariants.{Numbered, Register}, Setup.{Setup, setup, register_setup, setup_of_kind}}

abbrev pub setup_of : SetUp → Setup
setup_of s = values_of s.values
  where
    values_of : Values → Setup
    values_of (NumberedValues values top meet) = setup s.events values top meet.now
    values_of (RegisterValues lines) = register_setup s.events lines

abbrev pub setup_of_set : ℕ → ValueSet → Setup
setup_of_set events v = setup_of_kind events v.kind v.top v.meet.now

-- What the private functions that make value sets say.
pub record IsNumbered (values top : ℕ) (meet : List ℕ) (v : ValueSet) : Type 0 where
  pub kind_is : v.kind ≡ Numbered values
  pub top_is : v.top ≡ top
  pub meet_is : v.meet.now ≡ meet

pub record IsRegister (lines : ℕ) (v : ValueSet) : Type 0 where
  pub kind_is : v.kind ≡ Register lines
  pub top_is : v.top ≡ pack (top_masks lines)
  pub meet_is : v.meet.now ≡ []
