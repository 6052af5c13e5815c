-- Distance with every event (document 02, F-6): the wheel of a tool's set-up, what an event carries and what it returns; 18 and 19.
use Rattle.std.proofs.Math.Option.{Option, none, some}
use Rattle.std.specs.Prelude.{ℕ, ◌+◌, ◌*◌, ◌/◌, ◌%◌, ◌≤◌, ◌<◌}
use Rattle.limits.specs.Limits.{turn_limit, total_limit}

-- "The tool's set-up gains pulses per wheel turn, P, and millimetres per turn, C."
pub record Wheel : Type 0 where
  pub pulses : ℕ
  pub millimetres : ℕ

abbrev pub wheel_of_turn : ℕ → ℕ → Wheel
wheel_of_turn pulses millimetres = record { pulses = pulses; millimetres = millimetres }

-- "Each 1 to 65,535"; 18: "P or C outside its range".
abbrev pub WheelFault : Wheel → Type 0
WheelFault wheel =
    ¬ (((1 ≤ wheel.pulses) × (wheel.pulses ≤ turn_limit)) × ((1 ≤ wheel.millimetres) × (wheel.millimetres ≤ turn_limit)))

-- "An event carries the pulses since that channel's last accepted event."
pub record Occurrence : Type 0 where
  pub event : ℕ
  pub pulses : ℕ

-- "Whole millimetres, total × C divided by P, with the exact remainder in P-ths of a millimetre."
abbrev pub distance : Wheel → ℕ → ℕ × ℕ
distance wheel total = ((total * wheel.millimetres) / wheel.pulses, (total * wheel.millimetres) % wheel.pulses)

-- What an accepted event returns: the value, and the distance of a total.
pub record Reading (B : Type 0) : Type 0 where
  pub value : B
  pub millimetres : ℕ
  pub remainder : ℕ

abbrev pub reading : {B : Type 0} → Wheel → B → ℕ → Reading B
reading wheel v total = record { value = v; millimetres = (distance wheel total).0; remainder = (distance wheel total).1 }

-- 19: "a total above 1,099,511,627,776", on a channel that has a total: an empty one has none.
abbrev pub TotalAbove : Option ℕ → ℕ → Type 0
TotalAbove none pulses = ⊥
TotalAbove (some total) pulses = total_limit < total + pulses
