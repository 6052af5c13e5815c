-- A store is that of one tool of each kind.
use mathlib.Core.{Path.{ap}, List.{List}}
use Prim.Native.Nat.{ℕ}
use Rattle.values.specs.declared.ValueKind.{ValueKind}
use Rattle.values.specs.declared.ValueKind.TheVariants.{Numbered, Register}
use Rattle.recorder.specs.{declared.Tool.{Tool}, declared.Wheel.{Wheel}, declared.kinds.Numbers.{Numbers}, declared.kinds.Registers.{Registers}}
use Rattle.recorder.specs.Store.{Store, StoreClaim}

abbrev count : ValueKind → ℕ
count (Numbered n) = n
count (Register lines) = lines

abbrev wheel_in : Store → Wheel
wheel_in s = record { pulses = s.wheel.pulses; millimetres = s.wheel.millimetres }

-- The tools that a store is that of.
abbrev tool_with : {K : Type 0} → (Store → K) → Store → Tool K (List ℕ)
tool_with kind s =
    record {
      setup = record { events = s.setup.events; kind = kind s; wheel = wheel_in s };
      states = s.states;
      current = s.current;
      total = s.total;
      value = s.value;
      next = s.next;
    }

abbrev numbers_in : Store → Numbers
numbers_in s = record { values = count s.setup.kind; top = s.setup.top; meet = s.setup.meet }

abbrev registers_in : Store → Registers
registers_in s = record { lines = count s.setup.kind }

pub one_store : StoreClaim
one_store = record { of_numbers = λ t u e. ap (tool_with numbers_in) e; of_registers = λ t u e. ap (tool_with registers_in) e }
