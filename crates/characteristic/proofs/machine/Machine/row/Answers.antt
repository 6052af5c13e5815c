-- `Machine::row` meets its contract: a next state is a byte, and a value that is read from bytes fits them.
use mathlib.Core.Path.{subst⁻¹}
use Prim.Native.Nat.{◌+◌, ◌*◌}
use native.Mathlib.Omega.{arith}
use Rattle.values.specs.Setup.{value_width}
use Rattle.machines.specs.Claims.{OfBytes}
use Rattle.machines.specs.TableBytes.{entry_width}
use Rattle.characteristic.proofs.Appended.{read_fits}
use Rattle.characteristic.proofs.machine.Machine.row.Goals as goal

pub returns-clause-small : goal.returns-clause-small
returns-clause-small c =
    omega (
      arith,
      c.next_at-next.ensures,
      c.args.self.now.in_bytes
          ((c.args.state * c.args.self.now.events + c.args.event) * entry_width c.args.self.now.kind + value_width c.args.self.now.kind),
    )

pub returns-clause-fits : goal.returns-clause-fits
returns-clause-fits c =
    subst⁻¹ (OfBytes c.args.self.now.kind) c.value_at.ensures
    (read_fits c.args.self.now.kind c.args.self.now.entries.now (c.args.state * c.args.self.now.events + c.args.event) c.args.self.now.in_bytes)
