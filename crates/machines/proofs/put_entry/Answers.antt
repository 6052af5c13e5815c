-- `machines::put_entry` meets its contract, kind by kind: stores one after the other.
use mathlib.Core.Path.{◌≡◌}
use Prim.Native.Nat.{suc, ◌+◌}
use native.Mathlib.Omega.{arith}
use Rattle.theory.specs.ValueSets.{unpack}
use Rattle.machines.proofs.put_entry.Goals as goal

pub returns-in-Register : goal.returns-in-Register
unfolding unpack
returns-in-Register c =
    let one : c.args.at + 1 ≡ suc c.args.at = omega arith in
    let two : c.args.at + 2 ≡ suc (suc c.args.at) = omega arith in
    let three : c.args.at + 3 ≡ suc (suc (suc c.args.at)) = omega arith in
    let four : c.args.at + 4 ≡ suc (suc (suc (suc c.args.at))) = omega arith in
    rw c.in-Register.is (cc (one, two, three, four))
