-- `check_fields` meets its contract. The loop's invariant: the search from i on, and the walk from `used` on, find what those from 0 on do.
use Prim.Native.Nat.{ℕ}
use mathlib.Core.{List.{List}, Bool.{Bool, not}}
use Rattle.formulas.proofs.{Trees.{TreeTo}}
use Rattle.formulas.specs.{NodeWalks.{field}, RuleReading.{kind_of, fields_fit}}
use lib.ListN.{get_or}
use Rattle.values.specs.declared.ValueKind.{ValueKind}
use Rattle.values.specs.ValueTests.{value_fits}
use Rattle.formulas.proofs.check_fields.Given as goal

abbrev pub misfit : ℕ → ValueKind → List ℕ → List ℕ → List ℕ → ℕ → Bool
misfit events kind kinds firsts values i =
    not (fields_fit events (kind_of (get_or kinds i 0)) (get_or firsts i 0) (get_or values i 0) (value_fits kind (get_or values i 0)))

abbrev pub invariant-loop-i : goal.invariant-loop-i
invariant-loop-i l = TreeTo (misfit l.events l.kind l.nodes.kinds l.nodes.firsts l.nodes.values) (field l.nodes.kinds) l.nodes.count l.parts l.used l.i
