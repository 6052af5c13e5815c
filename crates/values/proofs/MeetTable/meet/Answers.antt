-- `MeetTable::meet` meets its contract: the place lies within a whole table.
use Rattle.values.proofs.MeetTables.{square}
use native.Mathlib.Omega.{arith}
use borrow.Author.Rules.{rules}
use Rattle.theory.specs.ValueSets.{meet_at}
use Rattle.values.proofs.Setups.{place_small}
use Rattle.values.proofs.MeetTable.meet.Goals as goal

pub overflow_mul-a : goal.overflow_mul-a
overflow_mul-a c = omega (arith, place_small c.args.a c.args.b (square c.args.self) c.requires.0 c.requires.1)

pub overflow_add-a : goal.overflow_add-a
overflow_add-a c = omega (arith, place_small c.args.a c.args.b (square c.args.self) c.requires.0 c.requires.1)

pub returns : goal.returns
unfolding meet_at
returns c = search rules
