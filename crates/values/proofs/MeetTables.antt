-- A meet table is a square of at most 16 rows.
use Rattle.values.specs.{declared.MeetTable.{MeetTable}, SetupTests.{Square}}

pub square : (t : MeetTable) → Square t.values t.entries.now
square t = record { small = t.small; whole = t.whole }
