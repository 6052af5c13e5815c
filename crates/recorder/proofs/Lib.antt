-- Parts of lists and copies into them; where channels' rows lie, and what a splice makes of them.
pub mod Rows
pub mod RowTotals
pub mod Splices
pub mod Copies
-- One test for many numbers taken together.
pub mod Together
-- What channels hold, and the tests of refusal 17.
pub mod Held
-- Refusal 17's test of channels, split into that of their values and the rest.
pub mod ChannelTests
-- The rows of channels, by what they hold and by the counts.
pub mod RowCounts
-- What channels hold once one of them has another table.
pub mod Shifts
-- What is decided is what the definitions of the calls say.
pub mod Decided
-- The compiler's answer beside an accepted set-up.
pub mod CompiledRules
-- What load decides and stores.
pub mod Loads
-- The run over a sequence of events.
pub mod Runs
-- A sequence of events is the event call repeated.
pub mod Replays
-- A store is that of one tool.
pub mod Tools
