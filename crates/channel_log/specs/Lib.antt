-- In reading order.
-- Distance with every event (document 02, F-6).
pub mod Distance
-- The calls, what they reply, what channels hold, how they stand by the log, and which calls concern one channel.
pub mod Calls
-- One store of rows for the tool (document 02, F-12).
pub mod Rows
-- What contracts compute with: how channels take calls; the log's channels, and a tool's.
pub mod CallSteps
pub mod Log
pub mod Recorded
-- Demand 3 and independence as propositions, for any tool.
pub mod Claims
