-- The claims on kinds of values.
pub mod ValueKinds
-- The claims on values in bytes.
pub mod ValueBytes
-- What the tests of a set-up say, and the claims on set-ups.
pub mod Setups
-- How values compare.
pub mod Comparisons
-- The laws of a meet table by sets of values.
pub mod DownSets
-- What the check of a set-up passes on and tells.
pub mod HandedIn
-- A meet table is a square.
pub mod MeetTables
