-- In reading order.
-- Values of either kind, in numbers and in bytes; a set-up and its refusals.
pub mod Setup
-- A set-up as it is handed in, and the values of an accepted one.
pub mod HandedIn
-- What contracts compute with: tests of values and of a set-up.
pub mod ValueTests
pub mod SetupTests
-- The laws of a meet table by sets of values.
pub mod DownSets
-- What an accepted set-up is.
pub mod SetupInOrder
-- What is claimed of them.
pub mod Claims
