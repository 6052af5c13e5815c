-- What is computed of a case is lifted to document 01's definitions.
pub mod Lifting
-- The marked cases.
pub mod MarkedCases
