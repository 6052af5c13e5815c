-- Texts piece by piece, how long they are, and the answers.
pub mod Graphs
-- The refusals.
pub mod GraphClaims
