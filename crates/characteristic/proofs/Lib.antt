-- Nodes appended one after the other.
pub mod Appended
-- The path of open states in an array from states to depths.
pub mod OpenPath
-- The rule of a state and its rows, from the nodes that are appended for them.
pub mod Walks
-- The output copied to the front of a lent buffer.
pub mod Outputs
-- The answer of a call and the buffer afterwards.
pub mod Answers
-- The proofs of the claims.
pub mod Claims
-- The cases of document 01.
pub mod WrittenCases
