-- In reading order.
-- The trial of a device against a rule's table: what is handed in, its refusals, and what its answers say.
pub mod Trial
-- What the contract computes with.
pub mod TrialAnswer
-- What is claimed of it.
pub mod Claims
-- What the private parts of the search keep.
pub mod PairQueue
