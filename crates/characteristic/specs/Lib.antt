-- In reading order.
-- The conditions of a call.
pub mod RuleOfTable
-- What the contract computes with: its answer, and what the lent buffer holds afterwards.
pub mod RuleWriting
-- What the parts of the walk promise: nodes appended to a buffer, and the path of open states.
pub mod NodeOutput
-- What is claimed of them.
pub mod Claims
-- Cases of document 01.
pub mod WrittenCases
