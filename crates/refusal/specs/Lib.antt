-- In reading order.
-- The order of refusals, which refusal a call gives, what is claimed of every call, and a lent buffer after it.
pub mod Refusal
-- What contracts compute refusals with.
pub mod RefusalAnswers
-- What is claimed of the first refusal.
pub mod RefusalClaims
