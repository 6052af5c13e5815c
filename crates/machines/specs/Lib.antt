-- In reading order.
-- Entries of a table in bytes, the machine of lent bytes, and refusal 11 as a condition.
pub mod TableBytes
-- Refusal 11 computed.
pub mod TableRefusal
-- Entries of flat arrays stored to a lent buffer.
pub mod StoredEntries
-- What is claimed of them.
pub mod Claims
