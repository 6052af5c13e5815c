-- Tests of a product by remainder and quotient.
pub mod Products
-- Entry l × events + e of a table.
pub mod EntryIndex
-- Laws of entries in bytes, of any width.
pub mod EntryBytes
-- Machines and bytes are read back as each other.
pub mod TableRoundTrip
-- Refusal 11 is the printed condition.
pub mod TableRefusals
-- The tests of refusal 11 one after the other.
pub mod TableTests
-- Outputs put over a buffer, and flat arrays stored as a table.
pub mod Stores
