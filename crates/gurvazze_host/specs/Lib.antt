-- In reading order.
-- An answer as one number.
pub mod Codes
-- The table of a file's rule, events replayed by it, and trial against it.
pub mod FileCalls
-- What is claimed of them.
pub mod Claims
