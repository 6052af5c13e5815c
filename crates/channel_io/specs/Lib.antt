-- In reading order.
-- Reading and writing a file: the conditions, and what an accepted call yields; a register's file as the second form.
pub mod FileConditions
pub mod RegisterFiles
-- The table of a file by one call.
pub mod FileTables
-- What contracts compute with: refusals, the answer to reading a file, to making its table, to writing one, and the buffers afterwards.
pub mod FileRefusals
pub mod FileReading
pub mod FileCompilation
pub mod FileWriting
-- What is claimed of them.
pub mod Claims
-- What the private functions of src/ say.
pub mod Steps
pub mod RegisterSteps
