-- In reading order: what is written, also of a register's file, what is claimed of it, and last what the private functions of src/ say.
pub mod Writing
pub mod RegisterWriting
pub mod Claims
pub mod Steps
