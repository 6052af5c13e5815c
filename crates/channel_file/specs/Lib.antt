-- In reading order: the form, its format, the answer to a text, the bytes stored from it; the same of a register's file; the claims; and
-- last what the private functions of src/ say.
pub mod ChannelFile
pub mod FileFormat
pub mod Reading
pub mod Bytes
pub mod RegisterFile
pub mod RegisterFormat
pub mod RegisterReading
pub mod Claims
pub mod Steps
pub mod RegisterSteps
