-- What it is to put a text into a buffer.
pub mod Output
