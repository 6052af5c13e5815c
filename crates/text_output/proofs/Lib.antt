-- Texts put one after another; numerals.
pub mod Outputs
