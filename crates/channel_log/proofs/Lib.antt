-- In the order in which they build on each other.
pub mod Simulation
pub mod Independence
pub mod Record
