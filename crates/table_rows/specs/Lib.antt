-- In reading order.
-- What is printed for a table, and the conditions of a call that renders one.
pub mod TableText
pub mod TableConditions
-- What contracts compute with: the values of a table handed in, a call that renders one, and the one that prints its rows.
pub mod Handed
pub mod Rendering
pub mod Rows
-- What is claimed of them.
pub mod Claims
