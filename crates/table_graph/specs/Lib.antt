-- In reading order.
-- A table as a digraph.
pub mod GraphText
-- The call that renders it.
pub mod Graph
