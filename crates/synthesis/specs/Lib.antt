-- In reading order.
-- The conditions of compiling.
pub mod TableOfRule
-- What the contracts of the compiler compute with, and what is claimed of it.
pub mod FormulaTable
pub mod KeptSets
pub mod Compilation
pub mod Claims
-- What the private walks keep and answer: sets in words, binders, rows of demands, states, entries.
pub mod NodeWords
pub mod MarkedNodes
pub mod StatePlaces
pub mod NodeWalks
pub mod Binding
pub mod DemandRows
pub mod Exploring
pub mod KeptDemands
pub mod TableEntries
pub mod MadeTable
