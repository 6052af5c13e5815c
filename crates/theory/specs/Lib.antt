-- In reading order.
-- Value sets and their order.
pub mod ValueSets
-- Formulas, their nodes in prefix order, and their meaning.
pub mod Formula
-- Machines, simulation, satisfaction by the set definition, and the words on which one machine fails against another.
pub mod MealyMachine
-- The table of a formula.
pub mod ReachableStates
-- The formula of a table.
pub mod CharacteristicFormula
-- What contracts compute with: the laws of a meet table, the depth of binders, values and followers, demands, numbered states, the formula
-- of a table, the first failing word.
pub mod ValueSetTests
pub mod BinderDepth
pub mod Evaluation
pub mod DemandSets
pub mod Exploration
pub mod FormulaWriting
pub mod ConformanceCheck
-- What is proved with: classes of formulas, machines on words, decided relations and sets.
pub mod FormulaClasses
pub mod MachineRuns
pub mod TableSatisfaction
-- The theorems as propositions.
pub mod ValueSetClaims
pub mod Claims
