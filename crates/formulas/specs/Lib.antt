-- In reading order.
-- Nodes and formulas in bytes; the conditions of 5 to 9.
pub mod RuleConditions
-- What contracts compute with: the twin of RuleConditions.
pub mod RuleReading
pub mod RuleRefusal
pub mod NodeArrays
-- What is proved with, and what walks over nodes promise.
pub mod NodeCode
pub mod NodeReading
pub mod NodeWalks
-- The theorems as propositions.
pub mod Claims
-- Cases.
pub mod RuleCases
