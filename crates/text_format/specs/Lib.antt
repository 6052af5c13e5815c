-- In reading order.
-- Texts as a reader writes them down, and where a text is refused.
pub mod Texts
-- What contracts compute with: what a format is, how formats are put together, numbers, series.
pub mod Format
pub mod Combinators
pub mod Decimal
pub mod Series
-- What is claimed of them.
pub mod Claims
