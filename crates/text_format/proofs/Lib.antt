-- The laws of each combinator, of numbers and of series; then the place of refusal for every format.
pub mod Combinators
pub mod Decimal
pub mod Series
pub mod Place
