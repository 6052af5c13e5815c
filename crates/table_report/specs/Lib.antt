-- In reading order.
-- What is printed for a text.
pub mod PrintedTable
-- What the contract computes with.
pub mod Report
-- What is claimed of it.
pub mod Claims
