-- In reading order.
-- The user's three demands.
pub mod Demands
-- Document 02's requests.
pub mod Requests
-- The entries beside document 01's.
pub mod Extras
