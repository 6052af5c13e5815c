-- Which nodes have tokens, the texts of series, the reply, and the claims.
pub mod Nodes
pub mod Texts
pub mod Replies
pub mod Claims
