-- The formats' laws, then what the functions' proofs share, then the claims; and last what document 01 alone says of a text.
pub mod RuleItems
pub mod FileFormat
pub mod RegisterFormat
pub mod Offsets
pub mod TokenReading
pub mod Reading
pub mod Buffers
pub mod Storing
pub mod Forms
pub mod Claims
pub mod Accepted
pub mod TextDemands
pub mod RegisterClaims
pub mod RegisterReading
