-- Numbers held in bytes, and which of them are judged; then what the functions' proofs share; then the claims; and last what document 01
-- alone says of reading, writing and compiling.
pub mod Clamping
pub mod Pairs
pub mod RegisterBytes
pub mod ShownBytes
pub mod RegisterPairs
pub mod TablePairs
pub mod TextCalls
pub mod Claims
pub mod Callers
pub mod WriteAnswers
pub mod RegisterWrites
pub mod HandedIn
pub mod FormDemands
pub mod FileDemands
pub mod RegisterDemands
