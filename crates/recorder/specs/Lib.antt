-- In reading order.
-- What a tool holds, however it is represented, and when a call on it is refused.
pub mod Store
-- What contracts compute with: the tests of 17, what load takes from the compiler, how rows are
-- replaced, what each call answers and leaves, a sequence of events.
pub mod ToolTests
pub mod Splicing
pub mod CompiledRule
pub mod Called
pub mod Replay
-- What the private functions decide before anything is written.
pub mod Decisions
