-- Texts piece by piece and how long they are; a table handed in, judged and rendered.
pub mod Texts
pub mod Renderings
