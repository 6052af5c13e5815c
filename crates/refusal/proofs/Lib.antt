-- Laws of the first refusal, of the lowest place and of their computing twins.
pub mod Refusals
pub mod Answers
