-- Words, numbers and lists, then the claims and the parts.
pub mod WordLemmas
pub mod Numbers
pub mod Items
pub mod Lists
pub mod Names
pub mod Claims
pub mod Parts
