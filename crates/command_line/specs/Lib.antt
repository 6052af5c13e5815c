-- In reading order: the words of a line, numbers, lists, the names of the commands, the two parts of a text, the claims; and last
-- what the private functions of src/ say.
pub mod Words
pub mod Numbers
pub mod Lists
pub mod Names
pub mod Parts
pub mod Claims
pub mod Steps
