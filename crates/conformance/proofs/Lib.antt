-- Places of pairs fit.
pub mod Places
-- What a pair of states shows.
pub mod Pairs
-- The queue holds the words of the search.
pub mod Queues
-- Pushing a pair's successors adds their words.
pub mod Successors
-- The search is breadth-first exploration.
pub mod Progress
-- The words that the arrays link, and how they are written.
pub mod Words
-- The search's start and its answer.
pub mod Starts
-- A trial's refusals and answers.
pub mod Trials
-- The claims on a trial.
pub mod TrialClaims
