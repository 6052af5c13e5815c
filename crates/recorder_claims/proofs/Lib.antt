-- Each call's effect on the channels.
pub mod View
-- The set-up is judged by its conditions.
pub mod SetUps
-- What a load stores.
pub mod LoadedRules
-- A sound tool stays sound.
pub mod Keeps
-- The claims.
pub mod Claims
-- The refusal of a call is the first that its conditions give.
pub mod CallRefusals
-- Document 01's log by its own sentences.
pub mod PrintedLog
-- The public entries by what they reply and hand back.
pub mod Calls
-- A load on any tool.
pub mod Loading
