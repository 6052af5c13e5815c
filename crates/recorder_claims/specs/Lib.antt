-- In reading order.
-- Document 01's log.
pub mod ChannelLog
-- What is claimed of the tool and its calls.
pub mod Claims
