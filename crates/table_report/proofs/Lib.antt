-- The line of a refusal, the table of a file, the answers, and the claims; and last what the documents alone say of a report.
pub mod Texts
pub mod Tables
pub mod Answers
pub mod ReportClaims
pub mod ReportDemands
