pub mod MarkedCases
