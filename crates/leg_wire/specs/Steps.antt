-- Intermediate state of the code, and what crates of one algorithm know of one another. No promise of a command rests on it.
pub mod TooCloseRule
pub mod MeetingRule
pub mod PieceMetal
pub mod AddedFaults
pub mod PairViolations
pub mod Kinds
pub mod SharedPoints
pub mod NumberSets
pub mod JoinSteps
pub mod Joins
pub mod OpenViolations
