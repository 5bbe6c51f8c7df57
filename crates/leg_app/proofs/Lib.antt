-- What texts say, which the proofs of other crates cite too
pub mod Denotations
-- What is answered
mod AnswerLemmas
mod OneMaking
mod OneAnswer
mod CutTexts
mod CutStreams
mod OneStream
mod Reasons
mod Comparisons
mod OneComparison
