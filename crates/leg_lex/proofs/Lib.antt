-- Cutting a text into words
mod Runs
mod Quotes
mod LineFeeds
mod Cuts
mod OneWord
mod TextWords
-- Numbers
mod Digits
mod Points
mod Decimals
mod Exact
mod Units
-- Loops over words
mod OptionalKeyword
mod Marks
mod WordsAt
mod StatementSearch
-- What the proofs of other crates cite
pub mod Parts
pub mod PieceKinds
pub mod InBits
pub mod Gives
pub mod GivesAll
pub mod Until
pub mod EachElement
pub mod Shorter
pub mod Keywords
pub mod ReadPast
pub mod Statements
pub mod NameLookup
pub mod Denotations
