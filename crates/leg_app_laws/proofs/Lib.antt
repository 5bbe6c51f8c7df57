-- Comment lines after a text
mod NoFeeds
mod Comments
mod Moves
mod Wires
-- What printed texts say
mod RoundTrips
mod Legal
-- What differs between a DEF and a printed text
mod ComparisonLines
mod PrintedDifferences
