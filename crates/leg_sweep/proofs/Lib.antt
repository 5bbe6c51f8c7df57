-- Pairs and their order
mod Unique
pub mod Apart
mod PairLists
mod Counts
-- The sweep from left to right
mod SinkPairs
mod Nearness
mod Progress
mod Tallies
pub mod Turns
mod Places
mod InOrder
mod SweepSoFar
mod MetItems
mod FoundSoFar
mod FewPairs
mod OnLayers
mod OneBand
-- What the proofs of other crates cite
pub mod Lists
pub mod Edges
-- The bands of each layer
mod GridHeights
pub mod GridSums
mod GridSpans
mod GridBands
mod GridPlaces
mod GridRanges
-- The left edges in buckets
mod Buckets
-- The index of rectangles
mod NearNodes
mod NodeGroups
mod IndexCuts
-- The rectangles near each one
mod Cuts
mod LayerNodes
mod NearItems
