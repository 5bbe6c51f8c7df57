-- Free sites of one row
mod OneStretch
mod FirstFits
mod LastFits
mod Valley
mod NearerSide
mod NearestSites
-- Sites taken away
mod JoinedStretches
mod CutPoints
mod ListSplit
mod TakenSites
-- Rows
mod KeyOrder
mod ListPlaces
mod Parts
mod PartPlaces
mod RowBounds
mod RowTree
mod RowPlaces
mod SharedLists
mod ListMoves
mod BoxAtNode
mod BestBeneath
mod RowsAround
mod RowCandidates
-- Sites by their edges
mod SiteEdges
mod SharedSquares
mod SiteSquares
-- What the proofs of other crates cite: which sites are met, free sites and clear boxes, the best position, mirroring
pub mod BestSoFar
pub mod MetSites
pub mod FreeLists
mod TakenRows
mod OnlyRow
mod RowsInside
mod LeafLists
mod Branches
pub mod ClearBoxes
pub mod MacroBoxes
pub mod MacroPlaces
