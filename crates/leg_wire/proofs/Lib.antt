-- Shorts, and shapes too near
mod PairLists
mod SpacingLists
mod ReachBound
-- Kinds of metal
mod AlikeMetal
mod KindPairs
mod PairsInOrder
-- Disjoint sets
mod SetRoots
mod WayUp
mod SetUnions
mod MergedLists
-- Metal that may lie somewhere
mod NearShapes
-- Pieces that touch
mod SinglePoints
mod SeenPoints
pub mod NetNumbers
mod PieceMetal
mod PiecesTouch
-- Pieces that are joined
pub mod JoinedLaws
pub mod Touches
mod SetsOfPairs
mod SomeMetal
mod StandIns
mod NewPairs
mod PieceOrder
mod JoinedList
mod OnePieceMore
mod OpenPieces
