-- Outlines and the rectangles that they are
mod Outlines
pub mod OutlineLines
-- Nets by their numbers
mod NetIndexes
mod NetNumbers
mod NetOf
mod NetOfTerminal
-- The pieces of nets, and where terminals are
mod PieceTables
mod PlacesAmong
mod MorePlaces
mod NetTerminals
mod NetSizes
mod NetPlaces
mod NetPieces
mod AllNets
-- The metal of a design, shape by shape
mod MoreMetal
mod MetalWalks
mod MetalOwners
mod MetalLines
mod MetalSizes
mod Registers
mod MetalWhole
-- Each piece of metal is a rectangle
mod OutlineRects
mod MetalRects
mod SomeFlat
-- Laws: numbers of nets and of pieces
mod EntryNames
mod ListPlaces
mod PiecePlaces
mod MetalCases
mod MetalPieces
mod TerminalsOnce
mod PieceMetal
mod MetalSources
mod LoneTerminals
-- Limits
mod Counts
mod ShapeCounts
mod FlatWithin
-- What the proofs of other crates cite
pub mod OneFlat
pub mod LastPiece
pub mod DrawnMetal
pub mod Parts
-- A net that gets a wire
mod OneMoreWire
