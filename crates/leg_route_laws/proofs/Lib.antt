-- Lists, and the pieces of nets; the first two are cited by routers
pub mod Places
pub mod Within
mod PiecesWith
-- Shapes that are clear of one another
mod StillClean
mod CleanCover
mod LinePoints
mod LineRects
mod RunClean
-- A flat that grows
mod Growth
mod WiresClean
mod GrownNumbers
-- The design that gets the wires: what stays, and where pieces of nets go
mod ByNet
mod SameNets
mod FixedMetal
mod Moves
mod RenumberedPieces
mod SameShapes
mod NetMetal
mod NetWires
mod FlatPieces
mod PieceMoves
mod LikeShapes
mod MetalCount
-- What is legal
pub mod OpenNets
mod Placement
mod Legal
-- What stays the same
mod SameButFor
mod FewWires
