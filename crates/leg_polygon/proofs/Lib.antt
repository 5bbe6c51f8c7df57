-- Lists in steps, and what an odd number of elements pass
pub mod StepLists
pub mod Parity
pub mod ParityLists
-- Rising lists of numbers
pub mod SortedNumbers
pub mod RisingNumbers
pub mod NumberFolds
pub mod OddNumbers
pub mod AloneNumbers
-- The rectangles of the bands
pub mod EdgePairs
pub mod ClosedWalk
pub mod WalkEdges
pub mod RunSquares
pub mod Bands
-- The rows from the bottom up
pub mod SideEnds
pub mod PassedEnds
pub mod SlabLimit
-- The laws
pub mod SlabSquares
pub mod OneList
