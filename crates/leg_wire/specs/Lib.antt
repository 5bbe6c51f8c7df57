pub mod NetShapes
pub mod PieceMarks
pub mod Joins
pub mod Steps
