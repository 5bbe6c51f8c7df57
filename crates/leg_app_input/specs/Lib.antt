-- What a run is given
pub mod Options
pub mod Line
pub mod Stream
