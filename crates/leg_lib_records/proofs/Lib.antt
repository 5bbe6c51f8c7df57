-- Good vias
mod JoinLayers
mod MoreLayers
mod SameJoins
-- ExtentModel in database units
mod Scaling
-- What holds of every library
mod References
mod Sound
mod SoundRaw
-- Libraries that say the same
mod Same
-- What other crates cite: names that are apart, and lists that stand one for one
pub mod LibraryNames
pub mod OneEach
