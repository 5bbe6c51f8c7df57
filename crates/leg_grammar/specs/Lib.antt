-- The grammar: which library and which design texts denote.
pub mod Profiles
pub mod Mask
pub mod Lef
pub mod Def
pub mod Texts
