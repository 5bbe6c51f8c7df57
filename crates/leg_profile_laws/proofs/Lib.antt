-- What one reading gives, another gives too
pub mod Keeps
mod KeepsUnless
mod Follows
mod Sections
mod Letters
mod PlainWords
-- Forms of a DEF
mod SameTracks
mod SameVias
mod Scopes
mod SamePins
mod SameBlockages
mod SameItems
mod SamePaths
mod SameNets
mod SameSkippedForms
mod SameForms
-- Forms of a LEF
mod SameGeometry
mod SameMacros
mod SameLefVias
mod PlainForms
-- Whole texts
mod SameLibrary
pub mod SameDesign
-- Forms of the wide profile alone
mod RectMetal
mod WideMetal
