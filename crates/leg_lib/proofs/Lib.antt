-- The forms of a text
mod Layers
mod SoundLayers
mod SoundNames
mod GeneratedVias
mod SoundReferences
mod Vias
mod Sites
mod PastForms
mod Rules
mod SoundRules
mod Forms
-- Macros
mod Points
mod Sides
mod CopiedShapes
mod PathLines
mod SoundCopies
mod DrawnShapes
mod Pins
mod MacroForms
mod MacroSkips
-- Texts one after the other
mod Readings
