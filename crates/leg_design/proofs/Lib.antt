-- Forms of the header, and forms that are read past.
mod Microns
mod Headers
mod Skips
mod TurnedParts
-- That each form shortens the words that are left.
mod FormsShorter
mod Forms
-- That the design that the forms say is well-formed.
mod ReadForms
mod ReadNetForms
pub mod ReadDesigns
mod Designs
-- What a text says.
mod Readings
