-- What the code knows on its way. No meaning of a public call speaks of it.
pub mod ComponentFault
pub mod ListPrefix
pub mod SiteSpan
pub mod RowSpans
pub mod Floorplan
