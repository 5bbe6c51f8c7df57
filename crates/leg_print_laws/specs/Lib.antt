pub mod Forms
pub mod PrintedNames
