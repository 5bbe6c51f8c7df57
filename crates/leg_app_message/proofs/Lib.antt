-- Folds over the front of a list.
mod Columns
mod Forms
-- Words behind those that begin lengths.
mod Statements
