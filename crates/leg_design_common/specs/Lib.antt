pub use Rattle.leg_design_records.specs.Records
-- What a table of turned vias holds.
pub mod Steps
