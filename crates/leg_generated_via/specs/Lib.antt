pub use Rattle.leg_design_records.specs.Records
