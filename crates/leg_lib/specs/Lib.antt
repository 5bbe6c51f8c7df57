pub use Rattle.leg_lib_records.specs.Measure
pub use Rattle.leg_lib_records.specs.Records
pub use Rattle.leg_lib_records.specs.Joins
pub use Rattle.leg_lib_records.specs.JoinLaw
pub use Rattle.leg_lib_records.specs.GoodVia
pub use Rattle.leg_lib_records.specs.Scale
pub use Rattle.leg_lib_records.specs.Sound
pub mod Steps
