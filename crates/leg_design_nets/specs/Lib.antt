pub use Rattle.leg_design_records.specs.Records
pub use Rattle.leg_grammar.specs.Def.NetScope
pub mod Steps
