pub use Rattle.leg_grammar.specs.Def.NetScope
pub mod Steps
