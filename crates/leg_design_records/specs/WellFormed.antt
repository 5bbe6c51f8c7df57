-- What holds of every design that a DEF denotes under a library (lefdef's own rules, after LEF/DEF 5.8, "DEF Syntax").
use Rattle.std.specs.Prelude.{All, IsTrue}
use Rattle.leg_lex.specs.Words.{is_name}
use Rattle.leg_design_records.specs.WellFormedParts.{IsKept, IsArea, AreComponents, IsRow, IsTrack, AreVias, ArePins, AreBlockages}
use Rattle.leg_design_records.specs.WellFormedNets.{HasNets}
use Rattle.leg_design_records.specs.Records.{DesignModel}

-- A design is well-formed under its library.
pub record IsWellFormed (design : DesignModel) : Type 0 where
  pub name : IsTrue (is_name design.name)
  pub divider : IsKept design.divider
  pub bus : IsKept design.bus
  pub die : IsArea design.die
  pub components : AreComponents design.library design.components
  pub rows : All (IsRow design.library) design.rows
  pub tracks : All (IsTrack design.library) design.tracks
  pub vias : AreVias design.library design.vias
  pub pins : ArePins design.library design.pins
  pub blockages : AreBlockages design.library design.blockages
  pub nets : HasNets design
