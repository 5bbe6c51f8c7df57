-- A design routed, and what `route` prints of a design: it routed, or why it is not.
use Rattle.std.specs.Prelude.{◌≡◌, ℕ, List}
use Rattle.leg_lib_records.specs.Sound.{IsSound}
use Rattle.leg_design_records.specs.Records.{DesignModel}
use Rattle.leg_design_records.specs.WellFormed.{IsWellFormed}
use Rattle.leg_design_records.specs.declared.fault.Fault.{Fault}
use Rattle.leg_rules.specs.Metal.Flat.{FlatModel, IsJudgedBy}
use Rattle.leg_rules.specs.Route.GridSize.{IsGridTooLarge}
use Rattle.leg_rules.specs.Route.Refusals.{IsNotClean, IsUnroutable}
use Rattle.leg_rules.specs.Legal.{IsLegal}
use Rattle.leg_rules.specs.Route.SameButForWires.{IsSameButForWires}
use Rattle.leg_rules.specs.Route.Result.{IsRouted}
use Rattle.leg_rules.specs.Legal.{IsCleanIn}
use Rattle.leg_rules.specs.Route.Refusal.{ComesToRun, HasTooMany}
use Rattle.leg_output.specs.Text.Whole.{design_text}
use Rattle.leg_output.specs.Commands.Check.{too_many_text}
use Rattle.leg_output.specs.Commands.Route.{not_clean_text, grid_too_large_text, unroutable_text}

-- The second design is the first one, whose grid is not too large, routed: legal, and the same but for wires that entries of NETS
-- got after their own, which are those of a routing run. It is well-formed, and its library sound.
pub record Routes (before after : DesignModel) : Type 0 where
  pub fits : ¬ IsGridTooLarge before
  pub legal : IsLegal after
  pub same : IsSameButForWires before after
  pub run : IsRouted before after
  pub proper : IsWellFormed after
  pub sound : IsSound after.library

-- What is printed is the design routed.
pub record PrintsRouted (design : DesignModel) (text : List ℕ) : Type 0 where
  pub routed : DesignModel
  pub routes : Routes design routed
  pub is : text ≡ design_text routed

-- why a design is not routed: violations other than open nets, too large a grid, a net that no open walk leads on, or too
-- many shapes
pub data ReportsNotRouted (design : DesignModel) : List ℕ → Type 0 where
  not_clean : {flat : FlatModel} {violations : List Fault} {text : List ℕ} → IsJudgedBy design flat
      → IsNotClean design flat violations → text ≡ not_clean_text design flat violations → ReportsNotRouted design text
  grid_too_large : {flat : FlatModel} {text : List ℕ} → IsCleanIn design flat → IsGridTooLarge design
      → text ≡ grid_too_large_text → ReportsNotRouted design text
  unroutable : {flat : FlatModel} {net : ℕ} {text : List ℕ} → ComesToRun design flat → IsUnroutable design flat net
      → text ≡ unroutable_text design net → ReportsNotRouted design text
  too_many : {text : List ℕ} → HasTooMany design → text ≡ too_many_text → ReportsNotRouted design text
