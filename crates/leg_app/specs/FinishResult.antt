-- A design finished, and what `finish` prints of a design: it finished, or why it is not.
use Rattle.std.specs.Prelude.{◌≡◌, ◌<◌, ℕ, List, length}
use Rattle.leg_lib_records.specs.Sound.{IsSound}
use Rattle.leg_design_records.specs.declared.limits.TheConstants.{PART_LIMIT}
use Rattle.leg_design_records.specs.declared.fault.Fault.{Fault}
use Rattle.leg_design_records.specs.Records.{DesignModel}
use Rattle.leg_design_records.specs.WellFormed.{IsWellFormed}
use Rattle.leg_rules.specs.Metal.Flat.{FlatModel, IsJudgedBy}
use Rattle.leg_rules.specs.Metal.Metal.{metal_of}
use Rattle.leg_rules.specs.declared.grid_limits.TheConstants.{GREATEST_GRID}
use Rattle.leg_rules.specs.Route.GridSize.{IsGridBeyond}
use Rattle.leg_rules.specs.Route.Refusals.{IsNotClean}
use Rattle.leg_rules.specs.Legal.{IsLegal}
use Rattle.leg_rules.specs.Route.SameButForWires.{IsSameButForWires}
use Rattle.leg_rules.specs.Legal.{IsCleanIn}
use Rattle.leg_rules.specs.Finish.Reach.{IsFirstUnreachable}
use Rattle.leg_rules.specs.Finish.Refusal.{ComesToSearch, AreUnfinished}
use Rattle.leg_rules.specs.Finish.Wires.{AddsToOpenNets, AddsWalks, HaveTotals}
use Rattle.leg_output.specs.Commands.Check.{too_many_text}
use Rattle.leg_output.specs.Commands.Route.{not_clean_text, grid_too_large_text}
use Rattle.leg_output.specs.Commands.Finish.{finished_text, unreachable_text, unfinished_text}

-- The second design is the first one, whose grid is not beyond the limit, finished: legal, and the same but for wires that entries of
-- NETS got after their own, each only if its net was open: wires of walks over the grid. It is well-formed, and its library sound.
pub record Finishes (before after : DesignModel) : Type 0 where
  pub fits : ¬ IsGridBeyond GREATEST_GRID before
  pub legal : IsLegal after
  pub same : IsSameButForWires before after
  pub open_only : AddsToOpenNets before after
  pub walks : AddsWalks before after
  pub proper : IsWellFormed after
  pub sound : IsSound after.library

-- What is printed is the design finished, how long its added wires are together, and how many of them are vias.
pub record PrintsFinished (design : DesignModel) (text : List ℕ) : Type 0 where
  pub finished : DesignModel
  pub finishes : Finishes design finished
  pub length : ℕ
  pub vias : ℕ
  pub totals : HaveTotals design finished length vias
  pub is : text ≡ finished_text finished length vias

-- why a design is not finished: violations other than open nets, too large a grid, a piece that cannot be reached whatever other nets do,
-- nets that are left though each piece can be, or too many shapes
pub data ReportsNotFinished (design : DesignModel) : List ℕ → Type 0 where
  not_clean : {flat : FlatModel} {violations : List Fault} {text : List ℕ} → IsJudgedBy design flat
      → IsNotClean design flat violations → text ≡ not_clean_text design flat violations → ReportsNotFinished design text
  grid_too_large : {flat : FlatModel} {text : List ℕ} → IsCleanIn design flat → IsGridBeyond GREATEST_GRID design
      → text ≡ grid_too_large_text → ReportsNotFinished design text
  unreachable : {flat : FlatModel} {net piece : ℕ} {text : List ℕ} → ComesToSearch design flat → IsFirstUnreachable design flat net piece
      → text ≡ unreachable_text design flat net piece → ReportsNotFinished design text
  unfinished : {flat : FlatModel} {nets : List ℕ} {text : List ℕ} → ComesToSearch design flat → AreUnfinished design flat nets
      → text ≡ unfinished_text design nets → ReportsNotFinished design text
  too_many : {text : List ℕ} → PART_LIMIT < length (metal_of design) → text ≡ too_many_text → ReportsNotFinished design text
