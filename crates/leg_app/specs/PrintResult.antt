-- What `print` prints of a design.
use Rattle.std.specs.Prelude.{◌≡◌, ℕ, List}
use Rattle.leg_lib_records.specs.Sound.{IsSound}
use Rattle.leg_design_records.specs.Records.{DesignModel}
use Rattle.leg_design_records.specs.WellFormed.{IsWellFormed}
use Rattle.leg_output.specs.Text.Whole.{design_text}

-- What is printed is the text of the design. The design is well-formed, and its library sound.
pub record PrintsDesign (design : DesignModel) (text : List ℕ) : Type 0 where
  pub proper : IsWellFormed design
  pub sound : IsSound design.library
  pub is : text ≡ design_text design
