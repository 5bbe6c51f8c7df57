-- Marks of components.
use Rattle.std.specs.Prelude.{◌≡◌, ◌↔◌, ℕ, Bool, true, ◌<◌, List, length, Some, slice_get}
use Rattle.leg_design_records.specs.Records.{DesignModel}
use Rattle.leg_design_records.specs.Movable.{IsMovable}

-- a mark for each component below end, whether it stays
pub record AreMarksBelow (design : DesignModel) (end : ℕ) (marks : List Bool) : Type 0 where
  pub count : length marks ≡ end
  pub each : (c : ℕ) → c < end → (slice_get marks c ≡ Some true) ↔ (¬ IsMovable design c)
