-- A design legalised, and what `legalise` prints of a design: it legalised, or why it is not.
use Rattle.std.specs.Prelude.{◌≡◌, ◌≢◌, ℕ, ℤ, List, []}
use Rattle.leg_lib_records.specs.Sound.{IsSound}
use Rattle.leg_design_records.specs.Records.{DesignModel}
use Rattle.leg_design_records.specs.WellFormed.{IsWellFormed}
use Rattle.leg_design_records.specs.declared.fault.Fault.{Fault}
use Rattle.leg_design_records.specs.Violation.{IsListOf}
use Rattle.leg_rules.specs.Placement.Violations.{IsLegallyPlaced}
use Rattle.leg_rules.specs.Legalise.Run.{IsLegalised}
use Rattle.leg_rules.specs.Legalise.SameButForPlaces.{IsSameButForPlaces}
use Rattle.leg_rules.specs.Legalise.Moves.{AreMoves}
use Rattle.leg_rules.specs.Legalise.Refusals.{IsStayingViolation, NoneStaying, IsLeastUnsuited, AreSuited, IsStuck}
use Rattle.leg_output.specs.Commands.Legalise.{legalised_text, fixed_illegal_text, no_site_text, no_room_text}

-- The second design is the first one, legalised: legally placed, and the same but for the places of movable components, of
-- which each has its best free position. It is well-formed, and its library sound.
pub record Legalises (before after : DesignModel) : Type 0 where
  pub legal : IsLegallyPlaced after
  pub same : IsSameButForPlaces before after
  pub run : IsLegalised before after
  pub proper : IsWellFormed after
  pub sound : IsSound after.library

-- What is printed is the design legalised, and how far each component has moved.
pub record PrintsLegalised (design : DesignModel) (text : List ℕ) : Type 0 where
  pub legalised : DesignModel
  pub legalises : Legalises design legalised
  pub distances : List ℤ
  pub total : ℤ
  pub greatest : ℤ
  pub moves : AreMoves design legalised distances total greatest
  pub is : text ≡ legalised_text legalised distances total greatest

-- why a design is not legalised: violations of components that stay, a component that fits no row, or one for
-- which no position was free
pub data ReportsNotLegalised (design : DesignModel) : List ℕ → Type 0 where
  fixed_illegal : {violations : List Fault} {text : List ℕ} → IsListOf (IsStayingViolation design) violations → violations ≢ []
      → text ≡ fixed_illegal_text design violations → ReportsNotLegalised design text
  no_site : {c : ℕ} {text : List ℕ} → (¬ IsLegallyPlaced design) → NoneStaying design → IsLeastUnsuited design c
      → text ≡ no_site_text design c → ReportsNotLegalised design text
  no_room : {c : ℕ} {text : List ℕ} → NoneStaying design → AreSuited design → IsStuck design c
      → text ≡ no_room_text design c → ReportsNotLegalised design text
