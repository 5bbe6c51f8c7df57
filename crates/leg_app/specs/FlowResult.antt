-- What `flow` prints of a design: it legalised and then routed, or why one of the two is not done.
use Rattle.std.specs.Prelude.{◌≡◌, ℕ, ℤ, List}
use Rattle.leg_design_records.specs.Records.{DesignModel}
use Rattle.leg_rules.specs.Legalise.Moves.{AreMoves}
use Rattle.leg_output.specs.Commands.Legalise.{legalised_text}
use Rattle.leg_app.specs.LegaliseResult.{Legalises, ReportsNotLegalised}
use Rattle.leg_app.specs.RouteResult.{Routes, ReportsNotRouted}

-- What is printed is the design routed, once it was legalised, and how far each component has moved.
pub record PrintsFlow (design : DesignModel) (text : List ℕ) : Type 0 where
  pub legalised : DesignModel
  pub legalises : Legalises design legalised
  pub routed : DesignModel
  pub routes : Routes legalised routed
  pub distances : List ℤ
  pub total : ℤ
  pub greatest : ℤ
  pub moves : AreMoves design legalised distances total greatest
  pub is : text ≡ legalised_text routed distances total greatest

-- the design is not legalised, or it is, and what came of it is not routed
pub data ReportsFlowStopped (design : DesignModel) : List ℕ → Type 0 where
  not_legalised : {text : List ℕ} → ReportsNotLegalised design text → ReportsFlowStopped design text
  not_routed : {legalised : DesignModel} {text : List ℕ} → Legalises design legalised → ReportsNotRouted legalised text
      → ReportsFlowStopped design text
