-- Cuts of one net that are too near one another (LEF/DEF 5.8, "Layer (Cut)", on SPACING and SAMENET).
use Rattle.std.specs.Prelude.{◌≡◌, ◌≢◌, ℕ, Some, slice_get, unsigned_abs}
use Rattle.leg_lib_records.specs.declared.records.Layer.{Layer}
use Rattle.leg_lib_records.specs.declared.records.LayerKind.TheVariants.{Cut}
use Rattle.leg_lib_records.specs.Records.{LibraryModel}
use Rattle.leg_rules.specs.declared.owner.Owner.TheVariants.{Net}
use Rattle.leg_rules.specs.declared.shape.Shape.{Shape}
use Rattle.leg_rules.specs.Spacing.Violations.{AreNearer}
use Rattle.leg_drc_rules.specs.Records.{LayerRulesModel, DeckModel}

-- both shapes are of this net
pub record AreOfNet (n : ℕ) (a b : Shape) : Type 0 where
  pub of_a : a.owner ≡ Net n
  pub of_b : b.owner ≡ Net n

-- the layer of this number is one of cuts
pub record IsCutLayer (library : LibraryModel) (number : ℕ) : Type 0 where
  pub layer : Layer
  pub has_layer : slice_get library.layers number ≡ Some layer
  pub cut : layer.kind ≡ Cut

-- Two shapes of one net are different rectangles of one layer of cuts, and nearer than its spacing within a net.
pub record AreNearCuts (library : LibraryModel) (deck : DeckModel) (a b : Shape) : Type 0 where
  pub net : ℕ
  pub rules : LayerRulesModel
  pub of_net : AreOfNet net a b
  pub layer : a.layer ≡ b.layer
  pub cuts : IsCutLayer library a.layer
  pub differ : a.rect ≢ b.rect
  pub has_rules : slice_get deck.layers a.layer ≡ Some rules
  pub near : AreNearer (unsigned_abs rules.net_spacing) a.rect b.rect
