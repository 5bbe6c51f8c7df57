-- Where metal of a net may lie (lefdef's own rule).
use Rattle.std.specs.Prelude.{ℕ, None, Contains}
use Rattle.leg_geom.specs.Plane.{RectModel}
use Rattle.leg_lib_records.specs.Records.{LibraryModel}
use Rattle.leg_rules.specs.declared.owner.Owner.TheVariants.{Net}
use Rattle.leg_rules.specs.declared.shape.Shape.{Shape}
use Rattle.leg_rules.specs.Metal.Flat.{FlatModel}
use Rattle.leg_rules.specs.Spacing.RequiredSpacing.{greatest_spacing_on}
use Rattle.leg_rules.specs.Spacing.Closer.{AreCloserThan}

-- metal of this net, as no piece of it and of no component
abbrev pub net_metal : ℕ → ℕ → RectModel → Shape
net_metal net layer rect = record { layer = layer; rect = rect; owner = Net net; component = None; piece = None }

-- The rectangle on this layer, as metal of this net, shares no point with a comparable shape of the flat, and lies no nearer to one
-- than the greatest spacing on the layer. How near it is to the net's own shapes doesn't matter.
pub record IsClean (library : LibraryModel) (flat : FlatModel) (net layer : ℕ) (rect : RectModel) : Type 0 where
  pub far : (shape : Shape) → Contains flat.shapes shape → ¬ AreCloserThan (greatest_spacing_on library layer) (net_metal net layer rect) shape
