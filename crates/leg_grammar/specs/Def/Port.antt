-- The rectangles and polygons of ports of pins (LEF/DEF 5.8, "Pins"; that polygons are read in the wide profile alone is lefdef's
-- own rule).
use Rattle.std.specs.Prelude.{ℕ, List, [], Option, None, Some, codes}
use Rattle.leg_lex.specs.Words.{Words, ◌>>=◌, keyword_at, nothing_at}
use Rattle.leg_geom.specs.Plane.{RectModel}
use Rattle.leg_lib_records.specs.Records.{LibraryModel}
use Rattle.leg_design_records.specs.declared.records.Status.TheVariants.{Unplaced}
use Rattle.leg_grammar.specs.declared.profile.Profile.{Profile}
use Rattle.leg_grammar.specs.Profiles.{is_wide}
use Rattle.leg_grammar.specs.Def.Guard.{when}
use Rattle.leg_grammar.specs.Def.Clause.{past_number}
use Rattle.leg_grammar.specs.Mask.{past_mask}
use Rattle.leg_grammar.specs.Def.Placement.{rect_at}
use Rattle.leg_grammar.specs.Def.Polygon.{polygon_at}
use Rattle.leg_grammar.specs.Def.Layers.{layer_named_at}
use Rattle.leg_design_records.specs.Records.{PortModel}

abbrev pub empty_port : PortModel
empty_port = record { shapes = []; status = Unplaced; place = None }

-- [SPACING number] [DESIGNRULEWIDTH number]
unfoldable pub past_rules : Words → Option (Unit {0} × Words)
past_rules words = do
  spacing ← past_number (codes "SPACING") words
  past_number (codes "DESIGNRULEWIDTH") spacing.1

-- LAYER NAME mask [SPACING number] [DESIGNRULEWIDTH number] corners: the layer's number, and the rectangle
unfoldable pub layer_rect : Profile → LibraryModel → Words → Option (ℕ × RectModel)
layer_rect profile library clause = do
  start ← keyword_at (codes "LAYER") clause
  layer ← layer_named_at library start.1
  mask ← past_mask profile layer.1
  rules ← past_rules mask.1
  rect ← rect_at rules.1
  end ← nothing_at rect.1
  Some (layer.0, rect.0)

-- POLYGON NAME mask [SPACING number] [DESIGNRULEWIDTH number] points: the layer's number, and the slabs
unfoldable pub layer_polygon : Profile → LibraryModel → Words → Option (ℕ × List RectModel)
layer_polygon profile library clause = do
  wide ← when (is_wide profile)
  start ← keyword_at (codes "POLYGON") clause
  layer ← layer_named_at library start.1
  mask ← past_mask profile layer.1
  rules ← past_rules mask.1
  slabs ← polygon_at rules.1
  end ← nothing_at slabs.1
  Some (layer.0, slabs.0)
