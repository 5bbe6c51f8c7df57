-- Polygons of SPECIALNETS (LEF/DEF 5.8, "Special Wiring Statement"; that one is kept as the segments of its slabs is lefdef's own
-- rule).
use Rattle.std.specs.Prelude.{ℕ, List, [], ◌++◌, Option, Some, codes}
use Rattle.leg_lex.specs.Words.{Words, ◌>>=◌, keyword_at}
use Rattle.leg_lex.specs.Until.{over}
use Rattle.leg_geom.specs.Plane.{RectModel}
use Rattle.leg_design_records.specs.declared.records.Wire.{Wire}
use Rattle.leg_grammar.specs.Def.NetScope.{NetScopeModel}
use Rattle.leg_grammar.specs.Def.Polygon.{polygon_at}
use Rattle.leg_grammar.specs.Def.Wiring.{routing_at}
use Rattle.leg_grammar.specs.Def.SpecialRect.{rect_wires}

-- one more slab's wires, after those before it
unfoldable pub with_slab : ℕ → List Wire → RectModel → Option (List Wire)
with_slab layer wires slab = do
  more ← rect_wires layer slab
  Some (wires ++ more)

-- POLYGON layer points: the wires of each slab
unfoldable pub special_polygon_at : NetScopeModel → Words → Option (List Wire × Words)
special_polygon_at scope clause = do
  start ← keyword_at (codes "POLYGON") clause
  layer ← routing_at scope.library start.1
  slabs ← polygon_at layer.1
  wires ← over (with_slab layer.0) [] slabs.0
  Some (wires, slabs.1)
