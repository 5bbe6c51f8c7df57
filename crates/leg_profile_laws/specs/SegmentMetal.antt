-- The points of the metal of segments, and of rectangles that a path draws.
use Rattle.std.specs.Prelude.{◌⊎◌, List, [], ◌∷◌}
use Rattle.leg_geom.specs.Plane.{PointModel}
use Rattle.leg_design_records.specs.declared.records.Wire.{Wire}
use Rattle.leg_design_records.specs.declared.records.Wire.TheVariants.{Segment, ViaAt, Patch}
use Rattle.leg_rules.specs.Metal.Outline.{HasPointOf}
use Rattle.leg_rules.specs.Metal.Outline.Outline.{Line, Shifted}

-- the point is of the metal of a segment
abbrev pub IsOfSegment : Wire → PointModel → Type 0
IsOfSegment (Segment layer from to width ext_from ext_to) p = HasPointOf (Line from to width ext_from ext_to) p
IsOfSegment (ViaAt number at) p = ⊥
IsOfSegment (Patch layer at rect) p = ⊥

-- the point is of the metal of a rectangle at a point of a path
abbrev pub IsOfPatch : Wire → PointModel → Type 0
IsOfPatch (Segment layer from to width ext_from ext_to) p = ⊥
IsOfPatch (ViaAt number at) p = ⊥
IsOfPatch (Patch layer at rect) p = HasPointOf (Shifted at rect) p

-- the point is of the metal of one of these
abbrev pub IsOfSome : List Wire → PointModel → Type 0
IsOfSome [] p = ⊥
IsOfSome (wire ∷ wires) p = IsOfSegment wire p ⊎ IsOfSome wires p
